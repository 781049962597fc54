pub mod Gaps
pub mod Least
