pub mod Upstream
pub mod Life
