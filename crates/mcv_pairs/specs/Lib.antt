pub mod AddedPairs
pub mod Gaps
pub mod Reasons
