pub mod Counts
pub mod Metrics
pub mod Text
