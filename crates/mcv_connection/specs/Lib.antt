pub mod Transfer
pub mod Elapsed
