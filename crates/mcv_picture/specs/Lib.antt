pub mod Drawing
pub mod Found
pub mod Reached
