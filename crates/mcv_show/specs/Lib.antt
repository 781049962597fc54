pub mod Explained
pub mod Reported
pub mod AsAsked
