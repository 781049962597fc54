pub mod Ends
pub mod Oldest
