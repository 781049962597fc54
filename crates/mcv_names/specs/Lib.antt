pub mod Fault
pub mod Path
pub mod Lists
pub mod Handles
