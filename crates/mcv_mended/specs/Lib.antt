pub mod Mend
pub mod Members
pub mod Classes
pub mod Starts
