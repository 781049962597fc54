pub mod Request
pub mod Text
pub mod Answer
pub mod Fault
pub mod Limits
