pub mod Text
pub mod Verdict
pub mod Fault
