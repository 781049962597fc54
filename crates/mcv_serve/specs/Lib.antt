pub mod Faults
pub mod Pending
pub mod Reports
