pub mod Fault
pub mod Judgements
