pub mod Reason
pub mod Faults
pub mod Answers
pub mod PairsInMemory
pub mod Numbers
pub mod Walk
