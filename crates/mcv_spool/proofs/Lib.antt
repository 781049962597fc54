pub mod Appends
mod Examples
pub mod Marks
pub mod Moments
pub mod Pieces
pub mod Records
pub mod Repair
pub mod SettledSpool
pub mod Slots
pub mod Versions
pub mod Histories
pub mod WorstDisk
