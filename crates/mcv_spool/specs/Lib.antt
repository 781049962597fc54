pub mod Disk
pub mod Fault
pub mod File
pub mod FoundFile
pub mod Version
pub mod History
pub mod WorstDisk
