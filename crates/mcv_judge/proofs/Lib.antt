pub mod FaultAtPlace
pub mod FirstFault
pub mod Order
pub mod Bridge
pub mod AnsweringPairs
pub mod Lookup
pub mod Steps
pub mod Servers
mod Examples
