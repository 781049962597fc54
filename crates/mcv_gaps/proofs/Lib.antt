pub mod Searched
pub mod Sized
pub mod Mapped
pub mod Answering
pub mod LeastLegs
pub mod GapsOfLists
pub mod Owners
pub mod Inserted
pub mod Needed
pub mod MissedSoFar
mod Examples
