pub mod Faults
pub mod ReadLists
pub mod Arrays
pub mod Operations
pub mod ReadFacts
mod Examples
