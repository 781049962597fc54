pub mod Needs
pub mod InMemory
pub mod Wanted
