pub mod Entries
pub mod Rows
pub mod Events
pub mod Runs
pub mod Sums
pub mod Reservations
pub mod QueuedLegs
pub mod Status
