pub mod Sums
pub mod Entries
pub mod Numbering
pub mod Recording
pub mod EventsAreMoves
pub mod CoresKeepDeletes
pub mod Reservations
pub mod QueuedLegs
pub mod Status
mod Examples
