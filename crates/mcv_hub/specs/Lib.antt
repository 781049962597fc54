pub mod RemainingEntries
pub mod History
pub mod State
pub mod Receipts
pub mod Events
pub mod Weights
pub mod Gate
pub mod Seats
