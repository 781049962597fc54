mod Counts
mod RowsMayWrite
mod BreaksLeft
mod EventsMayWrite
mod Histories
mod CheckedReceipts
mod AskedCalls
mod DueChapters
mod AddedWeights
pub mod Books
pub mod Crossing
mod Examples
