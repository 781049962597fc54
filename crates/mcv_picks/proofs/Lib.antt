pub mod TwinsAreEqual
pub mod SearchResults
pub mod FilledSlots
pub mod LeastSymbol
pub mod PicksHold
pub mod GatheredLegs
