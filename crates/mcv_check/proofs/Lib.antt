pub mod Steps
pub mod SpotBySpot
pub mod Classes
pub mod NoFaultOfJustified
pub mod JudgedSets
