pub mod Searches
pub mod PoolSizes
pub mod OneListOfBlocks
pub mod NoFaultHasReasons
pub mod JustifiedIsCovered
pub mod CoveredHasReasons
pub mod MergesRise
pub mod RouteClasses
pub mod BlocksOfSpots
pub mod BlockAtEachSpot
pub mod Parts
pub mod BlockOfSets
pub mod SetsEraByEra
pub mod SpotsInTurn
mod Examples
mod CoveredExample
