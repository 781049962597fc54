pub mod Blocks
pub mod Coverage
pub mod Sets
pub mod MergedLegs
pub mod Places
pub mod SetsInEras
pub mod Spots
