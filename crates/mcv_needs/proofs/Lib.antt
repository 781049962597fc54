pub mod WantedBlocks
pub mod ClassNeeds
pub mod EraSets
mod Examples
