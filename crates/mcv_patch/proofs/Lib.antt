pub mod Depth
pub mod Behind
pub mod Pieces
pub mod Put
mod Examples
