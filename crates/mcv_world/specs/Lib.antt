pub mod World
pub mod Moves
pub mod PossibleMoves
pub mod LiveWorld
pub mod KeptLegs
pub mod Laws
