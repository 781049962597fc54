pub mod Insides
pub mod Pieces
pub mod CommentEnds
pub mod OneReading
pub mod StrippedOrOpen
mod Examples
