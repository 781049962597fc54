pub mod Kept
pub mod Mending
pub mod Aliases
