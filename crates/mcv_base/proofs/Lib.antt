pub mod Cuts
pub mod Prefixes
pub mod HashedPart
pub mod Texts
pub mod Colon
mod Examples
