pub mod WholeInput
pub mod Insertions
pub mod SameAliases
pub mod ReadAliases
mod Examples
