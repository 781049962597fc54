pub mod WholeInput
pub mod Documents
pub mod Patches
