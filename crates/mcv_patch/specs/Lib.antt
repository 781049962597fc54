pub mod Patch
pub mod Pointer
pub mod Operations
pub mod Text
pub mod Child
