pub mod Document
pub mod Pointer
pub mod Site
pub mod Pools
pub mod View
