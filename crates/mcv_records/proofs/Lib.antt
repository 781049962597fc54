mod Examples
pub mod Listing
