pub mod Documents
pub mod Sites
