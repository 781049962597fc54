pub mod Connections
pub mod Life
mod Examples
