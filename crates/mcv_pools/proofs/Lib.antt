pub mod Tables
pub mod Sameness
pub mod Choices
mod Examples
