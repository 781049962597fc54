pub mod Pipeline
pub mod Life
