mod Examples
mod Keys
mod Counting
mod Closing
mod Opening
pub mod Crossing
