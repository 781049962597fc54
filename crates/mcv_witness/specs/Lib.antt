pub mod Finding
pub mod Breaks
pub mod Text
pub mod Walk
pub mod LongestWord
pub mod Confirm
