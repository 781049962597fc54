pub mod Took
pub mod Channel
pub mod Life
pub mod Repeat
pub mod Lost
pub mod Probe
pub mod Legs
pub mod Line
