pub mod WarmUps
pub mod Hits
pub mod Asks
