pub mod Moments
pub mod Ending
pub mod Patience
pub mod SpoolState
pub mod VainWaits
pub mod Posts
pub mod Leftover
pub mod Places
