pub mod Picks
pub mod Reasons
pub mod Tables
