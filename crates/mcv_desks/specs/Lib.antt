pub mod OneKey
pub mod Desks
pub mod Mixed
pub mod Asked
pub mod Open
