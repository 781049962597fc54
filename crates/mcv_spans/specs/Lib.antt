pub mod Place
pub mod Stands
pub mod Quoted
pub mod Parts
