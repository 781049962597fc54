pub mod Scene
pub mod Explanation
pub mod Compared
