pub mod FreeIndexes
pub mod Place
pub mod FirstFinding
pub mod ShownFinding
