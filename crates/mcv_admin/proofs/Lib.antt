mod Examples
pub mod Coming
