pub mod Numbers
pub mod Landing
pub mod Life
pub mod Examples
