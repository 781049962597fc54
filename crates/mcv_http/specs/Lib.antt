pub mod Request
pub mod Reading
pub mod Response
