pub mod Driving
mod Examples
pub mod Items
pub mod Life
pub mod Pieces
pub mod Serving
pub mod Turning
