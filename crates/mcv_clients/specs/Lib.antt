pub mod Life
pub mod Steps
pub mod Asking
pub mod Clients
