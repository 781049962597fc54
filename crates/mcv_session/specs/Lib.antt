pub mod Desk
pub mod Exchange
pub mod Session
pub mod ServedSession
pub mod Machine
pub mod Turns
pub mod Drive
