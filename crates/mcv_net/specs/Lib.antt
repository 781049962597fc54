-- What a proxy on sockets prints, and whom it tells.
pub mod Fault
pub mod Lines
pub mod Seats
pub mod Shortages
