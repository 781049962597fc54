pub mod Addresses
pub mod Due
pub mod Letters
pub mod Spooler
pub mod Tokens
