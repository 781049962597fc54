pub mod Symbol
pub mod Table
pub mod Hash
pub mod Choice
