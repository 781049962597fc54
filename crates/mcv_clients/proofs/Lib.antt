pub mod Lives
pub mod Serials
pub mod Tables
