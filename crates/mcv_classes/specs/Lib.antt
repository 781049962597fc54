pub mod Words
pub mod Class
pub mod Table
pub mod Laws
