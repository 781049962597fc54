pub mod Alike
pub mod Plans
pub mod Numbers
pub mod Laws
