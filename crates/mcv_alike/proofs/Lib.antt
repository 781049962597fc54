pub mod Answers
pub mod Moves
pub mod MoveExists
pub mod Alike
pub mod PartsAlike
pub mod SamePlans
pub mod Growing
pub mod Numbers
mod Examples
