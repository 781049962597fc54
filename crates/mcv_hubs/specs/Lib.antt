pub mod Blanks
pub mod Choice
pub mod Counts
pub mod Taken
pub mod Reports
