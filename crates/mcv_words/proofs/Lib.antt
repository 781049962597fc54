mod Examples
pub mod CommandIsNamed
pub mod OptionValues
pub mod Matches
