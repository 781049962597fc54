pub mod WholeInput
pub mod Verdicts
