pub mod Lines
pub mod Limits
pub mod FirstEntry
pub mod AnswersOfTexts
