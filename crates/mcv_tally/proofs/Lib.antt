mod CountedWords
pub mod Texts
pub mod CountedWordsAreShown
