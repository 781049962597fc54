pub mod Order
pub mod AlikePolicies
pub mod AlikeRests
pub mod Members
pub mod Existence
pub mod PolicyPrefixes
pub mod Links
pub mod LastWord
pub mod ClassLists
pub mod TableOfWords
pub mod TableHasClasses
mod Examples
