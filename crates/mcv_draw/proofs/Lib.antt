pub mod ChildCounts
pub mod DrawnApart
pub mod DrawnInTurn
pub mod Escaping
pub mod Labels
pub mod LegsInOrder
pub mod MadeOfParts
pub mod SameMarks
