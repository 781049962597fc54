pub mod EachMember
pub mod EraLine
pub mod EscapedByte
pub mod Regions
pub mod LegsAreBelow
pub mod Tests
pub mod GatheredChildren
pub mod WalkIsRight
pub mod Fronts
pub mod SelectorWalk
pub mod Shades
pub mod RouteWalk
pub mod ConfirmedFindings
pub mod LongestWord
pub mod LongestSelected
pub mod BreakDecision
pub mod Losses
mod Examples
