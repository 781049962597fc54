pub mod AddedPairs
pub mod OneListOfPairs
pub mod PickedReasons
pub mod AnsweredHasReasons
