pub mod Gap
pub mod BlockSteps
pub mod PickedReasons
