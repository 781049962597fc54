pub mod Life
pub mod Asking
pub mod LegsAreLost
pub mod Unwritten
pub mod WritesNothing
pub mod InFlight
pub mod OfOneServer
