pub mod PositionTails
pub mod ReplyOfStatus
mod Examples
