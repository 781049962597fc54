pub mod Operation
pub mod Reply
pub mod Key
pub mod Position
pub mod Server
