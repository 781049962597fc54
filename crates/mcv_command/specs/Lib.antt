pub mod Stop
pub mod Detail
pub mod Program
