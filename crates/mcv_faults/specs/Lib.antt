pub mod FaultName
pub mod FaultPointer
pub mod TextPlace
pub mod FaultLine
