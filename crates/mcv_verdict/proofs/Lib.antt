pub mod PartFaults
