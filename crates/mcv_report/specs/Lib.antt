pub mod Json
pub mod Object
pub mod FindingReport
pub mod CertificateReport
pub mod FaultReport
