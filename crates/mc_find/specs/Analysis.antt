pub mod Examples
pub mod Findings
