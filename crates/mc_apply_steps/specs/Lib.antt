pub mod Compute
pub mod Instructions
pub mod Step
