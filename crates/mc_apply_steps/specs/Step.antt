pub mod Stepped
pub mod Values
