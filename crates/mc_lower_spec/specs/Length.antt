pub mod Lengths
pub mod Waiting
