pub mod Adding
pub mod Entries
pub mod Instances
pub mod Splits
pub mod Stars
