pub mod Seen
pub mod Demo
pub mod Ending
