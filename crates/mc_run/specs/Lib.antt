pub mod Asking
pub mod Models
pub mod Steps
pub mod Adding
pub mod Runs
pub mod Interpret
