pub mod TidyStates
pub mod Heads
pub mod Jumps
pub mod Lines
pub mod Folds
