pub mod Starts
pub mod Kept
pub mod Reached
pub mod Changes
pub mod Edges
