pub mod Causes
pub mod Joining
pub mod Picking
pub mod Pairs
