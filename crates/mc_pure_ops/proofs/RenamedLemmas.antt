pub mod Sorted
pub mod Gathering
pub mod Merges
