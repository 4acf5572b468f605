pub mod Gaining
pub mod Sorted
pub mod Follow
pub mod Pairing
pub mod Widening
pub mod Whole
