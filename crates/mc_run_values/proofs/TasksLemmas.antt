pub mod Falling
pub mod Rows
pub mod Arriving
pub mod Ending
