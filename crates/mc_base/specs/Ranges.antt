pub mod Ends
pub mod Range
pub mod Thresholds
