pub mod Positions
pub mod Whole
pub mod Fits
pub mod OneReading
pub mod Numbering
pub mod Folds
pub mod Sayings
pub mod Exits
