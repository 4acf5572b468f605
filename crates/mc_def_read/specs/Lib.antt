pub mod Judging
pub mod Scopes
pub mod Readings
pub mod Words
pub mod Fields
