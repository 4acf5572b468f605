pub mod Cases
pub mod Searching
pub mod Told
