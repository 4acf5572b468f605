pub mod Sat
pub mod Search
pub mod Tries
