pub mod Lists
pub mod Leaving
pub mod Unnamed
pub mod Made
