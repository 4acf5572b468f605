pub mod Lists
pub mod Numbering
pub mod Filling
pub mod Images
pub mod Putting
