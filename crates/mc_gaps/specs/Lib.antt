pub mod Lacking
pub mod Unmet
