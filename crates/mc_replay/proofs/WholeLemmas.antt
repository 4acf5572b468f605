pub mod Ready
pub mod Moving
pub mod Kinds
pub mod Listing
pub mod Putting
pub mod Ended
