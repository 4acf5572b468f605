pub mod Least
pub mod Exact
pub mod Real
pub mod Tracks
pub mod Scripts
pub mod Marks
pub mod Made
pub mod Examples
