pub mod Texts
pub mod Prefixes
pub mod Rooms
pub mod Classes
pub mod Unique
pub mod Ends
