pub mod Lasts
pub mod Entries
pub mod Moves
