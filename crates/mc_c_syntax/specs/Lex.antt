pub mod Bytes
pub mod Spots
pub mod Pieces
pub mod Readings
