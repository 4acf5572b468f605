pub mod Arena
pub mod Times
pub mod Thin
pub mod Stack
