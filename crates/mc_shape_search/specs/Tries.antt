pub mod Stack
pub mod Times
pub mod Thin
