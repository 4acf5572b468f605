pub mod Proof
pub mod Places
pub mod Spelled
