pub mod Places
pub mod Ready
pub mod Put
pub mod Read
