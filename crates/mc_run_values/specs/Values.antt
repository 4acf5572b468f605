pub mod Taking
pub mod Asking
pub mod Memory
pub mod Models
pub mod Turns
