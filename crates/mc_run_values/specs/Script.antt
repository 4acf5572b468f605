pub mod Lines
pub mod Models
pub mod Scripts
