pub mod Near
pub mod Real
pub mod Scripts
pub mod Marked
