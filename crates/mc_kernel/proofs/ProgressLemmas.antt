pub mod Operands
pub mod Judged
pub mod Unfolding
pub mod Instructions
pub mod Advancing
pub mod Staying
