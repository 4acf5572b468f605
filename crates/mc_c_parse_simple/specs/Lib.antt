pub mod Phrases
pub mod Bases
pub mod Sizes
pub mod Allocations
pub mod Calls
pub mod Rights
pub mod Simples
pub mod Declarations
