pub mod Turns
pub mod Primaries
pub mod Expressions
pub mod Conditions
