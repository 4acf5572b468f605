pub mod Named
pub mod Scoping
pub mod Statements
pub mod Entry
pub mod Wholes
