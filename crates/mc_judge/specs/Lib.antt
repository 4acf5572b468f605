pub mod Passes
pub mod Documents
pub mod Judge
