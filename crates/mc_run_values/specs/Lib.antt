pub mod Script
pub mod Tasks
pub mod Values
