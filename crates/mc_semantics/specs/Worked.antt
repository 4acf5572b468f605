pub mod Orders
pub mod Programs
pub mod Turns
pub mod Variables
