pub mod Least
pub mod Plain
pub mod Products
pub mod Nearest
