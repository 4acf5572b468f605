pub mod Alike
pub mod Named
pub mod Tidy
