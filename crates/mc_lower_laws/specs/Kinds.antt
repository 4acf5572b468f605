pub mod Typedefs
pub mod Examples
