pub mod Printable
pub mod Aside
pub mod Texts
pub mod Examples
