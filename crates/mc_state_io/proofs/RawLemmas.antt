pub mod Items
pub mod Whole
pub mod Built
