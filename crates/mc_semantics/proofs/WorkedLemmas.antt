pub mod Blocks
pub mod Computed
pub mod Memory
pub mod Numbers
pub mod Orders
pub mod Running
pub mod Shapes
