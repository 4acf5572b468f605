pub mod Runs
pub mod Values
pub mod Steps
pub mod Valid
pub mod Examples
pub mod Defs
pub mod Heap
