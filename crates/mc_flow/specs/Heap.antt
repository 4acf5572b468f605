pub mod Access
pub mod Adding
pub mod Choices
pub mod Heap
pub mod Instances
pub mod PartLaws
pub mod Parts
