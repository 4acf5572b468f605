pub mod Joint
pub mod Gains
pub mod Parts
