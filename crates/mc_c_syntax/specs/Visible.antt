pub mod Lasts
pub mod Stacks
