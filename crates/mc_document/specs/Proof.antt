pub mod Positions
pub mod Lines
pub mod Stacks
pub mod Held
