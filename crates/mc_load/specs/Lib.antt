pub mod Inputs
pub mod Lowered
pub mod Read
