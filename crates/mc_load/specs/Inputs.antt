pub mod Texts
pub mod Inputs
pub mod Printing
pub mod Pairs
