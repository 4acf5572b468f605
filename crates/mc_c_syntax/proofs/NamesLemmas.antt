pub mod Positions
pub mod Firsts
pub mod Grouped
