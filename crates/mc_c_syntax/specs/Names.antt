pub mod Firsts
pub mod Grouped
