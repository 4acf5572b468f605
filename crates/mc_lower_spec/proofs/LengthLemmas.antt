pub mod Counting
pub mod Firsts
pub mod Least
pub mod Most
pub mod Seen
pub mod Stepping
pub mod Tabling
pub mod Whole
