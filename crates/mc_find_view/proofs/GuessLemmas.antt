pub mod Given
pub mod Firsts
pub mod Summaries
pub mod Chosen
