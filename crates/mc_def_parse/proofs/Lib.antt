pub mod Steps
pub mod Numbers
pub mod ItemLemmas
pub mod BlockLemmas
pub mod FileLemmas
pub mod Ends
pub mod Viable
pub mod WholeLemmas
