pub mod NextLemmas
pub mod PathsLemmas
