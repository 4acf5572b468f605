pub mod JudgeLemmas
pub mod PassesLemmas
