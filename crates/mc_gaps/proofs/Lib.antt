pub mod LackingLemmas
pub mod UnmetLemmas
