pub mod ComputeLemmas
pub mod InstructionsLemmas
pub mod StepLemmas
