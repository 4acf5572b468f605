pub mod InputsLemmas
pub mod LoweredLemmas
pub mod ReadLemmas
