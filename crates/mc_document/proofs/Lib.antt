pub mod CertifiedLemmas
pub mod ProofLemmas
pub mod PlacesLemmas
