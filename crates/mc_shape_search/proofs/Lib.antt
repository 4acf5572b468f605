pub mod SatLemmas
pub mod SearchLemmas
pub mod TriesLemmas
