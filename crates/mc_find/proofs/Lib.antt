pub mod AcceptedLemmas
pub mod AnalysisLemmas
