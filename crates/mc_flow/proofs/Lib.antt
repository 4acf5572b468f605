pub mod DefsLemmas
pub mod HeapLemmas
