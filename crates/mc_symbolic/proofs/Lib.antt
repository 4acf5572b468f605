pub mod Starts
pub mod Canonical
pub mod Kept
pub mod Merging
pub mod Finding
pub mod ChangesLemmas
pub mod EdgesLemmas
