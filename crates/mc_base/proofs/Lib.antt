pub mod RangesLemmas
pub mod TextLemmas
pub mod Work
