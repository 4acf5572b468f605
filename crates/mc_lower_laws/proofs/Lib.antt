pub mod ClosedLemmas
pub mod ExistingLemmas
pub mod KindsLemmas
pub mod LowerableLemmas
pub mod ScopedLemmas
pub mod SingleLemmas
pub mod ValidLemmas
