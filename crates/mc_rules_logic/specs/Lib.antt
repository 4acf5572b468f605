pub mod Back
pub mod Fold
pub mod Listed
pub mod Rule
pub mod Unfold
