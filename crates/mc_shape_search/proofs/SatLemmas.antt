pub mod Counting
pub mod Fixed
pub mod FirstTries
pub mod Low
pub mod Listed
pub mod Named
pub mod Parts
pub mod Relation
