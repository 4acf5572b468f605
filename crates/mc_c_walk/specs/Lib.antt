pub mod Visits
pub mod Gives
pub mod Parting
pub mod Parts
pub mod Tasks
