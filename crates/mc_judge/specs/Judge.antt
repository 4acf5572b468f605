pub mod Verdicts
pub mod Cuts
pub mod Stages
pub mod Laws
