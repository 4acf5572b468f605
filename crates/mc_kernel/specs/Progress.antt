pub mod Asked
pub mod Progress
