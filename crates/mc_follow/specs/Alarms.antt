pub mod Laws
pub mod Outcomes
pub mod Tracks
pub mod Walks
pub mod Sides
