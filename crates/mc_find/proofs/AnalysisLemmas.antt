pub mod Calm
pub mod Spelled
pub mod CalmPlaces
pub mod Answers
