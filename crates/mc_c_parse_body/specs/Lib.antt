pub mod Phrases
pub mod Shapes
pub mod Lines
pub mod Frames
pub mod Turns
pub mod States
pub mod Bodies
