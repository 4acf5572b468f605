pub mod Named
pub mod Numbered
pub mod Builds
pub mod Conditions
pub mod Frames
pub mod Gathers
