pub mod Moving
pub mod Same
pub mod Anew
