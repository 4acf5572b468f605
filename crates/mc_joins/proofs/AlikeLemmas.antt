pub mod Images
pub mod Links
pub mod Places
pub mod Same
pub mod Tidiness
