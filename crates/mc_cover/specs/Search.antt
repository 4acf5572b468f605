pub mod Told
pub mod Terms
pub mod Setting
pub mod Pushing
