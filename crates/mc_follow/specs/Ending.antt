pub mod Ending
pub mod Laws
pub mod Making
pub mod Steps
