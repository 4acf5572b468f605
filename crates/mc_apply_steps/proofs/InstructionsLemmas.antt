pub mod Knowing
pub mod Made
pub mod Points
