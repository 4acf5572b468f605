pub mod Holding
pub mod Knowing
pub mod Computing
pub mod Moving
pub mod Passing
pub mod Stepping
pub mod Running
pub mod Values
