pub mod Lasting
pub mod Bounding
pub mod NearFaults
pub mod ExactAlarms
mod ScriptLines
mod MarkedAlarms
