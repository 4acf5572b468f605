pub mod Alarms
pub mod Ending
pub mod Report
