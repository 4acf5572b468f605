pub mod Asking
pub mod Entries
pub mod Runs
pub mod Faults
pub mod Once
