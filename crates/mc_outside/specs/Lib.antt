pub mod Calls
pub mod Entries
pub mod Memory
pub mod Outside
pub mod Saving
