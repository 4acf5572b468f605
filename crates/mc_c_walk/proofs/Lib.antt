pub mod Lists
pub mod Faults
pub mod Calls
pub mod Uses
pub mod Parted
pub mod Keeps
pub mod Pending
pub mod Begun
