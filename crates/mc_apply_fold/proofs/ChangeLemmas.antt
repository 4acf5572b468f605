pub mod Faults
pub mod Naming
pub mod Spared
pub mod Told
