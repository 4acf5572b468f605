pub mod Lists
pub mod Places
pub mod Loose
pub mod Faultless
pub mod Scoping
pub mod Wholes
pub mod Trees
pub mod FlowFaults
