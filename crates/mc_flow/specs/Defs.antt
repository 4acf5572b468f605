pub mod Conditions
pub mod Examples
pub mod Instances
pub mod Laws
pub mod Meaning
pub mod Values
