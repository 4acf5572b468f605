pub mod Next
pub mod Paths
