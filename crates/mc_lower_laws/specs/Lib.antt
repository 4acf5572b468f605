pub mod Closed
pub mod Existing
pub mod Faults
pub mod Kinds
pub mod Lowerable
pub mod Valid
