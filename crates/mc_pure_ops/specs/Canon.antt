pub mod Order
pub mod Left
pub mod Gaps
pub mod Forgotten
