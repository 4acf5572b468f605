pub mod Left
pub mod Leading
pub mod Going
