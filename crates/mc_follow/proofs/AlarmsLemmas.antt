pub mod Asserted
pub mod Coming
pub mod Covered
pub mod Followed
pub mod Going
pub mod Marked
pub mod Plain
pub mod SideLines
