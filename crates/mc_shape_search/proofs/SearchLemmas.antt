pub mod Members
pub mod Tries
pub mod Bound
pub mod Firsts
pub mod Turned
