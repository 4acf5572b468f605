pub mod Onward
pub mod Kinded
pub mod Wholes
pub mod Validity
