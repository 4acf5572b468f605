pub mod Causes
pub mod Programs
pub mod Refusals
pub mod Printing
