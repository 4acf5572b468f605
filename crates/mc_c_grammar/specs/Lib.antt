pub mod Numbers
pub mod Places
pub mod Printed
pub mod Spelling
