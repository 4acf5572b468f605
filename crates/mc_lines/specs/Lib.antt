pub mod Cert
pub mod Written
