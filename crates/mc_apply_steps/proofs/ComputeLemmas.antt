pub mod Fits
pub mod Put
pub mod Written
