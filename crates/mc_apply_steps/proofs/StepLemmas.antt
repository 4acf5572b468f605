pub mod Answered
pub mod There
