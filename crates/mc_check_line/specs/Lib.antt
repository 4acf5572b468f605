pub mod Judging
pub mod Jump
