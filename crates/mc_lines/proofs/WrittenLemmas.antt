pub mod OneLine
pub mod Written
