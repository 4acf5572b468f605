pub mod Numerals
pub mod Spellings
