pub mod Numbers
pub mod TidyStates
pub mod HeadLines
pub mod Jumping
pub mod Folding
