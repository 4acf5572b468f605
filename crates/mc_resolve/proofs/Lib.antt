pub mod Seeing
pub mod FieldNumbers
pub mod FunctionNumbers
pub mod Frames
pub mod Numbers
pub mod WholeFunctions
