pub mod Answers
pub mod Laws
pub mod Marks
pub mod Names
