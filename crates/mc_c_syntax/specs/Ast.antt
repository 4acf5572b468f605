pub mod Trees
pub mod Views
pub mod Names
pub mod Classes
pub mod Grammar
pub mod Readers
pub mod Sizes
