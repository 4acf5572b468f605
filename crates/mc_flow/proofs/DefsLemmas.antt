pub mod ExamplesFit
pub mod Heights
pub mod NotHere
pub mod Segments
pub mod SmallHeaps
pub mod SomeStructs
