pub mod Ends
pub mod ExampleFits
pub mod ExampleStates
pub mod Judging
pub mod Lists
pub mod MadeWell
pub mod Sound
