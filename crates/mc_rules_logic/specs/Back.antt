pub mod Ends
pub mod Examples
pub mod Judges
pub mod Laws
pub mod Unfolded
pub mod WrongRules
