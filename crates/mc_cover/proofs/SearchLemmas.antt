pub mod Asked
pub mod Near
pub mod Small
pub mod Fixed
pub mod Left
pub mod Listed
pub mod Pushed
pub mod Found
