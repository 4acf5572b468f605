pub mod Canon
pub mod Join
pub mod Renamed
pub mod Renaming
