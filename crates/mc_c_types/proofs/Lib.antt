pub mod Orders
pub mod Wells
pub mod Finds
pub mod FieldLists
pub mod Visits
pub mod Seen
pub mod Latest
