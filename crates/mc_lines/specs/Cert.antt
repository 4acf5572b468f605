pub mod Lines
pub mod Reads
pub mod Entries
pub mod Document
