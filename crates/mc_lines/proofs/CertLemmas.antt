pub mod LineFirst
pub mod Arrays
pub mod Faults
pub mod PartForms
pub mod Forms
pub mod Flat
pub mod Once
