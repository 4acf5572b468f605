pub mod Graphs
pub mod Values
pub mod Lowering
pub mod Runs
pub mod Scopes
pub mod Examples
pub mod Length
