pub mod Edges
pub mod Graph
