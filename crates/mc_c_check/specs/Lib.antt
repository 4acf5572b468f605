pub mod Collected
pub mod Infos
pub mod Graphs
pub mod Told
pub mod Bounds
pub mod Programs
pub mod Ranks
pub mod Prototypes
