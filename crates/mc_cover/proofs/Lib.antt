pub mod Options
pub mod Terms
pub mod Fixed
pub mod Parts
pub mod Left
pub mod Sound
mod Listed
mod Picked
mod Complete
mod Settled
mod FirstEdge
mod Rules
mod Guessing
mod Enough
mod Near
mod Alike
pub mod SearchLemmas
