mod Members
mod Stuck
mod Once
mod Agree
mod Counter
mod Keeping
mod Steady
pub mod NamedKinds
pub mod JointKinds
mod JointEdges
pub mod JoinMade
mod Regions
mod NamedStand
mod JointStands
mod SideParts
mod SideStands
mod JoinNamed
mod JoinsStand
mod ExampleStands
mod JointExamples
pub mod AlikeLemmas
pub mod AnewLemmas
pub mod AtomsLemmas
pub mod ChainsLemmas
pub mod SameLemmas
