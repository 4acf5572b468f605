pub mod Determined
pub mod Examples
pub mod ResolvedLemmas
pub mod WaitingLemmas
pub mod WorkedLemmas
