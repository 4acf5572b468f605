pub mod CanonLemmas
pub mod JoinLemmas
pub mod RenamedLemmas
pub mod RenamingLemmas
