pub mod Answered
pub mod Forms
pub mod Gaps
pub mod JumpLemmas
