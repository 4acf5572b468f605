pub mod ChangeLemmas
pub mod FoldLemmas
pub mod ForgetLemmas
