pub mod BackLemmas
pub mod FoldLemmas
pub mod ListedLemmas
pub mod UnfoldLemmas
