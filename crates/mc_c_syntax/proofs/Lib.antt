pub mod AstLemmas
pub mod LexLemmas
pub mod NamesLemmas
pub mod VisibleLemmas
