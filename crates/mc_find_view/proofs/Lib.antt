pub mod GuessLemmas
