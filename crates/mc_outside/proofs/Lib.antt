mod EntriesLemmas
mod OutsideLemmas
mod StreamLemmas
pub mod SavingLemmas
