pub mod NumbersLemmas
pub mod PlacesLemmas
pub mod PrintedLemmas
pub mod SpellingLemmas
