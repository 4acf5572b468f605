-- Where in the log each number was taken.
use Rattle.std.specs.Prelude.{◌≡◌, ℕ, List, true, Option, Some, None, slice_get}
use Rattle.mc_shape_search.specs.Search.Search.{takes_this}

-- each number that the log has taken has its place in the log; what stands for other numbers does not matter, so
-- cutting the log undoes nothing
pub record HasTimes {M : Type 0} (takes : M → Option ℕ) (log : List M) (times : ℕ → Option ℕ) : Type 0 where
  pub time : (place id : ℕ) (m : M)
      → slice_get log place ≡ Some m → takes_this (takes m) id ≡ true → times id ≡ Some place

-- what is taken, if anything, gets this place, and all else keeps its own
abbrev pub SetsPlace : Option ℕ → ℕ → (ℕ → Option ℕ) → (ℕ → Option ℕ) → Type 0
SetsPlace None place old new = (id : ℕ) → new id ≡ old id
SetsPlace (Some own) place old new = (new own ≡ Some place) × ((id : ℕ) → (id ≡ own → ⊥) → new id ≡ old id)
