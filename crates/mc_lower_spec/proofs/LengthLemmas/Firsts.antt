-- What is known of the first items of a list.
use Rattle.std.proofs.Common.{◌≡◌, ◌<◌, ℕ, List, Some}
use Rattle.std.specs.Prelude.{slice_get}

-- each of the first n items of a list, at its number
abbrev pub AllTo : {A : Type 0} → (ℕ → A → Type 0) → ℕ → List A → Type 0
AllTo {A} P n xs = (i : ℕ) (x : A) → i < n → slice_get xs i ≡ Some x → P i x
