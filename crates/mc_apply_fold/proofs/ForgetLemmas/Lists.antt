-- What lists have, and lists of which each element has a property.
use Rattle.std.proofs.Common.{◌≡◌, ℕ, zero, suc, ◌<◌, List, [], ◌∷◌, true, nat_eq, get_or, length, arith}
use Rattle.std.specs.List.{AllByRecursion}
use Rattle.std.proofs.lemmas.Bool.Decides.{nat_tests}

-- ---- nodes

pub is_yes : (a b : ℕ) → nat_eq a b ≡ true → a ≡ b
is_yes a b e = grind (arith, nat_tests)

-- ---- lists

module _ {X : Type 0} where
  -- the one at a place has it
  pub all_at : (P : X → Type 0) (xs : List X) (i : ℕ) (d : X) → i < length xs → AllByRecursion P xs → P (get_or xs i d)
  all_at P [] i d l all = absurd (omega arith)
  all_at P (x ∷ xs) zero d l all = all.0
  all_at P (x ∷ xs) (suc i) d l all = all_at P xs i d (omega arith) all.1
