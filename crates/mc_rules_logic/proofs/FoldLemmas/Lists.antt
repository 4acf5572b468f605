-- What holds of each of a list, and lists that are parted at one length.
use Rattle.std.proofs.Common.{◌≡◌, ℕ, suc, List, [], ◌∷◌, ◌++◌, length, Some, slice_get, refl, ap₂}
use Rattle.std.specs.List.{AllByRecursion}

module _ {X : Type 0} where
  -- what holds of each that stands at a place holds of all
  pub all_places : (P : X → Type 0) (xs : List X) → ((place : ℕ) (x : X) → slice_get xs place ≡ Some x → P x) → AllByRecursion P xs
  all_places P [] f = tt
  all_places P (x ∷ xs) f = (f 0 x refl, all_places P xs (λ place y e. f (suc place) y e))

  -- two lists of one length with something after them
  pub same_front : (xs ys more others : List X) → length xs ≡ length ys → xs ++ more ≡ ys ++ others → xs ≡ ys
  same_front [] [] more others n e = refl
  same_front [] (y ∷ ys) more others n e = absurd (cc n)
  same_front (x ∷ xs) [] more others n e = absurd (cc n)
  same_front (x ∷ xs) (y ∷ ys) more others n e =
      let first : x ≡ y = cc in
      let rest : xs ++ more ≡ ys ++ others = cc in
      let count : length xs ≡ length ys = cc in
      ap₂ (λ z zs. z ∷ zs) first (same_front xs ys more others count rest)
