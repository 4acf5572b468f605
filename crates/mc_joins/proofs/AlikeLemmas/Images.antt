-- Lists that are images of others, item by item.
use Rattle.std.proofs.Common.{◌≡◌, ◌<◌, ◌≤◌, ◌+◌, ℕ, zero, suc, List, [], ◌∷◌, Some, map, length, get_or, slice_get, drop, refl, sym, ap, ap₂, ◌∙◌, arith}
use Rattle.std.proofs.lemmas.List.{drop_more, get_or-map, length-map}
use Rattle.std.proofs.Math.ListN.{drop_of_length-le}

module _ {A B : Type 0} (g : A → B) where
  pub same_long : (xs : List A) (ys : List B) → map g xs ≡ ys → length xs ≡ length ys
  same_long xs ys e = sym (length-map xs g) ∙ ap length e

  pub at_place : (xs : List A) (ys : List B) (i : ℕ) (d : A) (b : B) → i < length xs → map g xs ≡ ys → g (get_or xs i d) ≡ get_or ys i b
  at_place xs ys i d b l e = sym (get_or-map g xs i d b l) ∙ ap (λ (z : List B). get_or z i b) e

  pub one_before : (xs : List A) (ys : List B) (i : ℕ) (d : A) (b : B) → i < length xs → i < length ys → g (get_or xs i d) ≡ get_or ys i b → map g (drop (i + 1) xs) ≡ drop (i + 1) ys → map g (drop i xs) ≡ drop i ys
  one_before xs ys i d b l m e rest = ap (map g) (drop_more xs i d l) ∙ (ap₂ (λ (z : B) (zs : List B). z ∷ zs) e rest ∙ sym (drop_more ys i b m))

  pub at_end : (xs : List A) (ys : List B) (i : ℕ) → length xs ≡ length ys → length xs ≤ i → map g (drop i xs) ≡ drop i ys
  at_end xs ys i same past =
      let other : length ys ≤ i = omega arith in
      ap (map g) (drop_of_length-le xs past) ∙ sym (drop_of_length-le ys other)

  pub mapped_at : (xs : List A) (i : ℕ) (x : A) → slice_get xs i ≡ Some x → slice_get (map g xs) i ≡ Some (g x)
  mapped_at [] i x e = cc
  mapped_at (y ∷ xs) zero x e = cc
  mapped_at (y ∷ xs) (suc i) x e = mapped_at xs i x e

  pub mapped_from : (xs : List A) (i : ℕ) (y : B) → slice_get (map g xs) i ≡ Some y → (x : A) × (slice_get xs i ≡ Some x) × (g x ≡ y)
  mapped_from [] i y e = absurd (cc e)
  mapped_from (x ∷ xs) zero y e = (x, refl, cc)
  mapped_from (x ∷ xs) (suc i) y e = mapped_from xs i y e
