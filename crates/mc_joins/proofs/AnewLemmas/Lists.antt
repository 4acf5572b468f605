-- What lists have.
use Rattle.std.proofs.Common.{◌≡◌, ◌≢◌, ◌⊎◌, ℕ, zero, suc, ◌<◌, ◌≤◌, List, [], ◌∷◌, ◌++◌, true, false, nat_eq, get_or, length, map, take, drop, refl, ap, arith}
use Rattle.std.specs.Prelude.{slice_set}
use Rattle.std.specs.List.{AllByRecursion}
use Rattle.std.proofs.lemmas.Bool.Decides.{nat_tests}

pub is_yes : (a b : ℕ) → nat_eq a b ≡ true → a ≡ b
is_yes a b e = grind (arith, nat_tests)

pub is_no : (a b : ℕ) → nat_eq a b ≡ false → a ≢ b
is_no a b e = grind (arith, nat_tests)

pub decide : (a b : ℕ) → (a ≡ b) ⊎ (a ≢ b)
decide a b = grind arith

module _ {X : Type 0} where
  -- the one at a place has it
  pub all_at : (P : X → Type 0) (xs : List X) (i : ℕ) (d : X) → i < length xs → AllByRecursion P xs → P (get_or xs i d)
  all_at P [] i d l all = absurd (omega arith)
  all_at P (x ∷ xs) zero d l all = all.0
  all_at P (x ∷ xs) (suc i) d l all = all_at P xs i d (omega arith) all.1

  pub all_over : (P Q : X → Type 0) (xs : List X) → ((x : X) → P x → Q x) → AllByRecursion P xs → AllByRecursion Q xs
  all_over P Q [] f all = tt
  all_over P Q (x ∷ xs) f all = (f x all.0, all_over P Q xs f all.1)

  pub take_all : (xs : List X) (n : ℕ) → length xs ≤ n → take n xs ≡ xs
  take_all [] zero l = refl
  take_all [] (suc n) l = refl
  take_all (x ∷ xs) zero l = absurd (omega arith)
  take_all (x ∷ xs) (suc n) l = ap (λ (z : List X). x ∷ z) (take_all xs n (omega arith))

  pub long_map : {Y : Type 0} (f : X → Y) (xs : List X) → length (map f xs) ≡ length xs
  long_map f [] = refl
  long_map f (x ∷ xs) = ap suc (long_map f xs)

-- one place of a list after the other
pub set_next : {X : Type 0} (g : X → X) (xs old : List X) (i : ℕ) (d : X) → i < length xs → length old ≡ length xs
    → slice_set (map g (take i xs) ++ drop i old) i (g (get_or xs i d)) ≡ map g (take (suc i) xs) ++ drop (suc i) old
set_next g [] old i d l e = absurd (omega arith)
set_next g (x ∷ xs) [] i d l e = absurd (omega arith)
set_next g (x ∷ xs) (y ∷ old) zero d l e = refl
set_next {X} g (x ∷ xs) (y ∷ old) (suc i) d l e = ap (λ (z : List X). g x ∷ z) (set_next g xs old i d (omega arith) (omega arith))

pub set_last : {X : Type 0} (g : X → X) (xs old : List X) (i : ℕ) → length xs ≤ i → length old ≡ length xs → map g (take i xs) ++ drop i old ≡ map g xs
set_last g [] [] i l e = none i
  where
    none : (i : ℕ) → map g (take i []) ++ drop i [] ≡ []
    none zero = refl
    none (suc i) = refl
set_last g [] (y ∷ old) i l e = absurd (omega arith)
set_last g (x ∷ xs) [] i l e = absurd (omega arith)
set_last g (x ∷ xs) (y ∷ old) zero l e = absurd (omega arith)
set_last {X} g (x ∷ xs) (y ∷ old) (suc i) l e = ap (λ (z : List X). g x ∷ z) (set_last g xs old i (omega arith) (omega arith))
