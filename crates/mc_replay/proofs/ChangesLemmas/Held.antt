-- States of a cut, one by one, as references lead to them.
use Rattle.std.proofs.Common.{◌≡◌, ◌<◌, ◌≤◌, ◌+◌, ℕ, zero, suc, List, [], ◌∷◌, Bool, true, false, drop, get_or, length, ap, sym, ◌∙◌, subst, arith}
use Rattle.std.specs.Prelude.{◌&&◌}
use Rattle.std.specs.List.{AllByRecursion}
use Rattle.std.proofs.lemmas.List.{drop_more}
use denote.Bor.{Bor}
use Rattle.mc_state.specs.Lists.{all_both}
use Rattle.mc_state.specs.State.{State}
use Rattle.mc_replay.specs.Changes.{states_held}
use Rattle.mc_replay.proofs.Finding.{drop_none}

module _ (P : State → Type 0) where
  pub held_at : (xs : List (Bor State)) (i : ℕ) (x : Bor State) → i < length xs → AllByRecursion P (states_held xs) → P (get_or xs i x).now
  held_at [] i x l a = absurd (omega arith)
  held_at (y ∷ xs) zero x l a = a.0
  held_at (y ∷ xs) (suc i) x l a = held_at xs i x (omega arith) a.1

  module _ (xs : List (Bor State)) (i : ℕ) where
    pub held_more : (x : Bor State) → i < length xs → P (get_or xs i x).now → (AllByRecursion P (states_held (drop i xs)) → AllByRecursion P (states_held xs))
        → AllByRecursion P (states_held (drop (i + 1) xs)) → AllByRecursion P (states_held xs)
    held_more x l here before rest = before (subst (λ (z : List (Bor State)). AllByRecursion P (states_held z)) (sym (drop_more xs i x l)) (here, rest))

    pub held_end : length xs ≤ i → (AllByRecursion P (states_held (drop i xs)) → AllByRecursion P (states_held xs)) → AllByRecursion P (states_held xs)
    held_end l before = before (subst (λ (z : List (Bor State)). AllByRecursion P (states_held z)) (sym (drop_none xs i l)) tt)

module _ {Y : Type 0} (test : State → Y → Bool) (xs : List (Bor State)) (ys : List Y) (i : ℕ) where
  both_next : (x : Bor State) (y : Y) → i < length xs → i < length ys
      → all_both test (states_held (drop i xs)) (drop i ys) ≡ test (get_or xs i x).now (get_or ys i y) && all_both test (states_held (drop (i + 1) xs)) (drop (i + 1) ys)
  both_next x y l m =
      ap (λ (z : List (Bor State)). all_both test (states_held z) (drop i ys)) (drop_more xs i x l)
      ∙ ap (λ (z : List Y). all_both test (states_held (get_or xs i x ∷ drop (i + 1) xs)) z) (drop_more ys i y m)

  pub both_yes : (x : Bor State) (y : Y) (b : Bool) → i < length xs → i < length ys → true ≡ test (get_or xs i x).now (get_or ys i y)
      → b ≡ all_both test (states_held (drop i xs)) (drop i ys) → b ≡ all_both test (states_held (drop (i + 1) xs)) (drop (i + 1) ys)
  both_yes x y b l m here before = before ∙ (both_next x y l m ∙ ap (λ (c : Bool). c && all_both test (states_held (drop (i + 1) xs)) (drop (i + 1) ys)) (sym here))

  pub both_no : (x : Bor State) (y : Y) (b : Bool) → i < length xs → i < length ys → false ≡ test (get_or xs i x).now (get_or ys i y)
      → b ≡ all_both test (states_held (drop i xs)) (drop i ys) → false ≡ b
  both_no x y b l m here before = sym (before ∙ (both_next x y l m ∙ ap (λ (c : Bool). c && all_both test (states_held (drop (i + 1) xs)) (drop (i + 1) ys)) (sym here)))

  pub both_end : (b : Bool) → length xs ≤ i → length ys ≤ i → b ≡ all_both test (states_held (drop i xs)) (drop i ys) → true ≡ b
  both_end b l m before =
      sym (before ∙ (ap (λ (z : List (Bor State)). all_both test (states_held z) (drop i ys)) (drop_none xs i l) ∙ ap (λ (z : List Y). all_both test [] z) (drop_none ys i m)))
