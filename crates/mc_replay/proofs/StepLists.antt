-- Lists that are asked whether any of their elements passes a test.
use Rattle.std.proofs.Common.{◌≡◌, ◌<◌, ◌≤◌, ◌+◌, ◌-◌, ℕ, suc, Bool, true, false, List, [], ◌∷◌, ◌++◌, map, Option, Some, None, length, refl, sym, ap, ap₂, ◌∙◌}
use Rattle.std.proofs.Common.{arith}
use Rattle.std.specs.Prelude.{◌&&◌, ◌||◌, not, is_some, is_none, flat_map}
use Rattle.std.specs.List.{list_any, list_all, range_with_len}
use Rattle.std.proofs.lemmas.List.Folds.{list_any-append}
use Rattle.mc_base.specs.declared.ids.PredId.{PredId}
use Rattle.mc_flow.specs.declared.defs.rules.Def.{Def}
use Rattle.mc_state.specs.declared.line.Side.{Side}
use Rattle.mc_state.specs.declared.line.Side.TheVariants.{Left, Right}
use Rattle.mc_joins.specs.Joinings.{Joining, Pair}
use Rattle.mc_joins.specs.Parts.{Basis}
use Rattle.mc_joins.specs.Steps.{Ending, predicates, endings, by_j6, by_j7}
use Rattle.mc_replay.specs.declared.steps.SegStep.{SegStep}
use Rattle.mc_replay.specs.declared.steps.SegStep.TheVariants.{Six, Seven}
use Rattle.mc_replay.specs.Steps.{no_seg, has_seg, endings_on, endings_of}

or_none : (a : Bool) → (a || false) ≡ a
or_none true = refl
or_none false = refl

or_split : (a b c d : Bool) → ((a || b) || (c || d)) ≡ ((a || c) || (b || d))
or_split true b true d = refl
or_split true b false d = refl
or_split false true true d = refl
or_split false true false d = refl
or_split false false true true = refl
or_split false false true false = refl
or_split false false false d = refl

module _ {X Y : Type 0} (test : Y → Bool) where
  pub any_map : (f : X → Y) (xs : List X) → list_any test (map f xs) ≡ list_any (λ x. test (f x)) xs
  any_map f [] = refl
  any_map f (x ∷ xs) = ap (λ b. test (f x) || b) (any_map f xs)

  pub any_flat : (f : X → List Y) (xs : List X) → list_any test (flat_map f xs) ≡ list_any (λ x. list_any test (f x)) xs
  any_flat f [] = refl
  any_flat f (x ∷ xs) = list_any-append test (f x) (flat_map f xs) ∙ ap (λ b. list_any test (f x) || b) (any_flat f xs)

module _ {X : Type 0} where
  pub any_two : (a b : X → Bool) (xs : List X) → list_any (λ x. a x || b x) xs ≡ (list_any a xs || list_any b xs)
  any_two a b [] = refl
  any_two a b (x ∷ xs) = ap (λ c. (a x || b x) || c) (any_two a b xs) ∙ or_split (a x) (b x) (list_any a xs) (list_any b xs)

  pub any_never : (a : X → Bool) (xs : List X) → ((x : X) → a x ≡ false) → list_any a xs ≡ false
  any_never a [] h = refl
  any_never a (x ∷ xs) h = ap₂ (λ b c. b || c) (h x) (any_never a xs h)

  pub any_same : (a b : X → Bool) (xs : List X) → ((x : X) → a x ≡ b x) → list_any a xs ≡ list_any b xs
  any_same a b [] h = refl
  any_same a b (x ∷ xs) h = ap₂ (λ c d. c || d) (h x) (any_same a b xs h)

module _ {X Y : Type 0} (f : X → Option Y) where
  one_none : (o : Option Y) (b : Bool) → (is_none o && not b) ≡ not (is_some o || b)
  one_none None b = refl
  one_none (Some y) b = refl

  pub all_none : (xs : List X) → list_all (λ x. is_none (f x)) xs ≡ not (list_any (λ x. is_some (f x)) xs)
  all_none [] = refl
  all_none (x ∷ xs) = ap (λ b. is_none (f x) && b) (all_none xs) ∙ one_none (f x) (list_any (λ x. is_some (f x)) xs)

-- ---- numbers from 0 on, one after the other

module _ (test : ℕ → Bool) (n i : ℕ) where
  range_more : i < n → range_with_len i (n - i) ≡ i ∷ range_with_len (i + 1) (n - (i + 1))
  range_more l = let e : n - i ≡ suc (n - (i + 1)) = omega arith in ap (range_with_len i) e

  pub any_next : i < n → test i ≡ false → list_any test (range_with_len i (n - i)) ≡ list_any test (range_with_len (i + 1) (n - (i + 1)))
  any_next l is = ap (λ (z : List ℕ). list_any test z) (range_more l) ∙ ap (λ b. b || list_any test (range_with_len (i + 1) (n - (i + 1)))) is

  pub any_here : i < n → test i ≡ true → list_any test (range_with_len i (n - i)) ≡ true
  any_here l is = ap (λ (z : List ℕ). list_any test z) (range_more l) ∙ ap (λ b. b || list_any test (range_with_len (i + 1) (n - (i + 1)))) is

  pub any_end : n ≤ i → list_any test (range_with_len i (n - i)) ≡ false
  any_end l = let e : n - i ≡ 0 = omega arith in ap (λ k. list_any test (range_with_len i k)) e

-- ---- endings

abbrev pub ending_on : PredId → Side → ℕ → Ending
ending_on pred side place = record { pred = pred; side = side; place = place }

abbrev pub pred_of : ℕ → PredId
pred_of i = record { 0 = i }

module _ (test : Ending → Bool) (j : Joining) where
  pub any_on : (pred : PredId) (side : Side) → list_any test (endings_on j pred side) ≡ list_any (λ place. test (ending_on pred side place)) (range_with_len 0
      (length j.pairs))
  any_on pred side = any_map test (ending_on pred side) (range_with_len 0 (length j.pairs))

  pub any_of : (pred : PredId) → list_any test (endings_of j pred) ≡ (list_any test (endings_on j pred Left) || list_any test (endings_on j pred Right))
  any_of pred =
      list_any-append test (endings_on j pred Left) (endings_on j pred Right ++ [])
      ∙ ap (λ b. list_any test (endings_on j pred Left) || b) (list_any-append test (endings_on j pred Right) []
      ∙ or_none (list_any test (endings_on j pred Right)))

  pub any_ending : (w : Basis) → list_any test (endings w j) ≡ list_any (λ pred. list_any test (endings_of j pred)) (predicates w)
  any_ending w = any_flat test (endings_of j) (predicates w)

pub any_pred : (w : Basis) (defs : List Def) → w.defs ≡ defs → (test : PredId → Bool)
    → list_any test (predicates w) ≡ list_any (λ i. test (pred_of i)) (range_with_len 0 (length defs))
any_pred w defs same test =
    any_map test pred_of (range_with_len 0 (length w.defs)) ∙ ap (λ (ds : List Def). list_any (λ i. test (pred_of i)) (range_with_len 0 (length ds))) same

pub not_twice : (b : Bool) → b ≡ not (not b)
not_twice true = refl
not_twice false = refl

pub any_seg : (step : SegStep) (w : Basis) (j : Joining) (p : Pair) → list_any (has_seg step w j p) (endings w j) ≡ not (no_seg step w j p)
any_seg Six w j p = not_twice (list_any (has_seg Six w j p) (endings w j)) ∙ ap not (sym (all_none (by_j6 w j p) (endings w j)))
any_seg Seven w j p = not_twice (list_any (has_seg Seven w j p) (endings w j)) ∙ ap not (sym (all_none (by_j7 w j p) (endings w j)))
