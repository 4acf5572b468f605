-- Where the successors stand in their list.
use Rattle.std.proofs.Common.{◌≡◌, ℕ, zero, suc, ◌+◌, List, [], ◌∷◌, ◌++◌, Bool, true, false, Some, slice_get, map, refl, ap, ◌∙◌, subst, eqb-true, eq-eqb, arith}
use Rattle.std.specs.Prelude.{◌==◌, if◌then◌else◌}
use Rattle.std.specs.List.{flat_map, AllByRecursion}
use Rattle.mc_base.specs.declared.ids.PredId.{PredId}
use Rattle.mc_flow.specs.Heap.Heap.{Region}
use Rattle.mc_flow.specs.Heap.Parts.{StarAt}
use Rattle.mc_flow.specs.declared.defs.rules.Call.{Call}
use Rattle.mc_rules_logic.specs.Unfold.RuleLaws.{OwnPlaceIsListed, IsOwnPlace, OwnPlacesAreOwn}
use Rattle.mc_rules_logic.specs.Unfold.Unfolded.{own_places}
use Rattle.mc_state.proofs.Lists.{all_append, all_map}

in_front : {Y : Type 0} (xs ys : List Y) (place : ℕ) (y : Y) → slice_get xs place ≡ Some y → slice_get (xs ++ ys) place ≡ Some y
in_front [] ys place y e = cc
in_front (x ∷ xs) ys zero y e = e
in_front (x ∷ xs) ys (suc place) y e = in_front xs ys place y e

behind : {Y : Type 0} (xs ys : List Y) (place : ℕ) (y : Y) → slice_get ys place ≡ Some y → (further : ℕ) × (slice_get (xs ++ ys) further ≡ Some y)
behind [] ys place y e = (place, e)
behind (x ∷ xs) ys place y e = let more = behind xs ys place y e in (suc more.0, more.1)

module _ {X Y : Type 0} where
  pub image_at : (f : X → Y) (xs : List X) (place : ℕ) (x : X) → slice_get xs place ≡ Some x → slice_get (map f xs) place ≡ Some (f x)
  image_at f [] place x e = cc
  image_at f (y ∷ xs) zero x e = let same : y ≡ x = cc in ap (λ z. Some (f z)) same
  image_at f (y ∷ xs) (suc place) x e = image_at f xs place x e

  -- what one piece has, all the pieces have
  pub in_pieces : (f : X → List Y) (xs : List X) (place : ℕ) (x : X) (inner : ℕ) (y : Y) → slice_get xs place ≡ Some x → slice_get (f x) inner ≡ Some y → (all : ℕ) × (slice_get (flat_map f xs) all ≡ Some y)
  in_pieces f [] place x inner y e h = cc
  in_pieces f (z ∷ xs) zero x inner y e h =
      let same : z ≡ x = cc in (inner, in_front (f z) (flat_map f xs) inner y (rw same h))
  in_pieces f (z ∷ xs) (suc place) x inner y e h =
      let more = in_pieces f xs place x inner y e h in behind (f z) (flat_map f xs) more.0 y more.1

  pub all_pieces : (P : Y → Type 0) (f : X → List Y) → ((x : X) → AllByRecursion P (f x)) → (xs : List X) → AllByRecursion P (flat_map f xs)
  all_pieces P f h [] = tt
  all_pieces P f h (x ∷ xs) = all_append P (f x) (flat_map f xs) (h x) (all_pieces P f h xs)

-- the place of a call of the predicate is listed
pub own_place : (M : Call → Region → Type 0) (S : Call → Region → Type 0) (pred : PredId) → ((call : Call) (part : Region) → S call part → call.pred ≡ pred)
    → (from place : ℕ) (calls : List Call) (region : Region) → StarAt M S place calls region → (index : ℕ) × (slice_get (own_places pred from calls) index ≡ Some (from + place))
own_place M S pred own from place [] region s = absurd s
own_place M S pred own from zero (call ∷ calls) region s =
    let same : (call.pred.0 == pred.0) ≡ true = eq-eqb call.pred.0 pred.0 (ap (λ p. p.0) (own call s.0 s.3)) in
    let here : from + 0 ≡ from = omega arith in
    (0, rw (same, here) refl)
own_place M S pred own from (suc place) (call ∷ calls) region s =
    let there : suc from + place ≡ from + suc place = omega arith in
    let more = own_place M S pred own (suc from) place calls s.1 s.4 in
    at (call.pred.0 == pred.0) (more.0, more.1 ∙ ap Some there)
  where
    at : (here : Bool) → (index : ℕ) × (slice_get (own_places pred (suc from) calls) index ≡ Some (from + suc place))
        → (index : ℕ) × (slice_get (if here then from ∷ own_places pred (suc from) calls else own_places pred (suc from) calls) index ≡ Some (from + suc place))
    at true more = (suc more.0, more.1)
    at false more = more

-- the place of a call of the predicate is listed, wherever the call stands
own_found : (pred : PredId) (from : ℕ) (calls : List Call) (place : ℕ) (call : Call) → slice_get calls place ≡ Some call → call.pred ≡ pred → (index : ℕ) × (slice_get (own_places pred from calls) index ≡ Some (from + place))
own_found pred from [] place call e own = cc
own_found pred from (c ∷ calls) zero call e own =
    let is : c.pred ≡ pred = cc (e, own) in
    let same : (c.pred.0 == pred.0) ≡ true = eq-eqb c.pred.0 pred.0 (ap (λ (p : PredId). p.0) is) in
    let here : from + 0 ≡ from = omega arith in
    (0, rw (same, here) refl)
own_found pred from (c ∷ calls) (suc place) call e own =
    let there : suc from + place ≡ from + suc place = omega arith in
    let more = own_found pred (suc from) calls place call e own in
    at (c.pred.0 == pred.0) (more.0, more.1 ∙ ap Some there)
  where
    at : (here : Bool) → (index : ℕ) × (slice_get (own_places pred (suc from) calls) index ≡ Some (from + suc place))
        → (index : ℕ) × (slice_get (if here then from ∷ own_places pred (suc from) calls else own_places pred (suc from) calls) index ≡ Some (from + suc place))
    at true more = (suc more.0, more.1)
    at false more = more

pub own_listed : OwnPlaceIsListed
own_listed pred calls place call e own =
    let found = own_found pred 0 calls place call e own in
    let is : 0 + place ≡ place = omega arith in
    (found.0, found.1 ∙ ap Some is)

-- a place that is listed, counted from a number on, is that of a call of the predicate
abbrev IsOwn : PredId → ℕ → List Call → ℕ → Type 0
IsOwn pred from calls place = (k : ℕ) × (call : Call) × (place ≡ from + k) × (slice_get calls k ≡ Some call) × (call.pred ≡ pred)

own_later : (pred : PredId) (from : ℕ) (call : Call) (calls : List Call) (place : ℕ) → IsOwn pred (suc from) calls place → IsOwn pred from (call ∷ calls) place
own_later pred from call calls place o =
    let k = o.0 in
    let is : place ≡ suc from + k = o.2 in
    let there : place ≡ from + suc k = omega arith in
    (suc k, o.1, there, o.3, o.4)

own_are : (pred : PredId) (from : ℕ) (calls : List Call) → AllByRecursion (IsOwn pred from calls) (own_places pred from calls)
own_are pred from [] = tt
own_are pred from (call ∷ calls) =
    at (all_map (IsOwn pred (suc from) calls) (IsOwn pred from (call ∷ calls)) (own_later pred from call calls) (own_places pred (suc from) calls) (own_are pred (suc from) calls)) (call.pred.0 == pred.0) refl
  where
    at : AllByRecursion (IsOwn pred from (call ∷ calls)) (own_places pred (suc from) calls)
        → (b : Bool) → (call.pred.0 == pred.0) ≡ b → AllByRecursion (IsOwn pred from (call ∷ calls)) (if b then from ∷ own_places pred (suc from) calls else own_places pred (suc from) calls)
    at rest true same =
        let here : from ≡ from + 0 = omega arith in
        ((0, call, here, refl, ap (λ n. record { 0 = n }) (eqb-true call.pred.0 pred.0 same)), rest)
    at rest false differ = rest

pub own_places_own : OwnPlacesAreOwn
own_places_own pred calls =
    all_map (IsOwn pred 0 calls) (IsOwnPlace pred calls)
    (λ place o.
    let k = o.0 in
    let is : place ≡ 0 + k = o.2 in
    let same : k ≡ place = omega arith in
    (o.1, subst (λ n. slice_get calls n ≡ Some o.1) same o.3, o.4))
    (own_places pred 0 calls) (own_are pred 0 calls)
