-- Fields of blocks, and what steps read and write in them.
use Rattle.std.proofs.Common.{◌≡◌, ◌<◌, ◌≤◌, ℕ, zero, suc, List, [], ◌∷◌, Bool, true, false, Option, Some, None, length, replicate, slice_get, slice_set, eq-eqb, refl, ap, ◌∙◌, arith, ℤ, pos}
use Rattle.std.specs.Prelude.{◌==◌, is_some, if◌then◌else◌}
use Rattle.std.specs.FinMap as map
use Rattle.mc_base.specs.declared.ids.NodeId.{NodeId}
use Rattle.mc_base.specs.declared.ids.PointId.{PointId}
use Rattle.mc_base.specs.declared.ids.StructId.{StructId}
use Rattle.mc_base.specs.declared.ids.VarId.{VarId}
use Rattle.mc_base.specs.declared.plain.FaultKind.TheVariants as faults
use Rattle.mc_base.specs.declared.text.place.Place.{Place}
use Rattle.mc_base.specs.Nodes.{Valuation}
use Rattle.mc_flow.specs.Runs.{next, last, fault}
use Rattle.mc_flow.specs.Heap.Access.{block_field, field_at, with_field}
use Rattle.mc_flow.specs.Heap.Choices.{Choice}
use Rattle.mc_flow.specs.Heap.Heap.{Block, region_of, IsAddress}
use Rattle.mc_flow.specs.Steps.{Config, at_point, set_to, with_heap, found, loaded, written, put, stored, freed_at, freed}
use Rattle.mc_flow.specs.Values.{address}
use Rattle.mc_state.specs.Stands.{VarsMeet}

-- ---- known fields

-- the value in a known field is that of its node
pub vars_slice : (v : Valuation) (xs : List (Option NodeId)) (zs : List (Option ℤ)) (x : ℕ) (n : NodeId) → VarsMeet v xs zs → slice_get xs x ≡ Some (Some n) → slice_get zs x ≡ Some (Some (v n.0))
vars_slice v [] zs x n m e = cc
vars_slice v (k ∷ xs) [] x n m e = absurd m
vars_slice v (None ∷ xs) (z ∷ zs) zero n m e = cc
vars_slice v (Some k ∷ xs) (z ∷ zs) zero n m e = ap Some m.0 ∙ (let same : k ≡ n = cc in ap (λ (j : NodeId). Some (Some (v j.0))) same)
vars_slice v (k ∷ xs) (z ∷ zs) (suc x) n m e = vars_slice v xs zs x n m.1 e

pub vars_set : (v : Valuation) (xs : List (Option NodeId)) (zs : List (Option ℤ)) (x : ℕ) (n : NodeId) → VarsMeet v xs zs → VarsMeet v (slice_set xs x (Some n)) (slice_set zs x (Some (v n.0)))
vars_set v [] [] x n m = m
vars_set v [] (z ∷ zs) x n m = absurd m
vars_set v (k ∷ xs) [] x n m = absurd m
vars_set v (k ∷ xs) (z ∷ zs) zero n m = (refl, m.1)
vars_set v (k ∷ xs) (z ∷ zs) (suc x) n m = (m.0, vars_set v xs zs x n m.1)

pub vars_length : (v : Valuation) (xs : List (Option NodeId)) (zs : List (Option ℤ)) → VarsMeet v xs zs → length zs ≡ length xs
vars_length v [] [] m = refl
vars_length v [] (z ∷ zs) m = absurd m
vars_length v (x ∷ xs) [] m = absurd m
vars_length v (x ∷ xs) (z ∷ zs) m = let more = vars_length v xs zs m.1 in omega arith

pub unknown_vars : (v : Valuation) (n : ℕ) → VarsMeet v (replicate n None) (replicate n None)
unknown_vars v zero = tt
unknown_vars v (suc n) = (tt, unknown_vars v n)

-- ---- steps at an address

-- an address is not null's
not_null : (a : ℕ) → IsAddress a → (a == 0) ≡ false
not_null zero is = absurd (let one : 1 ≤ 0 = is.0 in omega arith)
not_null (suc a) is = grind arith

if_not : {A : Type 0} (b : Bool) (x y : A) → b ≡ false → (if b then x else y) ≡ y
if_not true x y e = cc
if_not false x y e = refl

if_so : {A : Type 0} (b : Bool) (x y : A) → b ≡ true → (if b then x else y) ≡ x
if_so true x y e = refl
if_so false x y e = cc

-- the field of a block of the struct
pub block_field_is : (shape : ℕ) (values : List (Option ℤ)) (f : ℕ) → block_field (record { shape = shape; fields = values }) shape f ≡ slice_get values f
block_field_is shape values f = if_so (shape == shape) (slice_get values f) None (eq-eqb shape shape refl)

pub some_field : (values : List (Option ℤ)) (f : ℕ) → f < length values → is_some (slice_get values f) ≡ true
some_field [] f lt = absurd (let none : length {A = Option ℤ} [] ≡ 0 = omega arith in omega arith)
some_field (z ∷ zs) zero lt = refl
some_field (z ∷ zs) (suc f) lt = some_field zs f (let more : suc f < length (z ∷ zs) = lt in omega arith)

module _ (q : PointId) (place : Place) (c : Config) (choices : List Choice) (p : ℤ) (a : ℕ) (block : Block) (leads : p ≡ pos a) (is : IsAddress a) (there : region_of c.heap a ≡ Some block) where
  at : address p ≡ a
  at = ap address leads

  nonzero : (address p == 0) ≡ false
  nonzero = ap (λ n. n == 0) at ∙ not_null a is

  pub loaded_is : (x : VarId) (s : StructId) (f : ℕ) (z : ℤ) → block_field block s.0 f ≡ Some (Some z) → loaded x s f q place c choices (Some p) ≡ set_to x q c choices z
  loaded_is x s f z field =
      let read : field_at (region_of c.heap (address p)) s.0 f ≡ Some (Some z) = ap (λ n. field_at (region_of c.heap n) s.0 f) at ∙ ap (λ o. field_at o s.0 f) there ∙ field in
      if_not (address p == 0) (last (fault faults.Null place)) (found x q place c choices (field_at (region_of c.heap (address p)) s.0 f)) nonzero ∙ ap (found x q place c choices) read

  pub stored_is : (s : StructId) (f : ℕ) (z : ℤ) → is_some (block_field block s.0 f) ≡ true → stored s f q place c choices (Some z) (Some p) ≡ with_heap q c choices (map.insert c.heap a (with_field block f z))
  stored_is s f z field =
      let heap : written c.heap (address p) s f z (region_of c.heap (address p)) ≡ Some (map.insert c.heap a (with_field block f z)) =
      ap (λ n. written c.heap n s f z (region_of c.heap n)) at ∙ ap (written c.heap a s f z) there ∙ if_so (is_some (block_field block s.0 f)) (Some (map.insert c.heap a (with_field block f z))) None field in
      if_not (address p == 0) (last (fault faults.Null place)) (put q place c choices (written c.heap (address p) s f z (region_of c.heap (address p)))) nonzero ∙ ap (put q place c choices) heap

  pub freed_is : freed q place c choices (Some p) ≡ with_heap q c choices (map.remove c.heap a)
  freed_is =
      if_not (address p == 0) (next (at_point q c) choices) (freed_at q place c choices (address p) (region_of c.heap (address p))) nonzero
      ∙ ap (λ n. freed_at q place c choices n (region_of c.heap n)) at ∙ ap (freed_at q place c choices a) there
