-- What instructions do with heaps, and what these hold after a change of one address.
use Rattle.std.proofs.Common.{◌≡◌, ◌≢◌, ◌⊎◌, ◌<◌, ◌≤◌, ◌^◌, ℕ, zero, suc, ℤ, pos, negsuc, ◌≤ℤ◌, Bool, true, false, Option, Some, None, List, [], ◌∷◌, ◌++◌, option_map, length, slice_get, if◌then◌else◌, refl, sym, ap, ◌∙◌, subst, arith, inl, inr, eq-eqb}
use Rattle.std.specs.Prelude.{◌==◌, is_some}
use Rattle.std.specs.FinMap as map
use Rattle.std.specs.Ordering.{int_eq}
use Rattle.std.specs.List.{AllByRecursion}
use Rattle.std.proofs.lemmas.Int.{ints}
use Rattle.mc_base.specs.declared.ids.EdgeId.{EdgeId}
use Rattle.mc_base.specs.declared.ids.NodeId.{NodeId}
use Rattle.mc_base.specs.declared.ids.PointId.{PointId}
use Rattle.mc_base.specs.declared.ids.StructId.{StructId}
use Rattle.mc_base.specs.declared.ids.VarId.{VarId}
use Rattle.mc_base.specs.declared.plain.FaultKind.TheVariants.{Null}
use Rattle.mc_base.specs.Nodes.{Valuation}
use Rattle.mc_base.specs.declared.text.place.Place.{Place}
use Rattle.mc_flow.specs.Heap.Access.{field_at, with_field}
use Rattle.mc_flow.specs.Heap.Choices.{Choice}
use Rattle.mc_flow.specs.Heap.Heap as heap
use Rattle.mc_flow.specs.Heap.Heap.{Region, region_of, IsAddress}
use Rattle.mc_flow.specs.Heap.Parts.{Changes}
use Rattle.mc_flow.specs.declared.defs.rules.Def.{Def}
use Rattle.mc_flow.specs.declared.graph.Flow.{Flow}
use Rattle.mc_flow.specs.declared.graph.Point.{Point}
use Rattle.mc_flow.specs.declared.instr.Instr.{Instr}
use Rattle.mc_flow.specs.Runs.{next, last, fault}
use Rattle.mc_flow.specs.Steps.{Config, Result, Step, StepOf, StepAt, at_point, set_to, with_heap, loaded, found, stored as put_in, written, put, freed, freed_at}
use Rattle.mc_state.specs.declared.graph.edge.Edge.TheVariants as edge
use Rattle.mc_state.specs.Graph.Graph.{Edges, edge_with, without, replaced, block_starts}
use Rattle.mc_rules_steps.specs.Next.{Next}
use Rattle.mc_rules_steps.specs.Operands.{code_at}
use Rattle.mc_exact.proofs.Exactly.{stored, IsBlock, IsExactly, AreApart}
use Rattle.mc_exact.proofs.Stored.{held, block_stored, stored_more, stored_new, stored_others, stored_gone, stored_left, one_item}
use Rattle.mc_exact.proofs.Back.{replaced_starts, replaced_there}

-- the instruction at a point gives steps
pub record HasCode (flow : Flow) (defs : List Def) (p : PointId) (code : Instr) (c : Config) : Type 0 where
  pub point : Point
  pub there : slice_get flow.points p.0 ≡ Some point
  pub steps : (choices : List Choice) (r : Result) → StepOf flow.structs defs point.place code c choices r → Step flow defs c choices r

pub has_code : (flow : Flow) (defs : List Def) (p : PointId) (code : Instr) (c : Config) → code_at flow p ≡ Some code → c.point ≡ p.0 → HasCode flow defs p code c
has_code flow defs p code c is at = by (slice_get flow.points p.0) refl is
  where
    by : (o : Option Point) → slice_get flow.points p.0 ≡ o → option_map (λ point. point.code) o ≡ Some code → HasCode flow defs p code c
    by None e h = cc
    by (Some point) e h = let same : point.code ≡ code = cc in record {
      point = point;
      there = e;
      steps = λ choices r s. (
          let here : slice_get flow.points c.point ≡ Some point = ap (λ (n : ℕ). slice_get flow.points n) at ∙ e in
          let s' : StepOf flow.structs defs point.place point.code c choices r = subst (λ (k : Instr). StepOf flow.structs defs point.place k c choices r) (sym same) s in
          subst (λ (o : Option Point). StepAt flow.structs defs o c choices r) (sym here) s');
    }

-- the run goes to a successor
abbrev pub GoesTo : Flow → List Def → Valuation → Config → List Choice → List Choice → Next → Type 0
GoesTo flow defs v c choices rest n = (d : Config) × Step flow defs c choices (next d rest) × IsExactly v d n.point n.state

pub first_is : (n m : Next) (ns : List Next) (place : ℕ) → slice_get ns place ≡ Some n → ns ≡ m ∷ [] → m ≡ n
first_is n m ns place e is = at place (subst (λ (l : List Next). slice_get l place ≡ Some n) is e)
  where
    at : (place : ℕ) → slice_get (m ∷ []) place ≡ Some n → m ≡ n
    at zero h = one_item m n h
    at (suc k) h = cc

pub int_back : (x y : ℤ) → int_eq x y ≡ true → x ≡ y
int_back x y e = grind (arith, ints)

pub in_one : (x c : ℤ) → c ≤ℤ x → x ≤ℤ c → x ≡ c
in_one x c l h = omega (arith, ints)

pub positive : (x : ℤ) → pos 1 ≤ℤ x → (k : ℕ) × (x ≡ pos (suc k))
positive (pos zero) le = absurd (omega (arith, ints))
positive (pos (suc k)) le = (k, refl)
positive (negsuc k) le = absurd (omega (arith, ints))

pub not_zero : (k : ℕ) → (suc k == 0) ≡ false
not_zero k = grind arith

pub loaded_at : (x : VarId) (shape : StructId) (f : ℕ) (q : PointId) (place : Place) (c : Config) (choices : List Choice) (k : ℕ) (contents : List (Option ℤ)) (z : ℤ)
    → region_of c.heap (suc k) ≡ Some (record { shape = shape.0; fields = contents }) → slice_get contents f ≡ Some (Some z) → loaded x shape f q place c choices (Some (pos (suc k))) ≡ set_to x q c choices z
loaded_at x shape f q place c choices k contents z here read =
    ap (λ (b : Bool). if b then last (fault Null place) else found x q place c choices (field_at (region_of c.heap (suc k)) shape.0 f)) (not_zero k)
    ∙ ap (λ (o : Option heap.Block). found x q place c choices (field_at o shape.0 f)) here
    ∙ ap (λ (b : Bool). found x q place c choices (if b then slice_get contents f else None)) (eq-eqb shape.0 shape.0 refl)
    ∙ ap (found x q place c choices) read

there_is : (contents : List (Option ℤ)) (f : ℕ) → f < length contents → is_some (slice_get contents f) ≡ true
there_is [] f lt = absurd (omega arith)
there_is (x ∷ xs) zero lt = refl
there_is (x ∷ xs) (suc f) lt = there_is xs f (let l : suc f < suc (length xs) = lt in omega arith)

pub stored_at : (shape : StructId) (f : ℕ) (q : PointId) (place : Place) (c : Config) (choices : List Choice) (k : ℕ) (contents : List (Option ℤ)) (z : ℤ)
    → region_of c.heap (suc k) ≡ Some (record { shape = shape.0; fields = contents }) → f < length contents
    → put_in shape f q place c choices (Some z) (Some (pos (suc k))) ≡ with_heap q c choices (map.insert c.heap (suc k) (with_field (record { shape = shape.0; fields = contents }) f z))
stored_at shape f q place c choices k contents z here inside =
    let block : heap.Block = record { shape = shape.0; fields = contents } in
    let new = map.insert c.heap (suc k) (with_field block f z) in
    ap (λ (b : Bool). if b then last (fault Null place) else put q place c choices (written c.heap (suc k) shape f z (region_of c.heap (suc k)))) (not_zero k)
    ∙ ap (λ (o : Option heap.Block). put q place c choices (written c.heap (suc k) shape f z o)) here
    ∙ ap (λ (b : Bool). put q place c choices (if is_some (if b then slice_get contents f else None) then Some new else None)) (eq-eqb shape.0 shape.0 refl)
    ∙ ap (λ (b : Bool). put q place c choices (if b then Some new else None)) (there_is contents f inside)

pub freed_here : (q : PointId) (place : Place) (c : Config) (choices : List Choice) (k : ℕ) (b : heap.Block) → region_of c.heap (suc k) ≡ Some b → freed q place c choices (Some (pos (suc k))) ≡ with_heap q c choices (map.remove c.heap (suc k))
freed_here q place c choices k b here =
    ap (λ (z : Bool). if z then next (at_point q c) choices else freed_at q place c choices (suc k) (region_of c.heap (suc k))) (not_zero k)
    ∙ ap (freed_at q place c choices (suc k)) here

pub is_address : (x : ℤ) (k : ℕ) → x ≡ pos (suc k) → x ≤ℤ pos 4611686018427387903 → IsAddress (suc k)
is_address x k e le =
    let le' : pos (suc k) ≤ℤ pos 4611686018427387903 = subst (λ (z : ℤ). z ≤ℤ pos 4611686018427387903) e le in
    let n : suc k ≤ 4611686018427387903 = omega (arith, ints) in
    let power : 2 ^ 62 ≡ 4611686018427387904 = refl in
    (omega arith, omega (arith, power))

pub same_nat : (m n : ℕ) → (m ≡ n) ⊎ (m ≢ n)
same_nat m n = grind arith

pub pos_one : (m n : ℕ) → pos m ≡ pos n → n ≡ m
pos_one m n e = omega (arith, ints)

-- ---- what the heap holds after a change of one address

pub heap_replaced : (v : Valuation) (before after : Region) (es : Edges) (id : EdgeId) (n : NodeId) (shape : StructId) (fields others : List (Option NodeId)) (k : ℕ)
    → ((a : ℕ) → before a ≡ stored v es a) → AreApart v (block_starts es) → edge_with es id ≡ Some (edge.Block n shape fields) → v n.0 ≡ pos (suc k)
    → Changes before after (suc k) (Some (held v shape others)) → (a : ℕ) → after a ≡ stored v (replaced es id (edge.Block n shape others)) a
heap_replaced v before after es id n shape fields others k is apart there leads change a = elim (same_nat a (suc k)) [
  | inl e ↦
      let apart' : AreApart v (block_starts (replaced es id (edge.Block n shape others))) = subst (λ (ns : List NodeId). AreApart v ns) (sym (replaced_starts es id n shape fields others there)) apart in
      ap after e ∙ change.here ∙ sym (block_stored v (replaced es id (edge.Block n shape others)) id n shape others a apart' (replaced_there es id (edge.Block n shape fields) (edge.Block n shape others) there) (leads ∙ ap pos (sym e)))
  | inr ne ↦ change.others a ne ∙ is a ∙ sym (stored_others v es id n shape fields others a there (λ same. ne (pos_one (suc k) a (sym leads ∙ same))))
]

pub heap_gone : (v : Valuation) (before after : Region) (es : Edges) (id : EdgeId) (n : NodeId) (shape : StructId) (fields : List (Option NodeId)) (k : ℕ)
    → ((a : ℕ) → before a ≡ stored v es a) → AreApart v (block_starts es) → edge_with es id ≡ Some (edge.Block n shape fields) → v n.0 ≡ pos (suc k)
    → Changes before after (suc k) None → (a : ℕ) → after a ≡ stored v (without es id) a
heap_gone v before after es id n shape fields k is apart there leads change a = elim (same_nat a (suc k)) [
  | inl e ↦ ap after e ∙ change.here ∙ sym (stored_gone v es id n shape fields a apart there (leads ∙ ap pos (sym e)))
  | inr ne ↦ change.others a ne ∙ is a ∙ sym (stored_left v es id n shape fields a there (λ same. ne (pos_one (suc k) a (sym leads ∙ same))))
]

pub heap_made : (v : Valuation) (before after : Region) (es : Edges) (id : EdgeId) (n : NodeId) (shape : StructId) (fields : List (Option NodeId)) (k : ℕ)
    → ((a : ℕ) → before a ≡ stored v es a) → stored v es (suc k) ≡ None → v n.0 ≡ pos (suc k)
    → Changes before after (suc k) (Some (held v shape fields)) → (a : ℕ) → after a ≡ stored v (es ++ (id, edge.Block n shape fields) ∷ []) a
heap_made v before after es id n shape fields k is free leads change a = elim (same_nat a (suc k)) [
  | inl e ↦ ap after e ∙ change.here ∙ sym (stored_new v es id n shape fields a (leads ∙ ap pos (sym e)) (ap (stored v es) e ∙ free))
  | inr ne ↦ change.others a ne ∙ is a ∙ sym (stored_more v es id n shape fields a (λ same. ne (pos_one (suc k) a (sym leads ∙ same))))
]

pub blocks_left : (es : Edges) (id : EdgeId) → AllByRecursion (λ e. IsBlock e.1) es → AllByRecursion (λ e. IsBlock e.1) (without es id)
blocks_left [] id all = tt
blocks_left (e ∷ es) id all = by (blocks_left es id all.1) (e.0.0 == id.0)
  where
    by : AllByRecursion (λ e. IsBlock e.1) (without es id) → (b : Bool) → AllByRecursion (λ e. IsBlock e.1) (if b then es else e ∷ without es id)
    by later true = all.1
    by later false = (all.0, later)

pub blocks_replaced : (es : Edges) (id : EdgeId) (n : NodeId) (shape : StructId) (fields : List (Option NodeId)) → AllByRecursion (λ e. IsBlock e.1) es → AllByRecursion (λ e. IsBlock e.1) (replaced es id (edge.Block n shape fields))
blocks_replaced [] id n shape fields all = tt
blocks_replaced (e ∷ es) id n shape fields all = by (blocks_replaced es id n shape fields all.1) (e.0.0 == id.0)
  where
    by : AllByRecursion (λ e. IsBlock e.1) (replaced es id (edge.Block n shape fields)) → (b : Bool) → AllByRecursion (λ e. IsBlock e.1) (if b then (e.0, edge.Block n shape fields) ∷ es else e ∷ replaced es id (edge.Block n shape fields))
    by later true = (tt, all.1)
    by later false = (all.0, later)
