-- Where an instruction lacks something at a state that is exactly the configuration, the run faults.
use Rattle.std.proofs.Common.{◌≡◌, ◌≢◌, ℕ, zero, suc, ℤ, pos, negsuc, ◌+ℤ◌, ◌≤ℤ◌, Bool, true, false, Option, Some, None, List, [], ◌∷◌, ◌++◌, option_map, slice_get, if◌then◌else◌, refl, sym, ap, ◌∙◌, subst, arith, inl, eq-eqb, eqb-true}
use Rattle.std.specs.Prelude.{◌==◌}
use Rattle.std.specs.List.{AllByRecursion}
use Rattle.std.proofs.lemmas.Int.{ints}
use Rattle.mc_base.specs.declared.ids.EdgeId.{EdgeId}
use Rattle.mc_base.specs.declared.ids.NodeId.{NodeId}
use Rattle.mc_base.specs.declared.ids.PointId.{PointId}
use Rattle.mc_base.specs.declared.ids.StructId.{StructId}
use Rattle.mc_base.specs.declared.ids.VarId.{VarId}
use Rattle.mc_base.specs.declared.plain.Kind.{Kind}
use Rattle.mc_base.specs.declared.plain.Kind.TheVariants.{Int, Ptr}
use Rattle.mc_base.specs.declared.plain.Atom.TheVariants.{Ne, In}
use Rattle.mc_base.specs.Atoms.{IsTrueAtom}
use Rattle.mc_base.specs.declared.plain.FaultKind.TheVariants.{Null, Freed, Uninit, BadFree, Assertion}
use Rattle.mc_base.specs.Kinds.{InKind}
use Rattle.mc_base.specs.Nodes.{Valuation, at_node, null}
use Rattle.mc_base.specs.declared.plain.FaultKind.{FaultKind}
use Rattle.mc_flow.specs.Heap.Access.{block_field, field_at}
use Rattle.mc_flow.specs.Heap.Choices.{Choice}
use Rattle.mc_flow.specs.Heap.Heap as heap
use Rattle.mc_flow.specs.Heap.Heap.{region_of}
use Rattle.mc_flow.specs.declared.defs.rules.Def.{Def}
use Rattle.mc_flow.specs.declared.graph.Flow.{Flow}
use Rattle.mc_flow.specs.declared.graph.Point.{Point}
use Rattle.mc_flow.specs.declared.instr.Instr.TheVariants as instr
use Rattle.mc_flow.specs.declared.instr.Operand.{Operand}
use Rattle.mc_flow.specs.Runs.{next, last, fault}
use Rattle.mc_flow.specs.Steps.{Config, Step, at_point, loaded, found, freed, freed_at}
use Rattle.mc_pure.specs.Pure as known
use Rattle.mc_pure.specs.Pure.{kind_atom, kind_of}
use Rattle.mc_pure.specs.Laws.{IsTrue}
use Rattle.mc_state.specs.declared.graph.edge.Edge.TheVariants as edge
use Rattle.mc_state.specs.Graph.Graph.{Graph, edge_with, block_starts, IdsAscend}
use Rattle.mc_state.specs.State.{State, pure_of, var_node}
use Rattle.mc_state.specs.Facts.{AreEqual}
use Rattle.mc_state.proofs.Lists.{all_places}
use Rattle.mc_rules_steps.specs.Operands.{code_at, with_operand, HasBlock}
use Rattle.mc_rules_steps.specs.Unmet.{LacksFreed}
use Rattle.mc_exact.specs.Exact.{Picks}
use Rattle.mc_exact.proofs.Exactly.{answers, values_by, stored, IsExactly, IsTrueIn, IsAddressed, AreApart}
use Rattle.mc_exact.proofs.Stored.{held, one_item, IsFound, stored_found}
use Rattle.mc_exact.proofs.Lists.{field_by}
use Rattle.mc_exact.proofs.LowerLaws.{RunLaws}
use Rattle.mc_exact.proofs.Going.{lies, operand_exact, operand_edges, var_value, operand_value}
use Rattle.mc_exact.proofs.Instructions.{has_code, not_zero}
use Rattle.mc_exact.proofs.Running.{ComesTo}
use Rattle.mc_exact.specs.Real.{FaultsWith}

-- ---- from what is known at places to what is known by recursion

apart_of : (v : Valuation) (as' : List NodeId) → ((i j : ℕ) (a b : NodeId) → i ≢ j → slice_get as' i ≡ Some a → slice_get as' j ≡ Some b → v a.0 ≢ v b.0) → AreApart v as'
apart_of v [] at = tt
apart_of v (a ∷ as') at = (all_places (λ (b : NodeId). v a.0 ≢ v b.0) as' (λ i b e. at 0 (suc i) a b (λ z. (let y : 0 ≡ suc i = z in omega arith)) refl e), apart_of v as' (λ i j x y ne e h. at (suc i) (suc j) x y (λ z. ne (let y' : suc i ≡ suc j = z in omega arith)) e h))

with_zero : (x y : ℤ) → x ≡ y → x ≡ y +ℤ pos 0
with_zero x y e = omega (arith, ints)

in_kind : (v : Valuation) (n : NodeId) (k : Kind) → IsTrueAtom v (kind_atom n k) → InKind k (v n.0)
in_kind v n Int h = h
in_kind v n Ptr h = h

pub true_in : (v : Valuation) (s : State) → IsTrue v (pure_of s) → IsTrueIn v s
true_in v s holds = record {
  null = (let z = holds (In null (pos 0) (pos 0)) known.zero in zero_one (v 0) z.0 z.1);
  kinds = all_places (λ k. InKind k.1 (v k.0.0)) s.kinds (λ i k e. in_kind v k.0 k.1 (holds (kind_atom k.0 k.1) (known.kind i e)));
  atoms = all_places (IsTrueAtom v) s.atoms (λ i f e. holds f (known.written i e));
  starts = all_places (IsAddressed v) (block_starts s.graph.edges) (λ i a e. holds (known.address_atom a) (known.block i e));
  apart = apart_of v (block_starts s.graph.edges) (λ i j a b ne e h same. holds (Ne a b (pos 0)) (known.apart i j ne e h) (with_zero (v a.0) (v b.0) same));
}
  where
    zero_one : (x : ℤ) → pos 0 ≤ℤ x → x ≤ℤ pos 0 → x ≡ pos 0
    zero_one x a b = omega (arith, ints)

-- ---- faults

-- the run faults here
abbrev pub Faults : Flow → List Def → PointId → Config → List Choice → Type 0
Faults flow defs p c choices = (point : Point) × (kind : FaultKind) × (slice_get flow.points p.0 ≡ Some point) × Step flow defs c choices (last (fault kind point.place))

-- the starts of blocks that have a node's number are entailed equal to it
abbrev pub IsSeparate : Valuation → State → NodeId → Type 0
IsSeparate v s n = (id : EdgeId) (at : NodeId) (shape : StructId) (fields : List (Option NodeId)) → edge_with s.graph.edges id ≡ Some (edge.Block at shape fields) → v n.0 ≡ v at.0 → AreEqual s n at

struct_same : (a b : StructId) → a.0 ≡ b.0 → a ≡ b
struct_same a b e = let f : ℕ → StructId = λ k. record { 0 = k } in ap f e

pub eq_same : (m n : ℕ) → (m == n) ≡ true → m ≡ n
eq_same m n e = eqb-true m n e

module _ (laws : RunLaws) (flow : Flow) (defs : List Def) (v : Valuation) where
  -- what a field of an address holds, where no block of the struct is there
  pub absent : (c : Config) (p : PointId) (s : State) (n : NodeId) (shape : StructId) (f k : ℕ) → IsExactly v c p s → IdsAscend 0 s.graph.edges s.graph.next → IsSeparate v s n
      → (HasBlock s n shape → ⊥) → v n.0 ≡ pos (suc k) → field_at (region_of c.heap (suc k)) shape.0 f ≡ None
  absent c p s n shape f k at ids apart lacks leads = by (stored v s.graph.edges (suc k)) refl (at.heap (suc k))
    where
      by : (o : Option heap.Block) → stored v s.graph.edges (suc k) ≡ o → region_of c.heap (suc k) ≡ stored v s.graph.edges (suc k) → field_at (region_of c.heap (suc k)) shape.0 f ≡ None
      by None e h = ap (λ (o : Option heap.Block). field_at o shape.0 f) (h ∙ e)
      by (Some b) e h = ap (λ (o : Option heap.Block). field_at o shape.0 f) (h ∙ e) ∙ other (stored_found v s.graph.edges (suc k) b 0 s.graph.next ids e)
        where
          other : IsFound v s.graph.edges (suc k) b 0 → block_field b shape.0 f ≡ None
          other found' = ap (λ (x : heap.Block). block_field x shape.0 f) found'.is ∙ of (found'.shape.0 == shape.0) refl
            where
              of : (z : Bool) → (found'.shape.0 == shape.0) ≡ z → block_field (held v found'.shape found'.fields) shape.0 f ≡ None
              of true is =
                  let same : found'.shape ≡ shape = struct_same found'.shape shape (eq_same found'.shape.0 shape.0 is) in
                  let there : edge_with s.graph.edges found'.id ≡ Some (edge.Block found'.node shape found'.fields) = found'.there ∙ ap (λ (x : StructId). Some (edge.Block found'.node x found'.fields)) same in
                  absurd (lacks (record { id = found'.id; at = found'.node; fields = found'.fields; there = there; equal = apart found'.id found'.node shape found'.fields there (leads ∙ sym found'.leads) }))
              of false is = ap (λ (z : Bool). if z then slice_get (values_by v found'.fields) f else None) is

  -- what an address holds, where no block is there
  nothing : (c : Config) (p : PointId) (s : State) (n : NodeId) (k : ℕ) → IsExactly v c p s → IdsAscend 0 s.graph.edges s.graph.next → IsSeparate v s n
      → ((shape : StructId) → HasBlock s n shape → ⊥) → v n.0 ≡ pos (suc k) → region_of c.heap (suc k) ≡ None
  nothing c p s n k at ids apart lacks leads = by (stored v s.graph.edges (suc k)) refl (at.heap (suc k))
    where
      by : (o : Option heap.Block) → stored v s.graph.edges (suc k) ≡ o → region_of c.heap (suc k) ≡ stored v s.graph.edges (suc k) → region_of c.heap (suc k) ≡ None
      by None e h = h ∙ e
      by (Some b) e h =
          let f = stored_found v s.graph.edges (suc k) b 0 s.graph.next ids e in
          absurd (lacks f.shape (record { id = f.id; at = f.node; fields = f.fields; there = f.there; equal = apart f.id f.node f.shape f.fields f.there (leads ∙ sym f.leads) }))

  -- a read or a write where no block is known
  pub load_faults : (c : Config) (p : PointId) (s : State) (x y : VarId) (shape : StructId) (f : ℕ) (q : PointId) (n : NodeId) (choices : List Choice) → code_at flow p ≡ Some (instr.Load x y shape f q)
      → IsExactly v c p s → IdsAscend 0 s.graph.edges s.graph.next → IsSeparate v s n → pos 0 ≤ℤ v n.0 → var_node s y ≡ Some n → (HasBlock s n shape → ⊥) → Faults flow defs p c choices
  load_faults c p s x y shape f q n choices is at ids apart up known' lacks = by (v n.0) refl up
    where
      by : (z : ℤ) → v n.0 ≡ z → pos 0 ≤ℤ z → Faults flow defs p c choices
      by (negsuc k) e le = absurd (omega (arith, ints))
      by (pos zero) e le =
          let code = has_code flow defs p (instr.Load x y shape f q) c is at.point in
          let value = var_value laws flow defs v c p s y at ∙ ap (option_map (at_node v)) known' ∙ ap Some e in
          (code.point, Null, code.there, code.steps choices (last (fault Null code.point.place)) (sym (ap (loaded x shape f q code.point.place c choices) value)))
      by (pos (suc k)) e le =
          let code = has_code flow defs p (instr.Load x y shape f q) c is at.point in
          let value = var_value laws flow defs v c p s y at ∙ ap (option_map (at_node v)) known' ∙ ap Some e in (
            code.point,
            Freed,
            code.there,
            code.steps choices (last (fault Freed code.point.place))
                (sym (ap (loaded x shape f q code.point.place c choices) value
                ∙ ap (λ (b : Bool). if b then last (fault Null code.point.place) else found x q code.point.place c choices (field_at (region_of c.heap (suc k)) shape.0 f)) (not_zero k)
                ∙ ap (found x q code.point.place c choices) (absent c p s n shape f k at ids apart lacks e))),
          )

  -- a read of a field that is not known
  pub field_faults : (c : Config) (p : PointId) (s : State) (x y : VarId) (shape : StructId) (f : ℕ) (q : PointId) (n : NodeId) (choices : List Choice) → code_at flow p ≡ Some (instr.Load x y shape f q)
      → IsExactly v c p s → IsTrueIn v s → var_node s y ≡ Some n → (b : HasBlock s n shape) → slice_get b.fields f ≡ Some None → Faults flow defs p c choices
  field_faults c p s x y shape f q n choices is at holds known' b field =
      let code = has_code flow defs p (instr.Load x y shape f q) c is at.point in
      let l = lies laws flow defs v c p s n shape at holds b in
      let value = var_value laws flow defs v c p s y at ∙ ap (option_map (at_node v)) known' ∙ ap Some l.leads in
      let read : slice_get (values_by v b.fields) f ≡ Some None = field_by v b.fields f ∙ ap (option_map (option_map (at_node v))) field in (
        code.point,
        Uninit,
        code.there,
        code.steps choices (last (fault Uninit code.point.place))
            (sym (ap (loaded x shape f q code.point.place c choices) value
            ∙ ap (λ (b : Bool). if b then last (fault Null code.point.place) else found x q code.point.place c choices (field_at (region_of c.heap (suc l.k)) shape.0 f)) (not_zero l.k)
            ∙ ap (λ (o : Option heap.Block). found x q code.point.place c choices (field_at o shape.0 f)) l.here
            ∙ ap (λ (b' : Bool). found x q code.point.place c choices (if b' then slice_get (values_by v b.fields) f else None)) (eq-eqb shape.0 shape.0 refl)
            ∙ ap (found x q code.point.place c choices) read)),
      )

  -- what is freed is not null, and no block lies there
  pub free_faults : (c : Config) (p : PointId) (s : State) (o : Operand) (q : PointId) (n : NodeId) (choices : List Choice) → code_at flow p ≡ Some (instr.Free o q)
      → IsExactly v c p s → IsTrueIn v (with_operand s o) → IdsAscend 0 s.graph.edges s.graph.next → IsSeparate v (with_operand s o) n → pos 0 ≤ℤ v n.0 → (v n.0 ≡ pos 0 → AreEqual (with_operand s o) n null)
      → LacksFreed defs s o n → Faults flow defs p c choices
  free_faults c p s o q n choices is at holds ids apart up null_is lacks = by (v n.0) refl up
    where
      by : (z : ℤ) → v n.0 ≡ z → pos 0 ≤ℤ z → Faults flow defs p c choices
      by (negsuc k) e le = absurd (omega (arith, ints))
      by (pos zero) e le = absurd (lacks.1 (null_is e))
      by (pos (suc k)) e le =
          let code = has_code flow defs p (instr.Free o q) c is at.point in
          let value = operand_value laws flow defs v c p s o n at holds lacks.0 ∙ ap Some e in
          let at' = operand_exact laws flow defs v c p s o at in
          let ids' : IdsAscend 0 (with_operand s o).graph.edges (with_operand s o).graph.next = subst (λ (g : Graph). IdsAscend 0 g.edges g.next) (sym (operand_edges laws flow defs v s o)) ids in
          let none = nothing c p (with_operand s o) n k at' ids' apart (λ shape. (lacks.2 shape).block) e in (
            code.point,
            BadFree,
            code.there,
            code.steps choices (last (fault BadFree code.point.place))
                (sym (ap (freed q code.point.place c choices) value
                ∙ ap (λ (b : Bool). if b then next (at_point q c) choices else freed_at q code.point.place c choices (suc k) (region_of c.heap (suc k))) (not_zero k)
                ∙ ap (freed_at q code.point.place c choices (suc k)) none)),
          )

  -- a failing instruction is reached
  pub fail_faults : (c : Config) (p : PointId) (s : State) (choices : List Choice) → code_at flow p ≡ Some instr.Fail → IsExactly v c p s → Faults flow defs p c choices
  fail_faults c p s choices is at =
      let code = has_code flow defs p instr.Fail c is at.point in
      (code.point, Assertion, code.there, code.steps choices (last (fault Assertion code.point.place)) refl)

pub kind_holds : (v : Valuation) (kinds : List (NodeId × Kind)) (n : NodeId) (kind : Kind) → AllByRecursion (λ k. InKind k.1 (v k.0.0)) kinds → kind_of kinds n ≡ Some kind → InKind kind (v n.0)
kind_holds v [] n kind all e = cc
kind_holds v (k ∷ kinds) n kind all e = by (λ h. kind_holds v kinds n kind all.1 h) (k.0.0 == n.0) refl e
  where
    by : (kind_of kinds n ≡ Some kind → InKind kind (v n.0)) → (b : Bool) → (k.0.0 == n.0) ≡ b → (if b then Some k.1 else kind_of kinds n) ≡ Some kind → InKind kind (v n.0)
    by later true is h =
        let same : k.1 ≡ kind = one_item k.1 kind h in
        let number : k.0.0 ≡ n.0 = eq_same k.0.0 n.0 is in
        subst (λ (m : ℕ). InKind kind (v m)) number (subst (λ (x : Kind). InKind x (v k.0.0)) same all.0)
    by later false is h = later h

-- ---- a fault where the run comes to is one from the start

pub faults_at : (flow : Flow) (defs : List Def) (v : Valuation) (p : PointId) (s : State) (picks : Picks) (k : ℕ) (laws : RunLaws) (came : ComesTo laws flow defs v p s picks k []) → Faults flow defs p came.config [] → FaultsWith flow defs p (answers v picks ++ []) (suc k)
faults_at flow defs v p s picks k laws came f =
    let r = came.comes 1 (fault f.1 f.0.place) (inl f.3) in
    (f.0, f.1, r.0, f.2, (let le = r.1 in omega arith), r.2)
