-- Every alarm that lacks no shape is a fault.
use Rattle.std.proofs.Common.{◌≡◌, ◌⊎◌, ℕ, zero, suc, ℤ, pos, negsuc, ◌+ℤ◌, ◌-ℤ◌, ◌*ℤ◌, ◌≤ℤ◌, Bool, true, Option, Some, None, List, [], ◌∷◌, map, option_map, slice_get, if◌then◌else◌, refl, sym, ap, ap₂, ◌∙◌, subst, arith, inl, inr}
use Rattle.std.specs.Prelude.{is_some, int_le}
use Rattle.std.specs.FinMap as map
use Rattle.std.specs.Ordering.{int_eq}
use Rattle.std.specs.List.{AllByRecursion}
use Rattle.std.proofs.lemmas.Int.{ints}
use Rattle.mc_base.specs.declared.ids.EdgeId.{EdgeId}
use Rattle.mc_base.specs.declared.ids.NodeId.{NodeId}
use Rattle.mc_base.specs.declared.ids.PointId.{PointId}
use Rattle.mc_base.specs.declared.ids.StructId.{StructId}
use Rattle.mc_base.specs.declared.ids.VarId.{VarId}
use Rattle.mc_base.specs.declared.plain.Kind.TheVariants.{Ptr}
use Rattle.mc_base.specs.declared.plain.FaultKind.TheVariants.{Null, Freed, Uninit, NotEmpty as Left}
use Rattle.mc_base.specs.Nodes.{Valuation, at_node, null}
use Rattle.mc_base.specs.declared.text.place.Place.{Place}
use Rattle.mc_base.specs.declared.plain.FaultKind.{FaultKind}
use Rattle.mc_base.specs.declared.ids.PredId.{PredId}
use Rattle.mc_flow.specs.Heap.Access.{field_at, with_field}
use Rattle.mc_flow.specs.Heap.Choices.{Choice}
use Rattle.mc_flow.specs.Heap.Heap as heap
use Rattle.mc_flow.specs.Heap.Heap.{region_of}
use Rattle.mc_flow.specs.Heap.Parts.{IsEmpty}
use Rattle.mc_flow.specs.declared.defs.rules.Def.{Def}
use Rattle.mc_flow.specs.declared.graph.Flow.{Flow}
use Rattle.mc_flow.specs.declared.instr.Instr.{Instr}
use Rattle.mc_flow.specs.declared.instr.Instr.TheVariants as instr
use Rattle.mc_flow.specs.declared.instr.Operand.{Operand}
use Rattle.mc_flow.specs.declared.instr.Operand.TheVariants.{Var, Const}
use Rattle.mc_flow.specs.Runs.{last, fault}
use Rattle.mc_flow.specs.Steps.{Config, StepOf, copied, loaded, stored as put_in, written, put, freed, tested, computed, Assumes, Asserts}
use Rattle.mc_flow.specs.Values.{value_in, value_of, all_there, values_of}
use Rattle.mc_pure.specs.Pure.{HasKind}
use Rattle.mc_pure.specs.Derived.{itself}
use Rattle.mc_state.specs.declared.graph.edge.Edge.{Edge}
use Rattle.mc_state.specs.declared.graph.edge.Edge.TheVariants as edge
use Rattle.mc_state.specs.Graph.Graph.{Edges, edge_with, block_starts, IdsAscend}
use Rattle.mc_state.specs.State.{State, var_node, next_node}
use Rattle.mc_state.specs.Facts.{AreEqual}
use Rattle.mc_rules_steps.specs.Operands.{code_at, with_operand, HasBlock}
use Rattle.mc_rules_steps.specs.Unmet.{IsFirstUnknown, taken, AreKnown, IsGap, IsUnmet, Lacks}
use Rattle.mc_rules_steps.specs.declared.gap.Gap.{Gap}
use Rattle.mc_rules_steps.specs.declared.gap.Gap.TheVariants.{Uninit as Unknown, NoBlock, Reached, NoShape, UninitField, NotEmpty}
use Rattle.mc_exact.proofs.Exactly.{stored, IsBlock, IsExactly, IsTrueIn, IsAddressed}
use Rattle.mc_exact.proofs.Stored.{held, eq_yes, one_item}
use Rattle.mc_exact.proofs.LowerLaws.{RunLaws}
use Rattle.mc_exact.proofs.Instructions.{has_code, not_zero, positive}
use Rattle.mc_exact.proofs.Going.{var_value}
use Rattle.mc_exact.proofs.Faults.{Faults, IsSeparate, load_faults, field_faults, free_faults, fail_faults, absent, kind_holds}

module _ (laws : RunLaws) (flow : Flow) (defs : List Def) (v : Valuation) (c : Config) (p : PointId) (s : State) (at : IsExactly v c p s) where
  -- what is not known is undefined, and what is known is defined
  one_none : (o : Operand) (x : VarId) → IsFirstUnknown s (o ∷ []) x → value_of c.vars o ≡ None
  one_none (Const k) x h = absurd h
  one_none (Var y) x (inl h) = var_value laws flow defs v c p s y at ∙ ap (option_map (at_node v)) h.0
  one_none (Var y) x (inr h) = absurd h.2

  two_none : (o o' : Operand) (x : VarId) → IsFirstUnknown s (o ∷ o' ∷ []) x → (value_of c.vars o ≡ None) ⊎ ((z : ℤ) × (value_of c.vars o ≡ Some z) × (value_of c.vars o' ≡ None))
  two_none (Const k) o' x h = inr (k, refl, one_none o' x h)
  two_none (Var y) o' x (inl h) = inl (var_value laws flow defs v c p s y at ∙ ap (option_map (at_node v)) h.0)
  two_none (Var y) o' x (inr h) = inr (v h.0.0, var_value laws flow defs v c p s y at ∙ ap (option_map (at_node v)) h.1, one_none o' x h.2)

  some_none : (os : List Operand) (x : VarId) → IsFirstUnknown s os x → values_of c.vars os ≡ None
  some_none [] x h = absurd h
  some_none (Const k ∷ os) x h = ap (option_map (λ (zs : List ℤ). k ∷ zs)) (some_none os x h)
  some_none (Var y ∷ os) x (inl h) = ap (λ (o : Option ℤ). all_there (o ∷ map (value_of c.vars) os)) (var_value laws flow defs v c p s y at ∙ ap (option_map (at_node v)) h.0)
  some_none (Var y ∷ os) x (inr h) =
      ap (λ (o : Option ℤ). all_there (o ∷ map (value_of c.vars) os)) (var_value laws flow defs v c p s y at ∙ ap (option_map (at_node v)) h.1)
      ∙ ap (option_map (λ (zs : List ℤ). v h.0.0 ∷ zs)) (some_none os x h.2)

  known_value : (o : Operand) (os : List Operand) → AreKnown s (o ∷ os) → (z : ℤ) × (value_of c.vars o ≡ Some z)
  known_value (Const k) os h = (k, refl)
  known_value (Var y) os h = (v h.0.0.0, var_value laws flow defs v c p s y at ∙ ap (option_map (at_node v)) h.0.1)

  -- a fault of the instruction
  faults : (code : Instr) (kind : FaultKind) (choices : List Choice) → code_at flow p ≡ Some code → ((place : Place) → StepOf flow.structs defs place code c choices (last (fault kind place))) → Faults flow defs p c choices
  faults code kind choices is step =
      let has = has_code flow defs p code c is at.point in
      (has.point, kind, has.there, has.steps choices (last (fault kind has.point.place)) (step has.point.place))

  both : (op : ℤ → ℤ → ℤ) (x : VarId) (o o' : Operand) (q : PointId) (choices : List Choice) (place : Place) (y : VarId) → IsFirstUnknown s (o ∷ o' ∷ []) y
      → last (fault Uninit place) ≡ computed op x q place c choices (value_of c.vars o) (value_of c.vars o')
  both op x o o' q choices place y h = elim (two_none o o' y h) [
    | inl none ↦ sym (ap (λ (a : Option ℤ). computed op x q place c choices a (value_of c.vars o')) none)
    | inr none ↦ sym (ap₂ (computed op x q place c choices) none.1 none.2)
  ]

  test : (compare : ℤ → ℤ → Bool) (o o' : Operand) (t f : PointId) (choices : List Choice) (place : Place) (y : VarId) → IsFirstUnknown s (o ∷ o' ∷ []) y
      → last (fault Uninit place) ≡ tested compare t f place c choices (value_of c.vars o) (value_of c.vars o')
  test compare o o' t f choices place y h = elim (two_none o o' y h) [
    | inl none ↦ sym (ap (λ (a : Option ℤ). tested compare t f place c choices a (value_of c.vars o')) none)
    | inr none ↦ sym (ap₂ (tested compare t f place c choices) none.1 none.2)
  ]

  -- a variable that is taken is not known
  unknown_faults : (code : Instr) (y : VarId) (choices : List Choice) → code_at flow p ≡ Some code → IsFirstUnknown s (taken code) y → Faults flow defs p c choices
  unknown_faults (instr.Copy x o q) y choices is h = faults (instr.Copy x o q) Uninit choices is (λ place. sym (ap (copied x q place c choices) (one_none o y h)))
  unknown_faults (instr.Add x o o' q) y choices is h = faults (instr.Add x o o' q) Uninit choices is (λ place. both (λ a b. a +ℤ b) x o o' q choices place y h)
  unknown_faults (instr.Sub x o o' q) y choices is h = faults (instr.Sub x o o' q) Uninit choices is (λ place. both (λ a b. a -ℤ b) x o o' q choices place y h)
  unknown_faults (instr.Mul x o o' q) y choices is h = faults (instr.Mul x o o' q) Uninit choices is (λ place. both (λ a b. a *ℤ b) x o o' q choices place y h)
  unknown_faults (instr.Load x b shape f q) y choices is h = faults (instr.Load x b shape f q) Uninit choices is (λ place. sym (ap (loaded x shape f q place c choices) (one_none (Var b) y h)))
  unknown_faults (instr.Store b shape f o q) y choices is h = faults (instr.Store b shape f o q) Uninit choices is (λ place. elim (two_none o (Var b) y h) [
    | inl none ↦ sym (ap (λ (a : Option ℤ). put_in shape f q place c choices a (value_in c.vars b)) none)
    | inr none ↦ sym (ap₂ (put_in shape f q place c choices) none.1 none.2)
  ])
  unknown_faults (instr.Free o q) y choices is h = faults (instr.Free o q) Uninit choices is (λ place. sym (ap (freed q place c choices) (one_none o y h)))
  unknown_faults (instr.TestEq o o' t f) y choices is h = faults (instr.TestEq o o' t f) Uninit choices is (λ place. test int_eq o o' t f choices place y h)
  unknown_faults (instr.TestLe o o' t f) y choices is h = faults (instr.TestLe o o' t f) Uninit choices is (λ place. test int_le o o' t f choices place y h)
  unknown_faults (instr.AssumeShape pred x os q) y choices is h = faults (instr.AssumeShape pred x os q) Uninit choices is (λ place.
      let none = some_none os y h in
      let P : Option (List ℤ) → Type 0 = λ a. Assumes defs pred x q place c choices a (last (fault Uninit place)) in
      subst P (sym none) refl)
  unknown_faults (instr.AssertShape pred o os q) y choices is h = faults (instr.AssertShape pred o os q) Uninit choices is (λ place. asserted place o h)
    where
      asserted : (place : Place) (o : Operand) → IsFirstUnknown s (o ∷ os) y → Asserts defs pred q place c choices (value_of c.vars o) (values_of c.vars os) (last (fault Uninit place))
      asserted place (Const k) h = (let P : Option (List ℤ) → Type 0 = λ a. Asserts defs pred q place c choices (Some k) a (last (fault Uninit place)) in subst P (sym (some_none os y h)) refl)
      asserted place (Var z) (inl h) =
          let none = var_value laws flow defs v c p s z at ∙ ap (option_map (at_node v)) h.0 in
          let P : Option ℤ → Type 0 = λ a. Asserts defs pred q place c choices a (values_of c.vars os) (last (fault Uninit place)) in
          subst P (sym none) refl
      asserted place (Var z) (inr h) =
          let some = var_value laws flow defs v c p s z at ∙ ap (option_map (at_node v)) h.1 in
          let P : Option ℤ → Type 0 = λ a. Asserts defs pred q place c choices a (values_of c.vars os) (last (fault Uninit place)) in
          let Q : Option (List ℤ) → Type 0 = λ a. Asserts defs pred q place c choices (Some (v h.0.0)) a (last (fault Uninit place)) in
          subst P (sym some) (subst Q (sym (some_none os y h.2)) refl)
  unknown_faults (instr.Skip q) y choices is h = absurd h
  unknown_faults (instr.Undef xs q) y choices is h = absurd h
  unknown_faults (instr.Input x q) y choices is h = absurd h
  unknown_faults (instr.Malloc x shape q) y choices is h = absurd h
  unknown_faults (instr.AssertEmpty q) y choices is h = absurd h
  unknown_faults instr.End y choices is h = absurd h
  unknown_faults instr.Fail y choices is h = absurd h

  -- a write where no block is known
  pub store_faults : (y : VarId) (shape : StructId) (f : ℕ) (o : Operand) (q : PointId) (n : NodeId) (choices : List Choice) → code_at flow p ≡ Some (instr.Store y shape f o q)
      → IdsAscend 0 s.graph.edges s.graph.next → IsSeparate v s n → pos 0 ≤ℤ v n.0 → AreKnown s (o ∷ Var y ∷ []) → var_node s y ≡ Some n → (HasBlock s n shape → ⊥) → Faults flow defs p c choices
  store_faults y shape f o q n choices is ids apart up all known' lacks = by (v n.0) refl up
    where
      by : (z : ℤ) → v n.0 ≡ z → pos 0 ≤ℤ z → Faults flow defs p c choices
      by (negsuc k) e le = absurd (omega (arith, ints))
      by (pos zero) e le =
          let value = known_value o (Var y ∷ []) all in
          let base = var_value laws flow defs v c p s y at ∙ ap (option_map (at_node v)) known' ∙ ap Some e in
          faults (instr.Store y shape f o q) Null choices is (λ place. sym (ap₂ (put_in shape f q place c choices) value.1 base))
      by (pos (suc k)) e le =
          let value = known_value o (Var y ∷ []) all in
          let base = var_value laws flow defs v c p s y at ∙ ap (option_map (at_node v)) known' ∙ ap Some e in
          let none = absent laws flow defs v c p s n shape f k at ids apart lacks e in
          faults (instr.Store y shape f o q) Freed choices is (λ place. sym (ap₂ (put_in shape f q place c choices) value.1 base
          ∙ ap (λ (b : Bool). if b then last (fault Null place) else put q place c choices (written c.heap (suc k) shape f value.0 (region_of c.heap (suc k)))) (not_zero k)
          ∙ ap (put q place c choices) (not_written value.0 k (region_of c.heap (suc k)) none)))
        where
          not_written : (z : ℤ) (k : ℕ) (o : Option heap.Block) → field_at o shape.0 f ≡ None → written c.heap (suc k) shape f z o ≡ None
          not_written z k None e = refl
          not_written z k (Some b) e = ap (λ (x : Option (Option ℤ)). if is_some x then Some (map.insert c.heap (suc k) (with_field b f z)) else None) e

  -- something is allocated
  pub empty_faults : (q : PointId) (flag : Bool) (choices : List Choice) → code_at flow p ≡ Some (instr.AssertEmpty q) → IsTrueIn v s → Lacks defs (instr.AssertEmpty q) s (NotEmpty flag) → Faults flow defs p c choices
  empty_faults q flag choices is holds lacks = elim lacks.1 [
    | inl not_whole ↦ absurd (not_whole at.whole)
    | inr edge' ↦ faults (instr.AssertEmpty q) Left choices is (λ place. inr ((λ (none : IsEmpty (region_of c.heap)). not_empty s.graph.edges edge'.0 edge'.1 edge'.2 holds.starts at.blocks edge'.3 (λ a. sym (at.heap a) ∙ none.none a)), refl))
  ]
    where
      not_empty : (es : Edges) (place : ℕ) (id : EdgeId) (e : Edge) → AllByRecursion (IsAddressed v) (block_starts es) → AllByRecursion (λ e. IsBlock e.1) es → slice_get es place ≡ Some (id, e) → ((a : ℕ) → stored v es a ≡ None) → ⊥
      not_empty [] place id e starts blocks get none = cc
      not_empty ((k, edge.Block n shape fields) ∷ es) place id e starts blocks get none =
          let a = positive (v n.0) starts.0.0 in
          let here : stored v ((k, edge.Block n shape fields) ∷ es) (suc a.0) ≡ Some (held v shape fields) = ap (λ (b : Bool). if b then Some (held v shape fields) else stored v es (suc a.0)) (eq_yes (v n.0) (pos (suc a.0)) a.1) in
          let clash : None ≡ Some (held v shape fields) = sym (none (suc a.0)) ∙ here in
          cc
      not_empty ((k, edge.Ind n pred args) ∷ es) place id e starts blocks get none = absurd blocks.0
      not_empty ((k, edge.Seg n args pred «end» ends) ∷ es) place id e starts blocks get none = absurd blocks.0

-- ---- each gap

-- ids ascend, blocks start at pointers, and pointers of one number are entailed equal
pub record AreSeparate (v : Valuation) (s : State) : Type 0 where
  pub ids : IdsAscend 0 s.graph.edges s.graph.next
  pub starts : (id : EdgeId) (n : NodeId) (own : StructId) (fields : List (Option NodeId)) → edge_with s.graph.edges id ≡ Some (edge.Block n own fields) → HasKind s.kinds Ptr n
  pub separates : (a b : NodeId) → HasKind s.kinds Ptr a → HasKind s.kinds Ptr b → v a.0 ≡ v b.0 → AreEqual s a b

pub pointer_up : (v : Valuation) (s : State) (n : NodeId) → HasKind s.kinds Ptr n → IsTrueIn v s → pos 0 ≤ℤ v n.0
pointer_up v s n (inl is) holds = subst (λ (m : NodeId). pos 0 ≤ℤ v m.0) (sym is) (let z = holds.null in omega (arith, ints))
pointer_up v s n (inr is) holds = (kind_holds v s.kinds n Ptr holds.kinds is).0

module _ (laws : RunLaws) (flow : Flow) (defs : List Def) (v : Valuation) (c : Config) (p : PointId) (s : State) (at : IsExactly v c p s) (holds : IsTrueIn v s) (separate : AreSeparate v s)
    (bases : (y : VarId) (n : NodeId) → var_node s y ≡ Some n → (x : VarId) (shape : StructId) (f : ℕ) (o : Operand) (q : PointId)
    → (code_at flow p ≡ Some (instr.Load x y shape f q)) ⊎ ((code_at flow p ≡ Some (instr.Store y shape f o q)) ⊎ ((o ≡ Var y) × (code_at flow p ≡ Some (instr.Free o q)))) → HasKind s.kinds Ptr n)
    (no_numbers : (k : ℤ) (q : PointId) → code_at flow p ≡ Some (instr.Free (Const k) q) → k ≡ pos 0) where
  apart : (n : NodeId) → HasKind s.kinds Ptr n → IsSeparate v s n
  apart n kind id m own fields there same = separate.separates n m kind (separate.starts id m own fields there) same

  lacking : (code : Instr) (gap : Gap) (choices : List Choice) → code_at flow p ≡ Some code → ((pred : PredId) (n : NodeId) → gap ≡ NoShape pred n → ⊥) → IsGap defs code s gap → Faults flow defs p c choices
  lacking code (Unknown x) choices is other h = unknown_faults laws flow defs v c p s at code x choices is h
  lacking (instr.Load x y shape f q) (NoBlock n) choices is other h =
      let kind = bases y n h.1.0 x shape f (Var y) q (inl is) in
      load_faults laws flow defs v c p s x y shape f q n choices is at separate.ids (apart n kind) (pointer_up v s n kind holds) h.1.0 h.1.1.block
  lacking (instr.Store y shape f o q) (NoBlock n) choices is other h =
      let kind = bases y n h.1.0 y shape f o q (inr (inl is)) in
      store_faults laws flow defs v c p s at y shape f o q n choices is separate.ids (apart n kind) (pointer_up v s n kind holds) h.0 h.1.0 h.1.1.block
  lacking (instr.Free (Var y) q) (NoBlock n) choices is other h =
      let kind = bases y n h.1.0 y (record { 0 = 0 }) 0 (Var y) q (inr (inr (refl, is))) in
      free_faults laws flow defs v c p s (Var y) q n choices is at holds separate.ids (apart n kind) (pointer_up v s n kind holds) (λ e. separate.separates n null kind (inl refl) (e ∙ sym holds.null)) h.1
  lacking (instr.Free (Const k) q) (NoBlock n) choices is other h =
      let zero' = no_numbers k q is in
      let test' : int_eq k (pos 0) ≡ true = eq_yes k (pos 0) zero' in
      let null_is : null ≡ n = one_item null n (sym (ap (λ (b : Bool). Some (if b then null else next_node s)) test') ∙ h.1.0) in
      absurd (h.1.1 (subst (λ (m : NodeId). AreEqual (with_operand s (Const k)) m null) null_is (inl (itself (Ptr, inl refl)))))
  lacking (instr.Load x y shape f q) (UninitField n g) choices is other h = field_faults laws flow defs v c p s x y shape f q n choices is at holds h.1.0 h.1.2.0 h.1.2.1
  lacking instr.Fail Reached choices is other h = fail_faults laws flow defs v c p s choices is at
  lacking (instr.AssertEmpty q) (NotEmpty flag) choices is other h = empty_faults laws flow defs v c p s at q flag choices is holds h.1
  lacking code (NoShape pred n) choices is other h = absurd (other pred n refl)
  lacking code gap choices is other h = absurd h.1

  -- an alarm that lacks no shape is a fault
  pub unmet_faults : (gap : Gap) (choices : List Choice) → ((pred : PredId) (n : NodeId) → gap ≡ NoShape pred n → ⊥) → IsUnmet flow defs p s gap → Faults flow defs p c choices
  unmet_faults gap choices other unmet = lacking unmet.code gap choices unmet.at other unmet.lacks
