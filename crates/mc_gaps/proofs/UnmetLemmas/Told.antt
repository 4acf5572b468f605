-- The tests name what is unmet.
use Rattle.std.proofs.Common.{◌≡◌, ◌⊎◌, ◌+◌, arith, ℕ, zero, suc, List, [], ◌∷◌, Bool, true, false, Option, Some, None, ℤ, pos, slice_get, refl, ap, sym, ◌∙◌, subst, inl, inr, eqb-true, eq-eqb}
use Rattle.std.specs.Prelude.{◌==◌, ◌&&◌, not, is_some, option_and_then, option_map, if◌then◌else◌}
use Rattle.std.specs.List.{list_all, list_any}
use Rattle.mc_base.specs.declared.ids.EdgeId.{EdgeId}
use Rattle.mc_base.specs.declared.ids.NodeId.{NodeId}
use Rattle.mc_base.specs.declared.ids.PointId.{PointId}
use Rattle.mc_base.specs.declared.ids.PredId.{PredId}
use Rattle.mc_base.specs.declared.ids.StructId.{StructId}
use Rattle.mc_base.specs.declared.ids.VarId.{VarId}
use Rattle.mc_base.specs.declared.plain.Kind.TheVariants.{Ptr}
use Rattle.mc_base.specs.declared.plain.VarInfo.{VarInfo}
use Rattle.mc_base.specs.Nodes.{null}
use Rattle.mc_flow.specs.declared.defs.rules.Def.{Def}
use Rattle.mc_flow.specs.declared.graph.Flow.{Flow}
use Rattle.mc_flow.specs.declared.graph.Point.{Point}
use Rattle.mc_flow.specs.declared.instr.Instr.{Instr}
use Rattle.mc_flow.specs.declared.instr.Instr.TheVariants as instr
use Rattle.mc_flow.specs.declared.instr.Operand.{Operand}
use Rattle.mc_flow.specs.declared.instr.Operand.TheVariants.{Var, Const}
use Rattle.mc_flow.specs.Valid.{IsValid, FitsKinds, IsOperand}
use Rattle.mc_state.specs.declared.graph.edge.Edge.{Edge}
use Rattle.mc_state.specs.declared.graph.edge.Edge.TheVariants.{Block, Ind, Seg}
use Rattle.mc_state.specs.Graph.Edges.{start_of, fields_of}
use Rattle.mc_state.specs.Graph.Graph.{Edges, edge_with}
use Rattle.mc_state.specs.Back.{is_back}
use Rattle.mc_state.specs.Known.{Test, Tells, is_false, equal}
use Rattle.mc_state.specs.Told.{BackIsTold}
use Rattle.mc_state.proofs.Tests.{and_both, and_yes, not_yes, not_no, equal_from, equal_to, is_sound, not_false}
use Rattle.mc_pure.specs.Derived.{turned, itself}
use Rattle.mc_state.specs.State.{State, var_node}
use Rattle.mc_state.specs.Facts.{AreEqual}
use Rattle.mc_state.specs.Fits.{IsBounded}
use Rattle.mc_rules_logic.specs.Back.Judges.{ends_back_at}
use Rattle.mc_rules_steps.specs.declared.gap.Gap.{Gap}
use Rattle.mc_rules_steps.specs.declared.gap.Gap.TheVariants.{Uninit, NoBlock, Reached, NoShape, UninitField, NotEmpty}
use Rattle.mc_rules_steps.specs.Judges.{is_shaped_at, is_block_at}
use Rattle.mc_rules_steps.specs.Operands.{code_at, HasBlock}
use Rattle.mc_rules_steps.specs.Unmet.{taken, IsFirstUnknown, AreKnown, NoSummaryAt, NoBackAt, LacksBlock, LacksAccess, LacksField, LacksFreed, LacksEmptiness, Lacks, IsGap, IsUnmet}
use Rattle.mc_gaps.specs.Unmet.Gaps.{first_unknown, may_unfold, lacks, gap_if, block_gap, is_unknown, lacks_field, or_else, field_gap, free_gap, freed_gap, empty_gap, lacking, unknown_or, gap_of, gap_at}
use Rattle.mc_gaps.specs.Unmet.Laws.{IsNoShape, GapsAreTold}
use Rattle.mc_rules_logic.proofs.BackLemmas.Judging.{back_from, back_to}
use Rattle.mc_rules_logic.proofs.UnfoldLemmas.Judging.{or_true, or_left, or_right}
use Rattle.mc_gaps.proofs.UnmetLemmas.Cases.{IsPlain, Tests, lacking_from, lacking_to}
use Rattle.mc_gaps.proofs.UnmetLemmas.Searching.{any_placed, any_at, any_found, any_with}

-- nodes that are equal are so both ways
swapped : (s : State) (a b : NodeId) → AreEqual s a b → AreEqual s b a
swapped s a b (inl f) = inl (turned f)
swapped s a b (inr wrong) = inr wrong

-- what is given where the test holds
given : (b : Bool) (gap other : Gap) → gap_if b gap ≡ Some other → (b ≡ true) × (gap ≡ other)
given true gap other e = (refl, cc e)
given false gap other e = absurd (cc e)

gives : (b : Bool) (gap : Gap) → b ≡ true → gap_if b gap ≡ Some gap
gives b gap e = ap (λ b. gap_if b gap) e

none_where : (b : Bool) (gap : Gap) → (b ≡ true → ⊥) → gap_if b gap ≡ None
none_where true gap no' = absurd (no' refl)
none_where false gap no' = refl

-- ---- variables

unknown_is : (s : State) (os : List Operand) (x : VarId) → first_unknown s os ≡ Some x → IsFirstUnknown s os x
unknown_is s [] x e = absurd (cc e)
unknown_is s (Const c ∷ os) x e = unknown_is s os x e
unknown_is s (Var y ∷ os) x e = at (unknown_is s os x) (var_node s y) refl e
  where
    at : (first_unknown s os ≡ Some x → IsFirstUnknown s os x) → (o : Option NodeId) → var_node s y ≡ o → (if is_some o then first_unknown s os else Some y) ≡ Some x → ((var_node s y ≡ None) × (x ≡ y)) ⊎ ((n : NodeId) × (var_node s y ≡ Some n) × IsFirstUnknown s os x)
    at rest None is e = inl (is, cc e)
    at rest (Some n) is e = inr (n, is, rest e)

are_known : (s : State) (os : List Operand) → first_unknown s os ≡ None → AreKnown s os
are_known s [] e = tt
are_known s (Const c ∷ os) e = are_known s os e
are_known s (Var y ∷ os) e = at (are_known s os) (var_node s y) refl e
  where
    at : (first_unknown s os ≡ None → AreKnown s os) → (o : Option NodeId) → var_node s y ≡ o → (if is_some o then first_unknown s os else Some y) ≡ None → ((n : NodeId) × (var_node s y ≡ Some n)) × AreKnown s os
    at rest None is e = absurd (cc e)
    at rest (Some n) is e = ((n, is), rest e)

unknown_to : (s : State) (os : List Operand) (x : VarId) → IsFirstUnknown s os x → first_unknown s os ≡ Some x
unknown_to s [] x u = absurd u
unknown_to s (Const c ∷ os) x u = unknown_to s os x u
unknown_to s (Var y ∷ os) x (inl here) = ap (λ o. if is_some o then first_unknown s os else Some y) here.0 ∙ ap (λ z. Some z) (sym here.1)
unknown_to s (Var y ∷ os) x (inr more) = ap (λ o. if is_some o then first_unknown s os else Some y) more.1 ∙ unknown_to s os x more.2

known_to : (s : State) (os : List Operand) → AreKnown s os → first_unknown s os ≡ None
known_to s [] k = refl
known_to s (Const c ∷ os) k = known_to s os k
known_to s (Var y ∷ os) k = ap (λ o. if is_some o then first_unknown s os else Some y) k.0.1 ∙ known_to s os k.1

-- ---- blocks

module _ (told : BackIsTold) (know : Test) (defs : List Def) (s : State) (tells : Tells know s) (bounded : IsBounded s) where
  abbrev es : Edges
  es = s.graph.edges

  module _ (n : NodeId) where
    -- nothing may be unfolded at the node
    abbrev NoneUnfolds : Type 0
    NoneUnfolds = not (list_any (may_unfold know defs n) es) ≡ true

    no_start : NoneUnfolds → NoSummaryAt s n
    no_start none place id (Block at shape fields) there summary equal = absurd summary
    no_start none place id (Ind at pred args) there summary equal =
        let any : list_any (may_unfold know defs n) es ≡ true = any_at (may_unfold know defs n) es place (id, Ind at pred args) there (equal_to know s tells n at equal) in
        cc (none, any)
    no_start none place id (Seg at args pred stop ends) there summary equal =
        let here : may_unfold know defs n (id, Seg at args pred stop ends) ≡ true = or_left _ (ends_back_at know defs pred n 0 ends) (equal_to know s tells n at equal) in
        let any : list_any (may_unfold know defs n) es ≡ true = any_at (may_unfold know defs n) es place (id, Seg at args pred stop ends) there here in
        cc (none, any)

    no_back : NoneUnfolds → NoBackAt defs s n
    no_back none place id at stop args ends pred i other there back ends_at equal' =
        let last : equal know other n ≡ true = equal_to know s tells other n (swapped s n other equal') in
        let known : ends_back_at know defs pred n 0 ends ≡ true = back_to know defs pred n 0 ends i other ends_at (let at : 0 + i ≡ i = omega arith in ap (is_back defs pred) at ∙ (told defs pred i).1 back) last in
        let here : may_unfold know defs n (id, Seg at args pred stop ends) ≡ true = or_right (equal know n at) _ known in
        let any : list_any (may_unfold know defs n) es ≡ true = any_at (may_unfold know defs n) es place (id, Seg at args pred stop ends) there here in
        cc (none, any)

    behind : (pred : PredId) (i : ℕ) → is_back defs pred (0 + i) ≡ true → is_back defs pred i ≡ true
    behind pred i e = let at : i ≡ 0 + i = omega arith in ap (is_back defs pred) at ∙ e

    unfolds_not : NoSummaryAt s n → NoBackAt defs s n → (place : ℕ) (id : EdgeId) (e : Edge) → slice_get es place ≡ Some (id, e) → may_unfold know defs n (id, e) ≡ true → ⊥
    unfolds_not start back place id (Block at shape fields) there holds = cc holds
    unfolds_not start back place id (Ind at pred args) there holds = start place id (Ind at pred args) there tt (equal_from know s tells n at holds)
    unfolds_not start back place id (Seg at args pred stop ends) there holds =
        elim (or_true (equal know n at) (ends_back_at know defs pred n 0 ends) holds) [
          | inl here ↦ start place id (Seg at args pred stop ends) there tt (equal_from know s tells n at here)
          | inr later ↦
              let r = back_from know defs pred n 0 ends later in
              back place id at stop args ends pred r.place r.last there ((told defs pred r.place).0 (behind pred r.place r.back)) r.ends_at (swapped s r.last n (equal_from know s tells r.last n r.known))
        ]

    none_unfolds : NoSummaryAt s n → NoBackAt defs s n → NoneUnfolds
    none_unfolds start back = not_yes (list_any (may_unfold know defs n) es) (λ any. let p = any_placed (may_unfold know defs n) es any in unfolds_not start back p.place p.item.0 p.item.1 p.there p.holds)

    shaped : (shape : StructId) (h : HasBlock s n shape) (k : EdgeId) → is_shaped_at know n shape (k, Block h.at shape h.fields) ≡ true
    shaped shape h k = and_yes (shape.0 == shape.0) (equal know n h.at) (eq-eqb shape.0 shape.0 refl) (equal_to know s tells n h.at h.equal)

    -- a block that passes
    block_of : (shape : StructId) (id : EdgeId) (e : Edge) → edge_with es id ≡ Some e → is_shaped_at know n shape (id, e) ≡ true → (h : HasBlock s n shape) × (h.fields ≡ fields_of e)
    block_of shape id (Ind at pred args) there e = absurd (cc e)
    block_of shape id (Seg at args pred stop ends) there e = absurd (cc e)
    block_of shape id (Block at own fields) there e =
        let both = and_both (shape.0 == own.0) (equal know n at) e in
        let same : own ≡ shape = ap (λ k. record { 0 = k }) (sym (eqb-true shape.0 own.0 both.0)) in
        (record { id = id; at = at; fields = fields; there = there ∙ ap (λ o. Some (Block at o fields)) same; equal = equal_from know s tells n at both.1 }, refl)

    lacks_from : (shape : StructId) → lacks (is_shaped_at know n shape) know defs n es ≡ true → LacksBlock defs s n shape
    lacks_from shape e =
        let both = and_both (not (list_any (is_shaped_at know n shape) es)) (not (list_any (may_unfold know defs n) es)) e in
        record {
          block = λ h. let any : list_any (is_shaped_at know n shape) es ≡ true = any_with (is_shaped_at know n shape) es h.id (Block h.at shape h.fields) h.there (shaped shape h) in let none = both.0 in cc (none, any);
          start = no_start both.1;
          back = no_back both.1;
        }

    lacks_to : (shape : StructId) → LacksBlock defs s n shape → lacks (is_shaped_at know n shape) know defs n es ≡ true
    lacks_to shape l =
        and_yes (not (list_any (is_shaped_at know n shape) es)) (not (list_any (may_unfold know defs n) es))
        (not_yes (list_any (is_shaped_at know n shape) es) (λ any. let f = any_found (is_shaped_at know n shape) 0 es s.graph.next bounded.ids any in l.block (block_of shape f.id f.edge f.there f.holds).0))
        (none_unfolds l.start l.back)

    -- any block
    any_block_of : (id : EdgeId) (e : Edge) → edge_with es id ≡ Some e → is_block_at know n (id, e) ≡ true → (shape : StructId) × HasBlock s n shape
    any_block_of id (Ind at pred args) there e = absurd (cc e)
    any_block_of id (Seg at args pred stop ends) there e = absurd (cc e)
    any_block_of id (Block at own fields) there e = (own, record { id = id; at = at; fields = fields; there = there; equal = equal_from know s tells n at e })

    freed_from : lacks (is_block_at know n) know defs n es ≡ true → (shape : StructId) → LacksBlock defs s n shape
    freed_from e shape =
        let both = and_both (not (list_any (is_block_at know n) es)) (not (list_any (may_unfold know defs n) es)) e in
        record {
          block = λ h. let any : list_any (is_block_at know n) es ≡ true = any_with (is_block_at know n) es h.id (Block h.at shape h.fields) h.there (λ k. equal_to know s tells n h.at h.equal) in let none = both.0 in cc (none, any);
          start = no_start both.1;
          back = no_back both.1;
        }

    freed_to : ((shape : StructId) → LacksBlock defs s n shape) → lacks (is_block_at know n) know defs n es ≡ true
    freed_to l =
        let one = l (record { 0 = 0 }) in
        and_yes (not (list_any (is_block_at know n) es)) (not (list_any (may_unfold know defs n) es))
        (not_yes (list_any (is_block_at know n) es) (λ any. let f = any_found (is_block_at know n) 0 es s.graph.next bounded.ids any in let h = any_block_of f.id f.edge f.there f.holds in (l h.0).block h.1))
        (none_unfolds one.start one.back)

    -- ---- fields

    unknown_is_none : (o : Option (Option NodeId)) → is_unknown o ≡ true → o ≡ Some None
    unknown_is_none None e = absurd (cc e)
    unknown_is_none (Some None) e = refl
    unknown_is_none (Some (Some m)) e = absurd (cc e)

    field_from : (shape : StructId) (f : ℕ) → list_any (lacks_field know n shape f) es ≡ true → (h : HasBlock s n shape) × (slice_get h.fields f ≡ Some None)
    field_from shape f e =
        let found = any_found (lacks_field know n shape f) 0 es s.graph.next bounded.ids e in
        let both = and_both (is_shaped_at know n shape (found.id, found.edge)) (is_unknown (slice_get (fields_of found.edge) f)) found.holds in
        let b = block_of shape found.id found.edge found.there both.0 in
        (b.0, ap (λ fields. slice_get fields f) b.1 ∙ unknown_is_none (slice_get (fields_of found.edge) f) both.1)

    field_to : (shape : StructId) (f : ℕ) (h : HasBlock s n shape) → slice_get h.fields f ≡ Some None → list_any (lacks_field know n shape f) es ≡ true
    field_to shape f h is =
        any_with (lacks_field know n shape f) es h.id (Block h.at shape h.fields) h.there
        (λ k. and_yes (is_shaped_at know n shape (k, Block h.at shape h.fields)) (is_unknown (slice_get h.fields f)) (shaped shape h k) (ap is_unknown is))

  -- ---- instructions

  block_is : (y : VarId) (shape : StructId) (gap : Gap) (o : Option NodeId) → var_node s y ≡ o → option_and_then (block_gap know defs shape es) o ≡ Some gap → (n : NodeId) × (gap ≡ NoBlock n) × LacksAccess defs s y shape n
  block_is y shape gap None known e = absurd (cc e)
  block_is y shape gap (Some n) known e = let g = given (lacks (is_shaped_at know n shape) know defs n es) (NoBlock n) gap e in (n, sym g.1, (known, lacks_from n shape g.0))

  store_from : (y : VarId) (shape : StructId) (f : ℕ) (o : Operand) (q : PointId) (gap : Gap) → option_and_then (block_gap know defs shape es) (var_node s y) ≡ Some gap → Lacks defs (instr.Store y shape f o q) s gap × IsPlain gap
  store_from y shape f o q gap e =
      let b = block_is y shape gap (var_node s y) refl e in
      subst (λ (g : Gap). Lacks defs (instr.Store y shape f o q) s g × IsPlain g) (sym b.1) (b.2, tt)

  first_or : (a b : Option Gap) (gap : Gap) → or_else a b ≡ Some gap → (a ≡ Some gap) ⊎ (b ≡ Some gap)
  first_or None b gap e = inr e
  first_or (Some g) b gap e = inl e

  load_is : (x y : VarId) (shape : StructId) (f : ℕ) (q : PointId) (gap : Gap) (o : Option NodeId) → var_node s y ≡ o → option_and_then (field_gap know defs shape f es) o ≡ Some gap → Lacks defs (instr.Load x y shape f q) s gap × IsPlain gap
  load_is x y shape f q gap None known e = absurd (cc e)
  load_is x y shape f q gap (Some n) known e =
      elim (first_or (block_gap know defs shape es n) (gap_if (list_any (lacks_field know n shape f) es) (UninitField n f)) gap e) [
        | inl block ↦
            let g = given (lacks (is_shaped_at know n shape) know defs n es) (NoBlock n) gap block in
            subst (λ (g : Gap). Lacks defs (instr.Load x y shape f q) s g × IsPlain g) g.1 ((known, lacks_from n shape g.0), tt)
        | inr field ↦
            let g = given (list_any (lacks_field know n shape f) es) (UninitField n f) gap field in
            subst (λ (g : Gap). Lacks defs (instr.Load x y shape f q) s g × IsPlain g) g.1 ((known, refl, field_from n shape f g.0), tt)
      ]

  free_from : (o : Operand) (q : PointId) (gap : Gap) → freed_gap know defs s o ≡ Some gap → Lacks defs (instr.Free o q) s gap × IsPlain gap
  free_from (Const c) q gap e = absurd (cc e)
  free_from (Var x) q gap e = at (var_node s x) refl e
    where
      at : (o : Option NodeId) → var_node s x ≡ o → option_and_then (free_gap know defs es) o ≡ Some gap → Lacks defs (instr.Free (Var x) q) s gap × IsPlain gap
      at None known e = absurd (cc e)
      at (Some n) known e =
          let g = given (not (equal know n null) && lacks (is_block_at know n) know defs n es) (NoBlock n) gap e in
          let both = and_both (not (equal know n null)) (lacks (is_block_at know n) know defs n es) g.0 in
          let differs : AreEqual s n null → ⊥ = λ same. (let no' = both.0 in let yes' = equal_to know s tells n null same in cc (no', yes')) in
          subst (λ (g : Gap). Lacks defs (instr.Free (Var x) q) s g × IsPlain g) g.1 ((known, differs, freed_from n both.1), tt)

  all_or : (es : Edges) → list_all (λ e. equal know (start_of e.1) null) es ≡ false → (place : ℕ) × (id : EdgeId) × (e : Edge) × (slice_get es place ≡ Some (id, e)) × (AreEqual s (start_of e) null → ⊥)
  all_or [] e = absurd (cc e)
  all_or ((id, x) ∷ es) e = at (all_or es) (equal know (start_of x) null) refl e
    where
      at : (list_all (λ e. equal know (start_of e.1) null) es ≡ false → (place : ℕ) × (id : EdgeId) × (e : Edge) × (slice_get es place ≡ Some (id, e)) × (AreEqual s (start_of e) null → ⊥)) → (b : Bool) → equal know (start_of x) null ≡ b → (b && list_all (λ e. equal know (start_of e.1) null) es) ≡ false → (place : ℕ) × (k : EdgeId) × (y : Edge) × (slice_get ((id, x) ∷ es) place ≡ Some (k, y)) × (AreEqual s (start_of y) null → ⊥)
      at rest true holds e = let r = rest e in (suc r.0, r.1, r.2, r.3, r.4)
      at rest false holds e = (0, id, x, refl, λ same. let yes' = equal_to know s tells (start_of x) null same in cc (holds, yes'))

  not_all : (es : Edges) (place : ℕ) (id : EdgeId) (x : Edge) → slice_get es place ≡ Some (id, x) → (AreEqual s (start_of x) null → ⊥) → list_all (λ e. equal know (start_of e.1) null) es ≡ true → ⊥
  not_all [] place id x there differs all = cc there
  not_all ((k, y) ∷ es) zero id x there differs all =
      let pair : ◌≡◌ {A = EdgeId × Edge} (k, y) (id, x) = cc there in
      let same : y ≡ x = ap (λ (p : EdgeId × Edge). p.1) pair in
      let both = and_both (equal know (start_of y) null) (list_all (λ e. equal know (start_of e.1) null) es) all in
      differs (equal_from know s tells (start_of x) null (ap (λ (e : Edge). equal know (start_of e) null) (sym same) ∙ both.0))
  not_all ((k, y) ∷ es) (suc place) id x there differs all = not_all es place id x there differs (and_both (equal know (start_of y) null) (list_all (λ e. equal know (start_of e.1) null) es) all).1

  abbrev all_null : Bool
  all_null = list_all (λ e. equal know (start_of e.1) null) es

  may_be_left : (whole all : Bool) → s.whole ≡ whole → all_null ≡ all → not (whole && all) ≡ true → LacksEmptiness s s.whole
  may_be_left true true w a e = absurd (cc e)
  may_be_left true false w a e = (refl, inr (all_or es a))
  may_be_left false all w a e = (refl, inl (λ yes'. cc (w, yes')))

  empty_from : (q : PointId) (gap : Gap) → empty_gap know s ≡ Some gap → Lacks defs (instr.AssertEmpty q) s gap × IsPlain gap
  empty_from q gap e =
      let g = given (not (s.whole && all_null)) (NotEmpty s.whole) gap e in
      subst (λ (g : Gap). Lacks defs (instr.AssertEmpty q) s g × IsPlain g) g.1 (may_be_left s.whole all_null refl refl g.0, tt)

  empty_to : (flag : Bool) → LacksEmptiness s flag → empty_gap know s ≡ Some (NotEmpty flag)
  empty_to flag l =
      gives (not (s.whole && all_null)) (NotEmpty s.whole) (not_yes (s.whole && all_null) (λ e. left (and_both s.whole all_null e).0 (and_both s.whole all_null e).1 l.1)) ∙ ap (λ b. Some (NotEmpty b)) (sym l.0)
    where
      left : s.whole ≡ true → all_null ≡ true → (s.whole ≡ true → ⊥) ⊎ ((place : ℕ) × (id : EdgeId) × (e : Edge) × (slice_get s.graph.edges place ≡ Some (id, e)) × (AreEqual s (start_of e) null → ⊥)) → ⊥
      left whole all (inl no') = no' whole
      left whole all (inr r) = not_all es r.0 r.1 r.2 r.3 r.4 all

  block_to : (y : VarId) (shape : StructId) (n : NodeId) → LacksAccess defs s y shape n → option_and_then (block_gap know defs shape es) (var_node s y) ≡ Some (NoBlock n)
  block_to y shape n l = ap (option_and_then (block_gap know defs shape es)) l.0 ∙ gives (lacks (is_shaped_at know n shape) know defs n es) (NoBlock n) (lacks_to n shape l.1)

  load_to : (y : VarId) (shape : StructId) (f : ℕ) (n : NodeId) → LacksAccess defs s y shape n → option_and_then (field_gap know defs shape f es) (var_node s y) ≡ Some (NoBlock n)
  load_to y shape f n l =
      ap (option_and_then (field_gap know defs shape f es)) l.0
      ∙ ap (λ o. or_else o (gap_if (list_any (lacks_field know n shape f) es) (UninitField n f))) (gives (lacks (is_shaped_at know n shape) know defs n es) (NoBlock n) (lacks_to n shape l.1))

  uninit_to : (y : VarId) (shape : StructId) (f : ℕ) (n : NodeId) (g : ℕ) → LacksField s y shape f n g → option_and_then (field_gap know defs shape f es) (var_node s y) ≡ Some (UninitField n g)
  uninit_to y shape f n g l =
      let here = l.2 in
      let met : gap_if (lacks (is_shaped_at know n shape) know defs n es) (NoBlock n) ≡ None = none_where (lacks (is_shaped_at know n shape) know defs n es) (NoBlock n) (λ e. (lacks_from n shape e).block here.0) in
      ap (option_and_then (field_gap know defs shape f es)) l.0
      ∙ ap (λ o. or_else o (gap_if (list_any (lacks_field know n shape f) es) (UninitField n f))) met
      ∙ gives (list_any (lacks_field know n shape f) es) (UninitField n f) (field_to n shape f here.0 here.1) ∙ ap (λ k. Some (UninitField n k)) (sym l.1)

  -- null is freed without a block
  null_freed : (n : NodeId) → LacksFreed defs s (Const (pos 0)) n → ⊥
  null_freed n l = let same : null ≡ n = cc l.0 in l.1 (subst (λ m. AreEqual s m null) same (inl (itself (Ptr, inl refl))))

  -- a constant that is freed is null
  constant : (c : ℤ) (n : NodeId) → c ≡ pos 0 → LacksFreed defs s (Const c) n → ⊥
  constant c n is l = null_freed n (subst (λ c. LacksFreed defs s (Const c) n) is l)

  free_to : (vars : List VarInfo) (o : Operand) (n : NodeId) → IsOperand vars Ptr o → LacksFreed defs s o n → freed_gap know defs s o ≡ Some (NoBlock n)
  free_to vars (Const c) n null' l = absurd (constant c n null' l)
  free_to vars (Var x) n fits l =
      ap (option_and_then (free_gap know defs es)) l.0
      ∙ gives (not (equal know n null) && lacks (is_block_at know n) know defs n es) (NoBlock n)
      (and_yes (not (equal know n null)) (lacks (is_block_at know n) know defs n es) (not_yes (equal know n null) (λ e. l.1 (equal_from know s tells n null e))) (freed_to n l.2))

  tests : Tests know defs s
  tests =
      record {
        load_from = λ x y shape f q gap e. load_is x y shape f q gap (var_node s y) refl e;
        store_from = store_from;
        free_from = free_from;
        empty_from = empty_from;
        block_to = block_to;
        load_to = load_to;
        field_to = uninit_to;
        free_to = free_to;
        empty_to = empty_to;
      }

  -- ---- gaps

  plain_gap : (code : Instr) (gap : Gap) → AreKnown s (taken code) → Lacks defs code s gap → IsPlain gap → IsGap defs code s gap × IsNoShape gap
  plain_gap code (Uninit x) known l plain = absurd plain
  plain_gap code (NoBlock n) known l plain = ((known, l), tt)
  plain_gap code Reached known l plain = ((known, l), tt)
  plain_gap code (NoShape pred n) known l plain = absurd plain
  plain_gap code (UninitField n f) known l plain = ((known, l), tt)
  plain_gap code (NotEmpty flag) known l plain = ((known, l), tt)

  gap_from : (code : Instr) (gap : Gap) → gap_of know defs s code ≡ Some gap → IsGap defs code s gap × IsNoShape gap
  gap_from code gap e = at (first_unknown s (taken code)) refl e
    where
      at : (o : Option VarId) → first_unknown s (taken code) ≡ o → unknown_or o (lacking know defs code s) ≡ Some gap → IsGap defs code s gap × IsNoShape gap
      at (Some x) is e =
          let same : Uninit x ≡ gap = cc e in
          subst (λ (g : Gap). IsGap defs code s g × IsNoShape g) same (unknown_is s (taken code) x is, tt)
      at None is e = let l = lacking_from know defs s tests code gap e in plain_gap code gap (are_known s (taken code) is) l.0 l.1

  module _ (flow : Flow) where
    others_to : (code : Instr) (gap : Gap) → FitsKinds flow.vars flow.structs defs code → IsPlain gap → AreKnown s (taken code) → Lacks defs code s gap → gap_of know defs s code ≡ Some gap
    others_to code gap fits plain known l =
        ap (λ o. unknown_or o (lacking know defs code s)) (known_to s (taken code) known) ∙ lacking_to know defs s tests flow.vars flow.structs code gap plain fits l

    gap_to : (code : Instr) (gap : Gap) → FitsKinds flow.vars flow.structs defs code → IsGap defs code s gap → IsNoShape gap → gap_of know defs s code ≡ Some gap
    gap_to code (Uninit x) fits l plain = ap (λ o. unknown_or o (lacking know defs code s)) (unknown_to s (taken code) x l)
    gap_to code (NoBlock n) fits l plain = others_to code (NoBlock n) fits tt l.0 l.1
    gap_to code Reached fits l plain = others_to code Reached fits tt l.0 l.1
    gap_to code (NoShape pred n) fits l plain = absurd plain
    gap_to code (UninitField n f) fits l plain = others_to code (UninitField n f) fits tt l.0 l.1
    gap_to code (NotEmpty flag) fits l plain = others_to code (NotEmpty flag) fits tt l.0 l.1

    -- ---- points

    fits_point : (p : ℕ) (code : Instr) → IsValid flow defs → (o : Option Point) → slice_get flow.points p ≡ o → option_map (λ q. q.code) o ≡ Some code → FitsKinds flow.vars flow.structs defs code
    fits_point p code valid None e h = cc h
    fits_point p code valid (Some point) e h = let same : point.code ≡ code = cc h in subst (FitsKinds flow.vars flow.structs defs) same (valid.points p point e).kinds

    unmet_from : (p : PointId) (gap : Gap) → gap_at know defs flow p s ≡ Some gap → IsUnmet flow defs p s gap × IsNoShape gap
    unmet_from p gap e = at (is_false know) refl e
      where
        at : (b : Bool) → is_false know ≡ b → (if b then None else option_and_then (gap_of know defs s) (code_at flow p)) ≡ Some gap → IsUnmet flow defs p s gap × IsNoShape gap
        at true is e = absurd (cc e)
        at false is e = by_code (code_at flow p) refl e
          where
            by_code : (o : Option Instr) → code_at flow p ≡ o → option_and_then (gap_of know defs s) o ≡ Some gap → IsUnmet flow defs p s gap × IsNoShape gap
            by_code None there e = absurd (cc e)
            by_code (Some code) there e =
                let g = gap_from code gap e in
                (record { consistent = not_false know s tells (ap not is); code = code; at = there; lacks = g.0 }, g.1)

    unmet_to : (p : PointId) (gap : Gap) → IsValid flow defs → IsUnmet flow defs p s gap → IsNoShape gap → gap_at know defs flow p s ≡ Some gap
    unmet_to p gap valid u plain =
        let fits = fits_point p.0 u.code valid (slice_get flow.points p.0) refl u.at in
        ap (λ b. if b then None else option_and_then (gap_of know defs s) (code_at flow p)) (not_no (is_false know) (is_sound know s tells u.consistent))
        ∙ ap (option_and_then (gap_of know defs s)) u.at ∙ gap_to u.code gap fits u.lacks plain

pub gaps_are_told : BackIsTold → GapsAreTold
gaps_are_told told know flow defs p s gap valid bounded tells =
    (unmet_from told know defs s tells bounded flow p gap, λ u. unmet_to told know defs s tells bounded flow p gap valid u.0 u.1)
