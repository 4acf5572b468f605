-- Where an instruction is unmet, its rule has no instance.
use Rattle.std.proofs.Common.{◌≡◌, ℕ, List, [], ◌∷◌, Bool, Option, Some, None, slice_get, refl, sym, ap, ◌∙◌, subst, inl, inr}
use Rattle.std.specs.Prelude.{slice_index_or}
use Rattle.mc_base.specs.declared.ids.NodeId.{NodeId}
use Rattle.mc_base.specs.declared.ids.PointId.{PointId}
use Rattle.mc_base.specs.declared.ids.PredId.{PredId}
use Rattle.mc_base.specs.declared.ids.VarId.{VarId}
use Rattle.mc_base.specs.Nodes.{null}
use Rattle.mc_flow.specs.declared.defs.rules.Def.{Def}
use Rattle.mc_flow.specs.declared.graph.Flow.{Flow}
use Rattle.mc_flow.specs.declared.instr.Operand.{Operand}
use Rattle.mc_flow.specs.declared.instr.Operand.TheVariants.{Var, Const}
use Rattle.mc_flow.specs.declared.instr.Instr.{Instr}
use Rattle.mc_flow.specs.declared.instr.Instr.TheVariants as instr
use Rattle.mc_state.specs.Graph.Graph.{Edges}
use Rattle.mc_pure.specs.Laws.{BlocksAtOneNode}
use Rattle.mc_state.specs.State.{State, var_node}
use Rattle.mc_state.specs.Facts.{AreEqual}
use Rattle.mc_rules_steps.specs.declared.gap.Gap.{Gap}
use Rattle.mc_rules_steps.specs.declared.gap.Gap.TheVariants.{Uninit, NoBlock, Reached, NoShape, UninitField, NotEmpty}
use Rattle.mc_rules_steps.specs.Next.{Next}
use Rattle.mc_rules_steps.specs.Operands.{code_at, operand_node, with_operand, AreNodesOf, HasBlock}
use Rattle.mc_rules_steps.specs.Steps.{S8Is, S9Is, S11Is, S12Is, S18Is}
use Rattle.mc_rules_steps.specs.Unmet.{taken, IsFirstUnknown, AreKnown, Lacks, IsGap, IsUnmet}
use Rattle.mc_state.specs.declared.line.InstrRule.TheVariants as rule
use Rattle.mc_rules_steps.specs.Laws.{IsStep, UnmetHasNoStep}
use Rattle.mc_rules_steps.proofs.Operands.{operand_env}
use Rattle.mc_rules_steps.proofs.OneBlock.{one_block}

-- the gap is no shape that is lacked
abbrev IsNoShape : Gap → Type 0
IsNoShape gap = (pred : PredId) (n : NodeId) → gap ≡ NoShape pred n → ⊥

-- the instruction lacks nothing but what it takes, and perhaps a shape
abbrev LacksNothing : List Def → State → Instr → Gap → Type 0
LacksNothing defs s code gap = IsNoShape gap → Lacks defs code s gap → ⊥

-- what holds of each gap, one by one
by_gap : (P : Gap → Type 0) → ((x : VarId) → P (Uninit x)) → ((n : NodeId) → P (NoBlock n)) → P Reached → ((pred : PredId) (n : NodeId) → P (NoShape pred n)) → ((n : NodeId) (f : ℕ) → P (UninitField n f)) → ((flag : Bool) → P (NotEmpty flag)) → (gap : Gap) → P gap
by_gap P a b c d e f (Uninit x) = a x
by_gap P a b c d e f (NoBlock n) = b n
by_gap P a b c d e f Reached = c
by_gap P a b c d e f (NoShape pred n) = d pred n
by_gap P a b c d e f (UninitField n field) = e n field
by_gap P a b c d e f (NotEmpty flag) = f flag

-- ---- what is taken is known

pub known_first : (s : State) (os : List Operand) (x : VarId) → AreKnown s os → IsFirstUnknown s os x → ⊥
known_first s [] x k f = absurd f
known_first s (Var y ∷ os) x k f = elim f [
  | inl e ↦ let clash : None ≡ Some k.0.0 = sym e.0 ∙ k.0.1 in cc
  | inr more ↦ known_first s os x k.1 more.2
]
known_first s (Const c ∷ os) x k f = known_first s os x k f

known_more : (s t : State) (o : Operand) (os : List Operand) (n : NodeId) → t.env ≡ s.env → operand_node t o ≡ Some n → AreKnown s os → AreKnown s (o ∷ os)
known_more s t (Var y) os n e h k = ((n, ap (λ env. slice_index_or env y.0 None) (sym e) ∙ h), k)
known_more s t (Const c) os n e h k = k

known_many : (s : State) (os : List Operand) (t : State) (ns : List NodeId) → t.env ≡ s.env → AreNodesOf t os ns → AreKnown s os
known_many s [] t ns e h = tt
known_many s (o ∷ os) t [] e h = absurd h
known_many s (o ∷ os) t (n ∷ ns) e h = known_more s t o os n e h.0 (known_many s os (with_operand t o) ns (operand_env t o ∙ e) h.1)

one_known : (s : State) (o : Operand) (n : NodeId) → operand_node s o ≡ Some n → AreKnown s (o ∷ [])
one_known s o n h = known_more s s o [] n refl h tt

two_known : (s : State) (o p : Operand) (a b : NodeId) → operand_node s o ≡ Some a → operand_node (with_operand s o) p ≡ Some b → AreKnown s (o ∷ p ∷ [])
two_known s o p a b h k = known_more s s o (p ∷ []) a refl h (known_more s (with_operand s o) p [] b (operand_env s o) k tt)

-- ---- gaps

gap_not : (defs : List Def) (s : State) (code : Instr) → AreKnown s (taken code) → ((g : Gap) → LacksNothing defs s code g) → (gap : Gap) → IsNoShape gap → IsGap defs code s gap → ⊥
gap_not defs s code known others (Uninit x) noshape l = known_first s (taken code) x known l
gap_not defs s code known others (NoBlock n) noshape l = others (NoBlock n) noshape l.1
gap_not defs s code known others Reached noshape l = others Reached noshape l.1
gap_not defs s code known others (NoShape pred n) noshape l = noshape pred n refl
gap_not defs s code known others (UninitField n f) noshape l = others (UninitField n f) noshape l.1
gap_not defs s code known others (NotEmpty flag) noshape l = others (NotEmpty flag) noshape l.1

-- the instruction at the point is met
not_unmet : (flow : Flow) (defs : List Def) (p : PointId) (s : State) (gap : Gap) (code : Instr) → code_at flow p ≡ Some code → IsNoShape gap → IsUnmet flow defs p s gap
    → AreKnown s (taken code) → ((g : Gap) → LacksNothing defs s code g) → ⊥
not_unmet flow defs p s gap code at noshape u known others =
    let listed : Some u.code ≡ Some code = sym u.at ∙ at in
    let same : u.code ≡ code = cc in
    gap_not defs s code known others gap noshape (subst (λ (c : Instr). IsGap defs c s gap) same u.lacks)

pub same_node : (o : Option NodeId) (a b : NodeId) → o ≡ Some a → o ≡ Some b → a ≡ b
same_node o a b e h = let both : Some a ≡ Some b = sym e ∙ h in cc

module _ (law : BlocksAtOneNode) (flow : Flow) (defs : List Def) (p : PointId) (s : State) (next : List Next) where
  load_lacks : (i : S8Is flow p s next) (gap : Gap) → LacksNothing defs s (instr.Load i.x i.y i.shape i.f i.q) gap
  load_lacks i =
      by_gap (LacksNothing defs s (instr.Load i.x i.y i.shape i.f i.q)) (λ x noshape l. l)
      (λ n noshape l. l.1.block (subst (λ (m : NodeId). HasBlock s m i.shape) (same_node (var_node s i.y) i.n n i.known l.0) i.block))
      (λ noshape l. l) (λ pred n noshape l. l)
      (λ n f noshape l.
      let same : n ≡ i.n = same_node (var_node s i.y) n i.n l.0 i.known in
      let other = l.2.0 in
      let here : HasBlock s i.n i.shape = record { id = other.id; at = other.at; fields = other.fields; there = other.there; equal = subst (λ (m : NodeId). AreEqual s m other.at) same other.equal } in
      let fields : other.fields ≡ i.block.fields = one_block law s i.n i.shape here i.block i.consistent in
      let clash : Some (Some i.m) ≡ Some None = sym i.field ∙ ap (λ (xs : List (Option NodeId)). slice_get xs i.f) (sym fields) ∙ l.2.1 in
      cc)
      (λ flag noshape l. l)

  store_lacks : (i : S9Is flow p s next) (gap : Gap) → LacksNothing defs s (instr.Store i.y i.shape i.f i.from i.q) gap
  store_lacks i =
      by_gap (LacksNothing defs s (instr.Store i.y i.shape i.f i.from i.q)) (λ x noshape l. l)
      (λ n noshape l. l.1.block (subst (λ (m : NodeId). HasBlock s m i.shape) (same_node (var_node s i.y) i.n n i.known l.0) i.block))
      (λ noshape l. l) (λ pred n noshape l. l) (λ n f noshape l. l) (λ flag noshape l. l)

  null_lacks : (i : S11Is flow p s next) (gap : Gap) → LacksNothing defs s (instr.Free i.from i.q) gap
  null_lacks i =
      by_gap (LacksNothing defs s (instr.Free i.from i.q)) (λ x noshape l. l)
      (λ n noshape l. l.1 (subst (λ (m : NodeId). AreEqual (with_operand s i.from) m null) (same_node (operand_node s i.from) i.n n i.known l.0) i.zero))
      (λ noshape l. l) (λ pred n noshape l. l) (λ n f noshape l. l) (λ flag noshape l. l)

  free_lacks : (i : S12Is flow p s next) (gap : Gap) → LacksNothing defs s (instr.Free i.from i.q) gap
  free_lacks i =
      by_gap (LacksNothing defs s (instr.Free i.from i.q)) (λ x noshape l. l)
      (λ n noshape l.
      (l.2 i.shape).block
      (subst (λ (m : NodeId). HasBlock (with_operand s i.from) m i.shape) (same_node (operand_node s i.from) i.n n i.known l.0) (subst (λ (t : State). HasBlock t i.n i.shape) i.operand i.block)))
      (λ noshape l. l) (λ pred n noshape l. l) (λ n f noshape l. l) (λ flag noshape l. l)

  empty_lacks : (i : S18Is flow p s next) (gap : Gap) → LacksNothing defs s (instr.AssertEmpty i.q) gap
  empty_lacks i =
      by_gap (LacksNothing defs s (instr.AssertEmpty i.q)) (λ x noshape l. l) (λ n noshape l. l) (λ noshape l. l) (λ pred n noshape l. l) (λ n f noshape l. l)
      (λ flag noshape l. elim l.1 [
        | inl held ↦ held i.whole
        | inr e ↦ let clash : None ≡ Some (e.1, e.2) = ap (λ (es : Edges). slice_get es e.0) (sym i.none) ∙ e.3 in cc
      ])

  -- an instruction that lacks nothing but what it takes
  plain : (code : Instr) → ((x : VarId) → LacksNothing defs s code (Uninit x)) → ((n : NodeId) → LacksNothing defs s code (NoBlock n)) → LacksNothing defs s code Reached
      → ((n : NodeId) (f : ℕ) → LacksNothing defs s code (UninitField n f)) → ((flag : Bool) → LacksNothing defs s code (NotEmpty flag)) → (gap : Gap) → LacksNothing defs s code gap
  plain code a b c e f = by_gap (LacksNothing defs s code) a b c (λ pred n noshape l. noshape pred n refl) e f

  no_step : (gap : Gap) → IsUnmet flow defs p s gap → IsNoShape gap → IsStep flow p s next → ⊥
  no_step gap u noshape (rule.S1, i) = not_unmet flow defs p s gap (instr.Skip i.q) i.at noshape u tt (plain (instr.Skip i.q) (λ x noshape l. l) (λ n noshape l. l) (λ noshape l. l) (λ n f noshape l. l) (λ flag noshape l. l))
  no_step gap u noshape (rule.S2, i) =
      let code = instr.Copy i.x i.from i.q in
      not_unmet flow defs p s gap code i.at noshape u (one_known s i.from i.n i.known) (plain code (λ x noshape l. l) (λ n noshape l. l) (λ noshape l. l) (λ n f noshape l. l) (λ flag noshape l. l))
  no_step gap u noshape (rule.S3, i) =
      let code = instr.Undef i.xs i.q in
      not_unmet flow defs p s gap code i.at noshape u tt (plain code (λ x noshape l. l) (λ n noshape l. l) (λ noshape l. l) (λ n f noshape l. l) (λ flag noshape l. l))
  no_step gap u noshape (rule.S4, i) =
      let code = instr.Input i.x i.q in
      not_unmet flow defs p s gap code i.at noshape u tt (plain code (λ x noshape l. l) (λ n noshape l. l) (λ noshape l. l) (λ n f noshape l. l) (λ flag noshape l. l))
  no_step gap u noshape (rule.S5, i) =
      let code = instr.Add i.x i.o i.o' i.q in
      let k = i.computes in
      not_unmet flow defs p s gap code i.at noshape u (two_known s i.o i.o' k.a k.b k.left_known k.right_known) (plain code (λ x noshape l. l) (λ n noshape l. l) (λ noshape l. l) (λ n f noshape l. l) (λ flag noshape l. l))
  no_step gap u noshape (rule.S6, i) =
      let code = instr.Sub i.x i.o i.o' i.q in
      let k = i.computes in
      not_unmet flow defs p s gap code i.at noshape u (two_known s i.o i.o' k.a k.b k.left_known k.right_known) (plain code (λ x noshape l. l) (λ n noshape l. l) (λ noshape l. l) (λ n f noshape l. l) (λ flag noshape l. l))
  no_step gap u noshape (rule.S7, i) =
      let code = instr.Mul i.x i.o i.o' i.q in
      let k = i.computes in
      not_unmet flow defs p s gap code i.at noshape u (two_known s i.o i.o' k.a k.b k.left_known k.right_known) (plain code (λ x noshape l. l) (λ n noshape l. l) (λ noshape l. l) (λ n f noshape l. l) (λ flag noshape l. l))
  no_step gap u noshape (rule.S8, i) =
      let code = instr.Load i.x i.y i.shape i.f i.q in
      not_unmet flow defs p s gap code i.at noshape u ((i.n, i.known), tt) (load_lacks i)
  no_step gap u noshape (rule.S9, i) =
      let code = instr.Store i.y i.shape i.f i.from i.q in
      not_unmet flow defs p s gap code i.at noshape u (known_more s s i.from (Var i.y ∷ []) i.m refl i.value ((i.n, i.known), tt)) (store_lacks i)
  no_step gap u noshape (rule.S10, i) =
      let code = instr.Malloc i.x i.shape i.q in
      not_unmet flow defs p s gap code i.at noshape u tt (plain code (λ x noshape l. l) (λ n noshape l. l) (λ noshape l. l) (λ n f noshape l. l) (λ flag noshape l. l))
  no_step gap u noshape (rule.S11, i) = not_unmet flow defs p s gap (instr.Free i.from i.q) i.at noshape u (one_known s i.from i.n i.known) (null_lacks i)
  no_step gap u noshape (rule.S12, i) = not_unmet flow defs p s gap (instr.Free i.from i.q) i.at noshape u (one_known s i.from i.n i.known) (free_lacks i)
  no_step gap u noshape (rule.S13, i) =
      let code = instr.TestEq i.o i.o' i.t i.f in
      not_unmet flow defs p s gap code i.at noshape u (two_known s i.o i.o' i.a i.b i.left_known i.right_known) (plain code (λ x noshape l. l) (λ n noshape l. l) (λ noshape l. l) (λ n f noshape l. l) (λ flag noshape l. l))
  no_step gap u noshape (rule.S14, i) =
      let code = instr.TestLe i.o i.o' i.t i.f in
      not_unmet flow defs p s gap code i.at noshape u (two_known s i.o i.o' i.a i.b i.left_known i.right_known) (plain code (λ x noshape l. l) (λ n noshape l. l) (λ noshape l. l) (λ n f noshape l. l) (λ flag noshape l. l))
  no_step gap u noshape (rule.S15, i) =
      let code = instr.AssumeShape i.pred i.x i.os i.q in
      not_unmet flow defs p s gap code i.at noshape u (known_many s i.os s i.args refl i.known) (plain code (λ x noshape l. l) (λ n noshape l. l) (λ noshape l. l) (λ n f noshape l. l) (λ flag noshape l. l))
  no_step gap u noshape (rule.S16, i) =
      let code = instr.AssertShape i.pred i.o i.os i.q in
      not_unmet flow defs p s gap code i.at noshape u (known_more s s i.o i.os i.n refl i.known (known_many s i.os (with_operand s i.o) i.args (operand_env s i.o) i.args_known))
      (plain code (λ x noshape l. l) (λ n noshape l. l) (λ noshape l. l) (λ n f noshape l. l) (λ flag noshape l. l))
  no_step gap u noshape (rule.S17, i) =
      not_unmet flow defs p s gap instr.End i.at noshape u tt (plain instr.End (λ x noshape l. l) (λ n noshape l. l) (λ noshape l. l) (λ n f noshape l. l) (λ flag noshape l. l))
  no_step gap u noshape (rule.S18, i) = not_unmet flow defs p s gap (instr.AssertEmpty i.q) i.at noshape u tt (empty_lacks i)

pub unmet_has_no_step : BlocksAtOneNode → UnmetHasNoStep
unmet_has_no_step law flow defs p s next gap u noshape step = no_step law flow defs p s next gap u noshape step
