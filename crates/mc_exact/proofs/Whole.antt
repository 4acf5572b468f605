-- Alarms of exact branches are real.
use Rattle.std.proofs.Common.{◌≡◌, ◌⊎◌, ◌≤◌, ℕ, zero, suc, ℤ, pos, ◌+ℤ◌, ◌-ℤ◌, ◌*ℤ◌, neg_ℤ, Bool, true, false, Option, Some, None, List, [], ◌∷◌, ◌++◌, map, option_map, length, replicate, slice_get, slice_set, if◌then◌else◌, refl, sym, ap, ap₂, ◌∙◌, subst, arith, inl, inr}
use Rattle.std.specs.Prelude.{◌==◌, ◌&&◌, slice_index_or}
use Rattle.std.specs.Ordering.{int_eq}
use Rattle.std.specs.List.{AllByRecursion}
use Rattle.std.proofs.lemmas.Int.{ints}
use Rattle.mc_base.specs.declared.ids.EdgeId.{EdgeId}
use Rattle.mc_base.specs.declared.ids.NodeId.{NodeId}
use Rattle.mc_base.specs.declared.ids.PointId.{PointId}
use Rattle.mc_base.specs.declared.ids.StructId.{StructId}
use Rattle.mc_base.specs.declared.ids.VarId.{VarId}
use Rattle.mc_base.specs.declared.plain.Kind.{Kind}
use Rattle.mc_base.specs.declared.plain.Kind.TheVariants.{Int, Ptr}
use Rattle.mc_base.specs.declared.plain.Atom.{Atom}
use Rattle.mc_base.specs.declared.plain.Atom.TheVariants.{Eq, Ne, In}
use Rattle.mc_base.specs.Nodes.{Valuation, null}
use Rattle.mc_base.specs.declared.ranges.Range.{Range}
use Rattle.mc_base.specs.declared.ids.PredId.{PredId}
use Rattle.mc_base.specs.declared.plain.VarInfo.{VarInfo}
use Rattle.mc_flow.specs.declared.defs.rules.Def.{Def}
use Rattle.mc_flow.specs.declared.graph.Flow.{Flow}
use Rattle.mc_flow.specs.declared.graph.Point.{Point}
use Rattle.mc_flow.specs.declared.instr.Instr.{Instr}
use Rattle.mc_flow.specs.declared.instr.Instr.TheVariants as instr
use Rattle.mc_flow.specs.declared.instr.Operand.{Operand}
use Rattle.mc_flow.specs.declared.instr.Operand.TheVariants.{Var, Const}
use Rattle.mc_flow.specs.Steps.{field_count}
use Rattle.mc_flow.specs.Values.{wrapped}
use Rattle.mc_flow.specs.Valid.{IsOperand, IsValid, FitsKinds}
use Rattle.mc_pure.specs.Pure.{HasKind, Kinds}
use Rattle.mc_pure.specs.Derived.{HasRange}
use Rattle.mc_state.specs.declared.graph.edge.Edge.TheVariants as edge
use Rattle.mc_state.specs.Graph.Graph.{Edges, without, replaced, block_starts}
use Rattle.mc_state.specs.Known.{Test, Tells}
use Rattle.mc_state.specs.State.{State, unknown, pure_of, var_node, with_var, without_vars, next_node, with_nodes, with_number, with_atoms, with_atom, with_only_edges, with_block}
use Rattle.mc_state.proofs.Lists.{all_map, all_append, all_at}
use Rattle.mc_state.specs.Fits.{NodesAscend, MayHaveKinds, IsWellMade, EdgeFitsDefs}
use Rattle.mc_state.specs.declared.line.InstrRule.TheVariants as step
use Rattle.mc_rules_steps.specs.Next.{Next}
use Rattle.mc_rules_steps.specs.Operands.{code_at, operand_node, with_operand}
use Rattle.mc_rules_steps.specs.Steps.{moved_to, freed_atoms, S10Is, le_atoms, gt_atoms, Computes, range_atoms, in_range, is_single, offset_atom, sum_offsets, difference_offsets, no_offsets, stays_int}
use Rattle.mc_rules_steps.specs.Unmet.{IsUnmet}
use Rattle.mc_rules_steps.specs.declared.gap.Gap.{Gap}
use Rattle.mc_rules_steps.specs.declared.gap.Gap.TheVariants.{NoShape}
use Rattle.mc_rules_steps.specs.JudgedLaws.{LeastRangeHasNumber, IsMadeFor}
use Rattle.mc_rules_steps.specs.Laws.{IsStep}
use Rattle.mc_exact.specs.Least.{IsNumber, least_valuation, ArePlain, IsPlainAtom}
use Rattle.mc_exact.specs.Exact as rule
use Rattle.mc_exact.specs.Exact.{Picks, IsExactBranch, entry, failed, made, IsSilent, silent}
use Rattle.mc_exact.proofs.LeastNodes.{least_is_true, least_separates}
use Rattle.mc_exact.proofs.Exactly.{answers, IsTrueIn}
use Rattle.mc_exact.proofs.Stored.{eq_yes, start_all, one_item}
use Rattle.mc_exact.proofs.LowerLaws.{RunLaws, StateLaws}
use Rattle.mc_exact.proofs.Running.{branch_runs, NumbersAlong, lines_of}
use Rattle.mc_exact.proofs.Instructions.{first_is}
use Rattle.mc_exact.proofs.Going.{AreNumbers}
use Rattle.mc_exact.proofs.Faults.{faults_at, true_in}
use Rattle.mc_exact.specs.Real.{FaultsWith}
use Rattle.mc_exact.proofs.Plain.{IsPlainState, plain_atoms, plain_number, plain_block, plain_operand, plain_same, plain_without, plain_freed, is_number, is_plain, has_more, above}
use Rattle.mc_exact.proofs.Alarms.{AreSeparate, unmet_faults}

may_more : (ks more : Kinds) (kinds : List Kind) (ns : List (Option NodeId)) → MayHaveKinds ks kinds ns → MayHaveKinds (ks ++ more) kinds ns
may_more ks more [] [] h = tt
may_more ks more [] (n ∷ ns) h = absurd h
may_more ks more (k ∷ kinds) [] h = absurd h
may_more ks more (k ∷ kinds) (None ∷ ns) h = (tt, may_more ks more kinds ns h.1)
may_more ks more (k ∷ kinds) (Some n ∷ ns) h = (has_more ks more k n h.0, may_more ks more kinds ns h.1)

var_kind : (ks : Kinds) (vars : List VarInfo) (ns : List (Option NodeId)) (x : ℕ) (kind : Kind) (n : NodeId) → MayHaveKinds ks (map (λ x. x.kind) vars) ns → option_map (λ v. v.kind) (slice_get vars x) ≡ Some kind → slice_index_or ns x None ≡ Some n → HasKind ks kind n
var_kind ks [] [] x kind n h k e = cc
var_kind ks [] (m ∷ ns) x kind n h k e = absurd h
var_kind ks (v ∷ vars) [] x kind n h k e = absurd h
var_kind ks (v ∷ vars) (None ∷ ns) zero kind n h k e = cc
var_kind ks (v ∷ vars) (Some m ∷ ns) zero kind n h k e = (let same : m ≡ n = one_item m n e in let is : v.kind ≡ kind = one_item v.kind kind k in subst (λ (y : NodeId). HasKind ks kind y) same (subst (λ (y : Kind). HasKind ks y m) is h.0))
var_kind ks (v ∷ vars) (m ∷ ns) (suc x) kind n h k e = var_kind ks vars ns x kind n h.1 k e

-- two operands of one kind
pub record TwoKinds (s t : State) (a b : NodeId) (kind : Kind) : Type 0 where
  pub plain : IsPlainState t
  pub next : 1 ≤ t.next
  pub left : HasKind t.kinds kind a
  pub right : HasKind t.kinds kind b

module _ (vars : List VarInfo) where
  -- operands have nodes of their kinds
  operand_kind : (s : State) (o : Operand) (kind : Kind) (n : NodeId) → NodesAscend 1 s.kinds s.next → MayHaveKinds s.kinds (map (λ x. x.kind) vars) s.env → IsOperand vars kind o → operand_node s o ≡ Some n → HasKind (with_operand s o).kinds kind n
  operand_kind s (Var x) kind n up may fits e = var_kind s.kinds vars s.env x.0 kind n may fits e
  operand_kind s (Const k) Ptr n up may fits e =
      let is : int_eq k (pos 0) ≡ true = eq_yes k (pos 0) fits in
      inl (sym (one_item null n (sym (ap (λ (b : Bool). Some (if b then null else next_node s)) is) ∙ e)))
  operand_kind s (Const k) Int n up may fits e = by (int_eq k (pos 0)) e
    where
      by : (b : Bool) → Some (if b then null else next_node s) ≡ Some n → HasKind (if b then s else with_number s k).kinds Int n
      by true h = inl (sym (one_item null n h))
      by false h = (let same : next_node s ≡ n = one_item (next_node s) n h in subst (λ (m : NodeId). HasKind (s.kinds ++ (next_node s, Int) ∷ []) Int m) same (inr (above 1 s.kinds s.next Int up)))

  operand_may : (s : State) (o : Operand) → MayHaveKinds s.kinds (map (λ x. x.kind) vars) s.env → MayHaveKinds (with_operand s o).kinds (map (λ x. x.kind) vars) (with_operand s o).env
  operand_may s (Var x) may = may
  operand_may s (Const k) may = by (int_eq k (pos 0))
    where
      by : (b : Bool) → MayHaveKinds (if b then s else with_number s k).kinds (map (λ x. x.kind) vars) (if b then s else with_number s k).env
      by true = may
      by false = may_more s.kinds ((next_node s, Int) ∷ []) (map (λ x. x.kind) vars) s.env may

  operand_has : (s : State) (o : Operand) (k : Kind) (n : NodeId) → HasKind s.kinds k n → HasKind (with_operand s o).kinds k n
  operand_has s (Var x) k n h = h
  operand_has s (Const z) k n h = by (int_eq z (pos 0))
    where
      by : (b : Bool) → HasKind (if b then s else with_number s z).kinds k n
      by true = h
      by false = has_more s.kinds ((next_node s, Int) ∷ []) k n h

  two_kinds : (s t : State) (o o' : Operand) (a b : NodeId) (kind : Kind) → t ≡ with_operand (with_operand s o) o' → operand_node s o ≡ Some a → operand_node (with_operand s o) o' ≡ Some b
      → IsOperand vars kind o → IsOperand vars kind o' → MayHaveKinds s.kinds (map (λ x. x.kind) vars) s.env → 1 ≤ s.next → IsPlainState s → TwoKinds s t a b kind
  two_kinds s t o o' a b kind is e h fo fo' may le i =
      let one = plain_operand s o le i in
      let two = plain_operand (with_operand s o) o' one.1 one.0 in
      let both : TwoKinds s (with_operand (with_operand s o) o') a b kind = record {
        plain = two.0;
        next = two.1;
        left = operand_has (with_operand s o) o' kind a (operand_kind s o kind a i.ascend may fo e);
        right = operand_kind (with_operand s o) o' kind b one.0.ascend (operand_may s o may) fo' h;
      } in
      subst (λ (u : State). TwoKinds s u a b kind) (sym is) both

plain_pair : (kinds : Kinds) (a b : NodeId) (kind : Kind) → HasKind kinds kind a → HasKind kinds kind b → ArePlain kinds a b (pos 0)
plain_pair kinds a b Int h k = inl (h, k)
plain_pair kinds a b Ptr h k = inr (h, k, refl)

-- what a computation makes of a plain state
computes_plain : (ranged : LeastRangeHasNumber) (op : ℤ → ℤ → ℤ) (offsets : NodeId → NodeId → NodeId → Range → Range → List Atom) (x : VarId) (o o' : Operand) (q : PointId) (s : State) (ns : List Next) (n : Next) (place : ℕ)
    → ((kinds : Kinds) (k a b : NodeId) (left right : Range) → HasKind kinds Int k → HasKind kinds Int a → HasKind kinds Int b → AllByRecursion (IsPlainAtom kinds) (offsets k a b left right))
    → (m : Computes op offsets x o o' q s ns) → TwoKinds s m.before m.a m.b Int → slice_get ns place ≡ Some n → IsPlainState n.state × (1 ≤ n.state.next)
computes_plain ranged op offsets x o o' q s ns n place plain m two e =
    let t = m.before in
    let left : HasRange (pure_of t) m.a m.left.lo m.left.hi = subst (λ (k : State). HasRange (pure_of k) m.a m.left.lo m.left.hi) (sym m.operands) m.left_range in
    let right : HasRange (pure_of t) m.b m.right.lo m.right.hi = subst (λ (k : State). HasRange (pure_of k) m.b m.right.lo m.right.hi) (sym m.operands) m.right_range in
    let one : is_single m.left ≡ true = single t m.a m.left.lo m.left.hi (is_number t m.a two.plain two.left) left in
    let other : is_single m.right ≡ true = single t m.b m.right.lo m.right.hi (is_number t m.b two.plain two.right) right in
    let w = wrapped (op m.left.lo m.right.lo) in
    let more = offsets (next_node t) m.a m.b m.left m.right in
    let kinds = t.kinds ++ (next_node t, Int) ∷ [] in
    let range : range_atoms op (next_node t) m.left m.right m.results ≡ In (next_node t) w w ∷ [] = ap₂ (λ (a b : Bool). if a && b then In (next_node t) w w ∷ [] else in_range (next_node t) m.results) one other in
    let atoms = range_atoms op (next_node t) m.left m.right m.results ++ more in
    let to = with_atoms (with_var (with_nodes t (Int ∷ [])) x (Some (next_node t))) atoms in
    let same = first_is n (moved_to q to) ns place e m.gives in
    let all = plain kinds (next_node t) m.a m.b m.left m.right (inr (above 1 t.kinds t.next Int two.plain.ascend)) (has_more t.kinds ((next_node t, Int) ∷ []) Int m.a two.left) (has_more t.kinds ((next_node t, Int) ∷ []) Int m.b two.right) in
    let made' = plain_number t w more two.next all two.plain in
    let goes : IsPlainState to = plain_same (with_atoms (with_nodes t (Int ∷ [])) (In (next_node t) w w ∷ more)) to refl (ap (λ (l : List Atom). t.atoms ++ (l ++ more)) range) refl made' in
    subst (λ (k : Next). IsPlainState k.state × (1 ≤ k.state.next)) same (goes, omega arith)
  where
    single : (t : State) (a : NodeId) (lo hi : ℤ) → IsNumber (pure_of t) a → HasRange (pure_of t) a lo hi → int_eq lo hi ≡ true
    single t a lo hi number range =
        let least = range.least number.0 number.0 number.1 in
        let le = ranged (pure_of t) a lo hi range in
        eq_yes lo hi (omega (arith, ints))

no_plain : (kinds : Kinds) (k a b : NodeId) (left right : Range) → HasKind kinds Int k → HasKind kinds Int a → HasKind kinds Int b → AllByRecursion (IsPlainAtom kinds) (no_offsets k a b left right)
no_plain kinds k a b left right hk ha hb = tt

offset_plain : (kinds : Kinds) (k a : NodeId) (left right : Range) (add : ℤ) → HasKind kinds Int k → HasKind kinds Int a → AllByRecursion (IsPlainAtom kinds) (offset_atom k a left right add)
offset_plain kinds k a left right add hk ha = by (is_single right && stays_int left add)
  where
    by : (b : Bool) → AllByRecursion (IsPlainAtom kinds) (if b then Eq k a add ∷ [] else [])
    by true = (inl (hk, ha), tt)
    by false = tt

sum_plain : (kinds : Kinds) (k a b : NodeId) (left right : Range) → HasKind kinds Int k → HasKind kinds Int a → HasKind kinds Int b → AllByRecursion (IsPlainAtom kinds) (sum_offsets k a b left right)
sum_plain kinds k a b left right hk ha hb = all_append (IsPlainAtom kinds) (offset_atom k a left right right.lo) (offset_atom k b right left left.lo) (offset_plain kinds k a left right right.lo hk ha) (offset_plain kinds k b right left left.lo hk hb)

difference_plain : (kinds : Kinds) (k a b : NodeId) (left right : Range) → HasKind kinds Int k → HasKind kinds Int a → HasKind kinds Int b → AllByRecursion (IsPlainAtom kinds) (difference_offsets k a b left right)
difference_plain kinds k a b left right hk ha hb = offset_plain kinds k a left right (neg_ℤ right.lo) hk ha

starts_are : (defs : List Def) (kinds : Kinds) (es : Edges) → AllByRecursion (λ e. EdgeFitsDefs defs kinds e.1) es → AllByRecursion (λ (b : NodeId). HasKind kinds Ptr b) (block_starts es)
starts_are defs kinds [] all = tt
starts_are defs kinds ((k, edge.Block n shape fields) ∷ es) all = (all.0.0, starts_are defs kinds es all.1)
starts_are defs kinds ((k, edge.Ind n pred args) ∷ es) all = starts_are defs kinds es all.1
starts_are defs kinds ((k, edge.Seg n args pred «end» ends) ∷ es) all = starts_are defs kinds es all.1

all_without : (P : NodeId → Type 0) (es : Edges) (id : EdgeId) → AllByRecursion P (block_starts es) → AllByRecursion P (block_starts (without es id))
all_without P [] id all = tt
all_without P ((k, edge.Block n shape fields) ∷ es) id all = by (all_without P es id all.1) (k.0 == id.0)
  where
    by : AllByRecursion P (block_starts (without es id)) → (b : Bool) → AllByRecursion P (block_starts (if b then es else (k, edge.Block n shape fields) ∷ without es id))
    by later true = all.1
    by later false = (all.0, later)
all_without P ((k, edge.Ind n pred args) ∷ es) id all = by (all_without P es id all) (k.0 == id.0)
  where
    by : AllByRecursion P (block_starts (without es id)) → (b : Bool) → AllByRecursion P (block_starts (if b then es else (k, edge.Ind n pred args) ∷ without es id))
    by later true = all
    by later false = later
all_without P ((k, edge.Seg n args pred «end» ends) ∷ es) id all = by (all_without P es id all) (k.0 == id.0)
  where
    by : AllByRecursion P (block_starts (without es id)) → (b : Bool) → AllByRecursion P (block_starts (if b then es else (k, edge.Seg n args pred «end» ends) ∷ without es id))
    by later true = all
    by later false = later

one_next : (n m : Next) (ns : List Next) (place : ℕ) → slice_get ns place ≡ Some n → ns ≡ m ∷ [] → IsPlainState m.state → 1 ≤ m.state.next → IsPlainState n.state × (1 ≤ n.state.next)
one_next n m ns place e is i le = subst (λ (k : Next). IsPlainState k.state × (1 ≤ k.state.next)) (first_is n m ns place e is) (i, le)

module _ (flow : Flow) (defs : List Def) (valid : IsValid flow defs) (laws : StateLaws) where
  fits : (p : PointId) (code : Instr) → code_at flow p ≡ Some code → FitsKinds flow.vars flow.structs defs code
  fits p code is = by (slice_get flow.points p.0) refl is
    where
      by : (o : Option Point) → slice_get flow.points p.0 ≡ o → option_map (λ point. point.code) o ≡ Some code → FitsKinds flow.vars flow.structs defs code
      by None e h = cc
      by (Some point) e h = subst (λ (k : Instr). FitsKinds flow.vars flow.structs defs k) (one_item point.code code h) (valid.points p.0 point e).kinds

  pub silent_step : (p : PointId) (s : State) (ns : List Next) → IsSilent flow p s ns → IsStep flow p s ns
  silent_step p s ns (rule.S1 i) = (step.S1, i)
  silent_step p s ns (rule.S2 i) = (step.S2, i)
  silent_step p s ns (rule.S3 i) = (step.S3, i)
  silent_step p s ns (rule.S5 i) = (step.S5, i)
  silent_step p s ns (rule.S6 i) = (step.S6, i)
  silent_step p s ns (rule.S7 i) = (step.S7, i)
  silent_step p s ns (rule.S8 i) = (step.S8, i)
  silent_step p s ns (rule.S9 i) = (step.S9, i)
  silent_step p s ns (rule.S11 i) = (step.S11, i)
  silent_step p s ns (rule.S12 i) = (step.S12, i)
  silent_step p s ns (rule.S13 i) = (step.S13, i)
  silent_step p s ns (rule.S14 i) = (step.S14, i)
  silent_step p s ns (rule.S18 i) = (step.S18, i)

  abbrev Made : State → Type 0
  Made s = IsWellMade defs flow.vars flow.structs.list s

  computes_two : (op : ℤ → ℤ → ℤ) (offsets : NodeId → NodeId → NodeId → Range → Range → List Atom) (x : VarId) (o o' : Operand) (q : PointId) (s : State) (ns : List Next) → Made s → IsPlainState s → 1 ≤ s.next
      → (m : Computes op offsets x o o' q s ns) → IsOperand flow.vars Int o → IsOperand flow.vars Int o' → TwoKinds s m.before m.a m.b Int
  computes_two op offsets x o o' q s ns is i le m fo fo' =
      two_kinds flow.vars s m.before o o' m.a m.b Int m.operands m.left_known m.right_known fo fo' is.fits_program.vars_fit le i

  -- the numbers of a rule
  silent_numbers : (laws' : RunLaws) (v : Valuation) (p : PointId) (s : State) (ns : List Next) → Made s → IsPlainState s → 1 ≤ s.next → (i : IsSilent flow p s ns) → AreNumbers laws' flow defs v p s ns i
  silent_numbers laws' v p s ns is i le (rule.S5 r) =
      let f = fits p (instr.Add r.x r.o r.o' r.q) r.at in
      let two = computes_two (λ a b. a +ℤ b) sum_offsets r.x r.o r.o' r.q s ns is i le r.computes f.1 f.2 in
      (is_number r.computes.before r.computes.a two.plain two.left, is_number r.computes.before r.computes.b two.plain two.right)
  silent_numbers laws' v p s ns is i le (rule.S6 r) =
      let f = fits p (instr.Sub r.x r.o r.o' r.q) r.at in
      let two = computes_two (λ a b. a -ℤ b) difference_offsets r.x r.o r.o' r.q s ns is i le r.computes f.1 f.2 in
      (is_number r.computes.before r.computes.a two.plain two.left, is_number r.computes.before r.computes.b two.plain two.right)
  silent_numbers laws' v p s ns is i le (rule.S7 r) =
      let f = fits p (instr.Mul r.x r.o r.o' r.q) r.at in
      let two = computes_two (λ a b. a *ℤ b) no_offsets r.x r.o r.o' r.q s ns is i le r.computes f.1 f.2 in
      (is_number r.computes.before r.computes.a two.plain two.left, is_number r.computes.before r.computes.b two.plain two.right)
  silent_numbers laws' v p s ns is i le (rule.S14 r) =
      let f = fits p (instr.TestLe r.o r.o' r.t r.f) r.at in
      let two = two_kinds flow.vars s r.before r.o r.o' r.a r.b Int r.operands r.left_known r.right_known f.0 f.1 is.fits_program.vars_fit le i in
      (is_number r.before r.a two.plain two.left, is_number r.before r.b two.plain two.right)
  silent_numbers laws' v p s ns is i le (rule.S1 r) = tt
  silent_numbers laws' v p s ns is i le (rule.S2 r) = tt
  silent_numbers laws' v p s ns is i le (rule.S3 r) = tt
  silent_numbers laws' v p s ns is i le (rule.S8 r) = tt
  silent_numbers laws' v p s ns is i le (rule.S9 r) = tt
  silent_numbers laws' v p s ns is i le (rule.S11 r) = tt
  silent_numbers laws' v p s ns is i le (rule.S12 r) = tt
  silent_numbers laws' v p s ns is i le (rule.S13 r) = tt
  silent_numbers laws' v p s ns is i le (rule.S18 r) = tt

  next_without : (s : State) (xs : List VarId) → 1 ≤ s.next → 1 ≤ (without_vars s xs).next
  next_without s [] le = le
  next_without s (x ∷ xs) le = next_without (with_var s x None) xs le

  two_next : (n a b : Next) (ns : List Next) (place : ℕ) → slice_get ns place ≡ Some n → ns ≡ a ∷ b ∷ [] → IsPlainState a.state × (1 ≤ a.state.next) → IsPlainState b.state × (1 ≤ b.state.next) → IsPlainState n.state × (1 ≤ n.state.next)
  two_next n a b ns place e is one other = by place (subst (λ (l : List Next). slice_get l place ≡ Some n) is e)
    where
      by : (place : ℕ) → slice_get (a ∷ b ∷ []) place ≡ Some n → IsPlainState n.state × (1 ≤ n.state.next)
      by zero h = subst (λ (k : Next). IsPlainState k.state × (1 ≤ k.state.next)) (one_item a n h) one
      by (suc zero) h = subst (λ (k : Next). IsPlainState k.state × (1 ≤ k.state.next)) (one_item b n h) other
      by (suc (suc k)) h = cc

  pub has_starts : (s : State) → Made s → AllByRecursion (λ (b : NodeId). HasKind s.kinds Ptr b) (block_starts s.graph.edges)
  has_starts s is = starts_are defs s.kinds s.graph.edges is.fits_defs

  operand_starts : (s : State) (o : Operand) → AllByRecursion (λ (m : NodeId). HasKind s.kinds Ptr m) (block_starts s.graph.edges) → AllByRecursion (λ (m : NodeId). HasKind (with_operand s o).kinds Ptr m) (block_starts (with_operand s o).graph.edges)
  operand_starts s (Var x) all = all
  operand_starts s (Const k) all = by (int_eq k (pos 0))
    where
      by : (b : Bool) → AllByRecursion (λ (m : NodeId). HasKind (if b then s else with_number s k).kinds Ptr m) (block_starts (if b then s else with_number s k).graph.edges)
      by true = all
      by false = all_map (λ (m : NodeId). HasKind s.kinds Ptr m) (λ (m : NodeId). HasKind (s.kinds ++ (next_node s, Int) ∷ []) Ptr m) (λ m h. has_more s.kinds ((next_node s, Int) ∷ []) Ptr m h) (block_starts s.graph.edges) all

  silent_plain : (p : PointId) (s : State) (ns : List Next) (n : Next) (place : ℕ) → Made s → IsPlainState s → 1 ≤ s.next → IsSilent flow p s ns → slice_get ns place ≡ Some n → IsPlainState n.state × (1 ≤ n.state.next)
  silent_plain p s ns n place is i le (rule.S1 r) e = one_next n (moved_to r.q s) ns place e r.gives i le
  silent_plain p s ns n place is i le (rule.S2 r) e =
      let one = plain_operand s r.from le i in
      let t = with_operand s r.from in
      one_next n (moved_to r.q (with_var t r.x (Some r.n))) ns place e r.gives (plain_same t (with_var t r.x (Some r.n)) refl refl refl one.0) one.1
  silent_plain p s ns n place is i le (rule.S3 r) e = one_next n (moved_to r.q (without_vars s r.xs)) ns place e r.gives (plain_without s r.xs i) (next_without s r.xs le)
  silent_plain p s ns n place is i le (rule.S5 r) e =
      let f = fits p (instr.Add r.x r.o r.o' r.q) r.at in
      computes_plain laws.ranged (λ a b. a +ℤ b) sum_offsets r.x r.o r.o' r.q s ns n place sum_plain r.computes (computes_two (λ a b. a +ℤ b) sum_offsets r.x r.o r.o' r.q s ns is i le r.computes f.1 f.2) e
  silent_plain p s ns n place is i le (rule.S6 r) e =
      let f = fits p (instr.Sub r.x r.o r.o' r.q) r.at in
      computes_plain laws.ranged (λ a b. a -ℤ b) difference_offsets r.x r.o r.o' r.q s ns n place difference_plain r.computes (computes_two (λ a b. a -ℤ b) difference_offsets r.x r.o r.o' r.q s ns is i le r.computes f.1 f.2) e
  silent_plain p s ns n place is i le (rule.S7 r) e =
      let f = fits p (instr.Mul r.x r.o r.o' r.q) r.at in
      computes_plain laws.ranged (λ a b. a *ℤ b) no_offsets r.x r.o r.o' r.q s ns n place no_plain r.computes (computes_two (λ a b. a *ℤ b) no_offsets r.x r.o r.o' r.q s ns is i le r.computes f.1 f.2) e
  silent_plain p s ns n place is i le (rule.S8 r) e = one_next n (moved_to r.q (with_var s r.x (Some r.m))) ns place e r.gives (plain_same s (with_var s r.x (Some r.m)) refl refl refl i) le
  silent_plain p s ns n place is i le (rule.S9 r) e =
      let one = plain_operand s r.from le i in
      let b = r.block in
      let to = λ (u : State). record u { graph = record u.graph { edges = replaced u.graph.edges b.id (edge.Block b.at r.shape (slice_set b.fields r.f (Some r.m))) } } in
      let t = with_operand s r.from in
      let gives = subst (λ (u : State). ns ≡ moved_to r.q (to u) ∷ []) r.operand r.gives in
      one_next n (moved_to r.q (to t)) ns place e gives (plain_same t (to t) refl refl refl one.0) one.1
  silent_plain p s ns n place is i le (rule.S11 r) e =
      let one = plain_operand s r.from le i in
      one_next n (moved_to r.q (with_operand s r.from)) ns place e r.gives one.0 one.1
  silent_plain p s ns n place is i le (rule.S12 r) e =
      let one = plain_operand s r.from le i in
      let t = with_operand s r.from in
      let b = r.block in
      let u = r.before in
      let here : IsPlainState u × (1 ≤ u.next) = subst (λ (x : State). IsPlainState x × (1 ≤ x.next)) (sym r.operand) one in
      let starts : AllByRecursion (λ (m : NodeId). HasKind u.kinds Ptr m) (block_starts u.graph.edges) = subst (λ (x : State). AllByRecursion (λ (m : NodeId). HasKind x.kinds Ptr m) (block_starts x.graph.edges)) (sym r.operand) (operand_starts s r.from (has_starts s is)) in
      let kind = start_all (λ (m : NodeId). HasKind u.kinds Ptr m) u.graph.edges b.id b.at r.shape b.fields b.there starts in
      let es = without u.graph.edges b.id in
      one_next n (moved_to r.q (with_atoms (with_only_edges u es) (freed_atoms b.at (block_starts es)))) ns place e r.gives
      (plain_freed u es b.at kind (all_without (λ (m : NodeId). HasKind u.kinds Ptr m) u.graph.edges b.id starts) here.0) here.1
  silent_plain p s ns n place is i le (rule.S13 r) e =
      let f = fits p (instr.TestEq r.o r.o' r.t r.f) r.at in
      let two = two_kinds flow.vars s r.before r.o r.o' r.a r.b f.0 r.operands r.left_known r.right_known f.1 f.2 is.fits_program.vars_fit le i in
      let pair = plain_pair r.before.kinds r.a r.b f.0 two.left two.right in
      two_next n (moved_to r.t (with_atom r.before (Eq r.a r.b (pos 0)))) (moved_to r.f (with_atom r.before (Ne r.a r.b (pos 0)))) ns place e r.gives
      (plain_atoms r.before (Eq r.a r.b (pos 0) ∷ []) (pair, tt) two.plain, two.next) (plain_atoms r.before (Ne r.a r.b (pos 0) ∷ []) (pair, tt) two.plain, two.next)
  silent_plain p s ns n place is i le (rule.S14 r) e =
      let f = fits p (instr.TestLe r.o r.o' r.t r.f) r.at in
      let two = two_kinds flow.vars s r.before r.o r.o' r.a r.b Int r.operands r.left_known r.right_known f.0 f.1 is.fits_program.vars_fit le i in
      two_next n (moved_to r.t (with_atoms r.before (le_atoms r.a r.b r.left r.right))) (moved_to r.f (with_atoms r.before (gt_atoms r.a r.b r.left r.right))) ns place e r.gives
      (plain_atoms r.before (le_atoms r.a r.b r.left r.right) (inl two.left, (inl two.right, tt)) two.plain, two.next)
      (plain_atoms r.before (gt_atoms r.a r.b r.left r.right) (inl two.left, (inl two.right, (inl (two.left, two.right), tt))) two.plain, two.next)
  silent_plain p s ns n place is i le (rule.S18 r) e = one_next n (moved_to r.q s) ns place e r.gives i le

  -- ---- branches

  null_plain : (p : PointId) (s : State) (ns : List Next) (n : Next) → IsPlainState s → 1 ≤ s.next → S10Is flow p s ns → slice_get ns 0 ≡ Some n → IsPlainState n.state × (1 ≤ n.state.next)
  null_plain p s ns n i le r e = subst (λ (k : Next). IsPlainState k.state × (1 ≤ k.state.next)) (one_item _ n (sym (ap (λ (l : List Next). slice_get l 0) r.gives) ∙ e)) (plain_same s (with_var s r.x (Some null)) refl refl refl i, le)

  made_plain : (p : PointId) (s : State) (ns : List Next) (n : Next) → IsPlainState s → 1 ≤ s.next → S10Is flow p s ns → slice_get ns 1 ≡ Some n → IsPlainState n.state × (1 ≤ n.state.next)
  made_plain p s ns n i le r e =
      let t = with_block s r.shape (field_count flow.structs r.shape) in
      subst (λ (k : Next). IsPlainState k.state × (1 ≤ k.state.next)) (one_item _ n (sym (ap (λ (l : List Next). slice_get l 1) r.gives) ∙ e))
      (plain_same t (with_var t r.x (Some (next_node s))) refl refl refl (plain_block s r.shape (field_count flow.structs r.shape) le i), omega arith)

  -- nothing is known at the entry
  entry_made : Made (unknown (length flow.vars))
  entry_made = record {
    bounded = laws.unknown (length flow.vars);
    atoms = tt;
    fits_defs = tt;
    fits_program = record { vars_fit = unknown_kinds flow.vars; blocks_fit = tt };
  }
    where
      unknown_kinds : (vars : List VarInfo) → MayHaveKinds [] (map (λ x. x.kind) vars) (replicate (length vars) None)
      unknown_kinds [] = tt
      unknown_kinds (x ∷ vars) = (tt, unknown_kinds vars)

  -- what holds of the state of an exact branch
  pub record IsGood (s : State) : Type 0 where
    pub made : Made s
    pub plain : IsPlainState s
    pub next : 1 ≤ s.next

  good_next : (p : PointId) (s : State) (ns : List Next) (n : Next) (place : ℕ) → Made s → IsStep flow p s ns → slice_get ns place ≡ Some n → IsPlainState n.state × (1 ≤ n.state.next) → IsGood n.state
  good_next p s ns n place is i e both' = record {
    made = (all_at (IsMadeFor flow defs) ns place n e (laws.made flow defs p s ns valid is i)).0;
    plain = both'.0;
    next = both'.1;
  }

  pub branch_good : {p : PointId} {s : State} {picks : Picks} → IsExactBranch flow p s picks → IsGood s
  branch_good entry = record { made = entry_made; plain = record { numbers = tt; atoms = tt; ascend = tt }; next = omega arith }
  branch_good (silent {p} {s} {picks} {ns} n place b i e) = (let g = branch_good b in good_next p s ns n place g.made (silent_step p s ns i) e (silent_plain p s ns n place g.made g.plain g.next i e))
  branch_good (failed {p} {s} {picks} {ns} n b i e) = (let g = branch_good b in good_next p s ns n 0 g.made (step.S10, i) e (null_plain p s ns n g.plain g.next i e))
  branch_good (made {p} {s} {picks} {ns} n b i e) = (let g = branch_good b in good_next p s ns n 1 g.made (step.S10, i) e (made_plain p s ns n g.plain g.next i e))

  numbers_along : (laws' : RunLaws) (v : Valuation) {p : PointId} {s : State} {picks : Picks} (b : IsExactBranch flow p s picks) → NumbersAlong laws' flow defs v b
  unfolding NumbersAlong
  numbers_along laws' v entry = tt
  numbers_along laws' v (silent {p} {s} {picks} {ns} n place b i e) = (let g = branch_good b in (numbers_along laws' v b, silent_numbers laws' v p s ns g.made g.plain g.next i))
  numbers_along laws' v (failed n b i e) = numbers_along laws' v b
  numbers_along laws' v (made n b i e) = numbers_along laws' v b

  -- ---- the theorem

  -- the script of an alarm, by what is entailed in its state
  unfoldable pub value_of_state : (s : State) (know : Test) → IsGood s → s.next ≤ 4611686018427387904 → Valuation
  value_of_state s know g short = least_valuation (pure_of s) know (is_plain s g.plain (has_starts s g.made) short)

  bases_are : (p : PointId) (s : State) → IsGood s → (y : VarId) (n : NodeId) → var_node s y ≡ Some n → (x : VarId) (shape : StructId) (f : ℕ) (o : Operand) (q : PointId)
      → (code_at flow p ≡ Some (instr.Load x y shape f q)) ⊎ ((code_at flow p ≡ Some (instr.Store y shape f o q)) ⊎ ((o ≡ Var y) × (code_at flow p ≡ Some (instr.Free o q)))) → HasKind s.kinds Ptr n
  bases_are p s g y n e x shape f o q (inl is) = var_kind s.kinds flow.vars s.env y.0 Ptr n g.made.fits_program.vars_fit (fits p (instr.Load x y shape f q) is).2 e
  bases_are p s g y n e x shape f o q (inr (inl is)) = var_kind s.kinds flow.vars s.env y.0 Ptr n g.made.fits_program.vars_fit (fits p (instr.Store y shape f o q) is).1 e
  bases_are p s g y n e x shape f o q (inr (inr is)) =
      let k : IsOperand flow.vars Ptr (Var y) = subst (λ (z : Operand). IsOperand flow.vars Ptr z) is.0 (fits p (instr.Free o q) is.1) in
      var_kind s.kinds flow.vars s.env y.0 Ptr n g.made.fits_program.vars_fit k e

  pub alarms_are_real : (laws' : RunLaws) (p : PointId) (s : State) (picks : Picks) (b : IsExactBranch flow p s picks) (know : Test) → Tells know s
      → (gap : Gap) → IsUnmet flow defs p s gap → ((pred : PredId) (n : NodeId) → gap ≡ NoShape pred n → ⊥) → (short : s.next ≤ 4611686018427387904)
      → (let v = value_of_state s know (branch_good b) short in FaultsWith flow defs p (answers v picks ++ []) (suc (lines_of laws' flow defs v b)))
  unfolding value_of_state
  alarms_are_real laws' p s picks b know tells gap unmet other short =
      let g = branch_good b in
      let plain = is_plain s g.plain (has_starts s g.made) short in
      let v = least_valuation (pure_of s) know plain in
      let holds : IsTrueIn v s = true_in v s (least_is_true (pure_of s) know plain tells unmet.consistent) in
      let came = branch_runs laws' flow defs v b (numbers_along laws' v b) holds [] in
      let apart : AreSeparate v s = record {
        ids = g.made.bounded.ids;
        starts = λ id n own fields there. start_all (λ (m : NodeId). HasKind s.kinds Ptr m) s.graph.edges id n own fields there (has_starts s g.made);
        separates = λ a c ka kc same. least_separates (pure_of s) know plain a c tells ka kc same;
      } in
      faults_at flow defs v p s picks (lines_of laws' flow defs v b) laws' came
      (unmet_faults laws' flow defs v came.config p s came.exactly holds apart (bases_are p s g) (λ k q is. fits p (instr.Free (Const k) q) is) gap [] other unmet)
