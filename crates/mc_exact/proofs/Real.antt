-- Alarms of exact branches are real: the theorem in its own words.
use Rattle.std.proofs.Common.{◌≡◌, ◌<◌, ◌≤◌, ◌+◌, ℕ, zero, suc, ℤ, pos, Bool, true, false, Option, Some, None, List, [], ◌∷◌, ◌++◌, map, option_map, length, slice_get, slice_set, if◌then◌else◌, refl, sym, ap, ap₂, ◌∙◌, subst, arith, inr, ◌*◌}
use Rattle.std.specs.Ordering.{int_eq}
use Rattle.std.specs.List.{AllByRecursion}
use Rattle.mc_base.specs.declared.ids.NodeId.{NodeId}
use Rattle.mc_base.specs.declared.ids.PointId.{PointId}
use Rattle.mc_base.specs.declared.ids.VarId.{VarId}
use Rattle.mc_base.specs.declared.plain.Kind.TheVariants.{Int, Ptr}
use Rattle.mc_base.specs.declared.plain.Atom.{Atom}
use Rattle.mc_base.specs.declared.plain.Atom.TheVariants.{Eq, Ne}
use Rattle.mc_base.specs.Nodes.{null}
use Rattle.mc_base.specs.declared.ranges.Range.{Range}
use Rattle.mc_flow.specs.Heap.Choices.{Choice, malloc}
use Rattle.mc_flow.specs.declared.defs.rules.Def.{Def}
use Rattle.mc_flow.specs.declared.graph.Flow.{Flow}
use Rattle.mc_flow.specs.declared.graph.Point.{Point}
use Rattle.mc_flow.specs.declared.instr.Instr.{Instr}
use Rattle.mc_flow.specs.declared.instr.Operand.{Operand}
use Rattle.mc_flow.specs.declared.instr.Operand.TheVariants.{Var, Const}
use Rattle.mc_flow.specs.Runs.{fault, Reaches}
use Rattle.mc_flow.specs.Steps.{start, Step, field_count}
use Rattle.mc_flow.specs.Values.{address}
use Rattle.mc_flow.specs.Valid.{IsValid}
use Rattle.mc_pure.specs.Pure.{HasKind}
use Rattle.mc_state.specs.declared.graph.edge.Edge.TheVariants as edge
use Rattle.mc_state.specs.Graph.Graph.{without, replaced, block_starts}
use Rattle.mc_state.specs.Known.{Test, Tells}
use Rattle.mc_state.specs.State.{State, pure_of, with_var, without_vars, next_node, with_nodes, with_number, with_atoms, with_atom, with_only_edges, with_block}
use Rattle.mc_state.proofs.Lists.{all_append}
use Rattle.mc_rules_steps.specs.Next.{Next}
use Rattle.mc_rules_steps.specs.Operands.{code_at, with_operand}
use Rattle.mc_rules_steps.specs.Steps.{moved_to, freed_atoms, le_atoms, gt_atoms, Computes, range_atoms}
use Rattle.mc_exact.specs.Least.{IsPlain, least_valuation}
use Rattle.mc_exact.specs.Exact as rule
use Rattle.mc_exact.specs.Exact.{Picks, IsExactBranch, entry, failed, made, IsSilent, silent}
use Rattle.mc_exact.proofs.LeastNodes.{pointer_is}
use Rattle.mc_exact.proofs.Exactly.{answers}
use Rattle.mc_exact.proofs.Stored.{one_item}
use Rattle.mc_exact.proofs.LowerLaws.{RunLaws, StateLaws}
use Rattle.mc_exact.proofs.Instructions.{first_is}
use Rattle.mc_exact.specs.Real.{scripted, AlarmsAreReal}
use Rattle.mc_exact.proofs.Plain.{is_plain, has_more, above}
use Rattle.mc_exact.proofs.Whole.{branch_good, value_of_state, alarms_are_real, has_starts}
use Rattle.mc_exact.proofs.Short.{branch_short}

-- ---- kinds grow along a branch

abbrev Grows : State → State → Type 0
Grows s t = (m : NodeId) → HasKind s.kinds Ptr m → HasKind t.kinds Ptr m

operand_grows : (s : State) (o : Operand) → Grows s (with_operand s o)
operand_grows s (Var x) m h = h
operand_grows s (Const k) m h = by (int_eq k (pos 0))
  where
    by : (b : Bool) → HasKind (if b then s else with_number s k).kinds Ptr m
    by true = h
    by false = has_more s.kinds ((next_node s, Int) ∷ []) Ptr m h

operands_grow : (s t : State) (o o' : Operand) → t ≡ with_operand (with_operand s o) o' → Grows s t
operands_grow s t o o' is m h = subst (λ (u : State). HasKind u.kinds Ptr m) (sym is) (operand_grows (with_operand s o) o' m (operand_grows s o m h))

without_grows : (s : State) (xs : List VarId) → Grows s (without_vars s xs)
without_grows s [] m h = h
without_grows s (x ∷ xs) m h = without_grows (with_var s x None) xs m h

grown_one : (n : Next) (q : PointId) (s t : State) (ns : List Next) (place : ℕ) → slice_get ns place ≡ Some n → ns ≡ moved_to q t ∷ [] → Grows s t → Grows s n.state
grown_one n q s t ns place e gives g = subst (λ (k : Next). Grows s k.state) (first_is n (moved_to q t) ns place e gives) g

grown_two : (n : Next) (q r : PointId) (s t u : State) (ns : List Next) (place : ℕ) → slice_get ns place ≡ Some n → ns ≡ moved_to q t ∷ moved_to r u ∷ [] → Grows s t → Grows s u → Grows s n.state
grown_two n q r s t u ns place e gives g h = by place (subst (λ (l : List Next). slice_get l place ≡ Some n) gives e)
  where
    by : (place : ℕ) → slice_get (moved_to q t ∷ moved_to r u ∷ []) place ≡ Some n → Grows s n.state
    by zero k = subst (λ (x : Next). Grows s x.state) (one_item (moved_to q t) n k) g
    by (suc zero) k = subst (λ (x : Next). Grows s x.state) (one_item (moved_to r u) n k) h
    by (suc (suc i)) k = cc

computes_grow : (op : ℤ → ℤ → ℤ) (offsets : NodeId → NodeId → NodeId → Range → Range → List Atom) (x : VarId) (o o' : Operand) (q : PointId) (s : State) (ns : List Next) (n : Next) (place : ℕ)
    → Computes op offsets x o o' q s ns → slice_get ns place ≡ Some n → Grows s n.state
computes_grow op offsets x o o' q s ns n place m e =
    grown_one n q s (with_atoms (with_var (with_nodes m.before (Int ∷ [])) x (Some (next_node m.before))) (range_atoms op (next_node m.before) m.left m.right m.results ++ offsets (next_node m.before) m.a m.b m.left m.right)) ns place e m.gives
    (λ k h. has_more m.before.kinds ((next_node m.before, Int) ∷ []) Ptr k (operands_grow s m.before o o' m.operands k h))

module _ (flow : Flow) where
  silent_grows : (p : PointId) (s : State) (ns : List Next) (n : Next) (place : ℕ) → IsSilent flow p s ns → slice_get ns place ≡ Some n → Grows s n.state
  silent_grows p s ns n place (rule.S1 i) e = grown_one n i.q s s ns place e i.gives (λ m h. h)
  silent_grows p s ns n place (rule.S2 i) e = grown_one n i.q s (with_var (with_operand s i.from) i.x (Some i.n)) ns place e i.gives (operand_grows s i.from)
  silent_grows p s ns n place (rule.S3 i) e = grown_one n i.q s (without_vars s i.xs) ns place e i.gives (without_grows s i.xs)
  silent_grows p s ns n place (rule.S5 i) e = computes_grow _ _ i.x i.o i.o' i.q s ns n place i.computes e
  silent_grows p s ns n place (rule.S6 i) e = computes_grow _ _ i.x i.o i.o' i.q s ns n place i.computes e
  silent_grows p s ns n place (rule.S7 i) e = computes_grow _ _ i.x i.o i.o' i.q s ns n place i.computes e
  silent_grows p s ns n place (rule.S8 i) e = grown_one n i.q s (with_var s i.x (Some i.m)) ns place e i.gives (λ m h. h)
  silent_grows p s ns n place (rule.S9 i) e =
      let b = i.block in
      let to = λ (u : State). record u { graph = record u.graph { edges = replaced u.graph.edges b.id (edge.Block b.at i.shape (slice_set b.fields i.f (Some i.m))) } } in
      let gives = subst (λ (u : State). ns ≡ moved_to i.q (to u) ∷ []) i.operand i.gives in
      grown_one n i.q s (to (with_operand s i.from)) ns place e gives (operand_grows s i.from)
  silent_grows p s ns n place (rule.S11 i) e = grown_one n i.q s (with_operand s i.from) ns place e i.gives (operand_grows s i.from)
  silent_grows p s ns n place (rule.S12 i) e =
      grown_one n i.q s (with_atoms (with_only_edges i.before (without i.before.graph.edges i.block.id)) (freed_atoms i.block.at (block_starts (without i.before.graph.edges i.block.id)))) ns place e i.gives
      (λ m h. subst (λ (u : State). HasKind u.kinds Ptr m) (sym i.operand) (operand_grows s i.from m h))
  silent_grows p s ns n place (rule.S13 i) e = (let g = operands_grow s i.before i.o i.o' i.operands in grown_two n i.t i.f s (with_atom i.before (Eq i.a i.b (pos 0))) (with_atom i.before (Ne i.a i.b (pos 0))) ns place e i.gives g g)
  silent_grows p s ns n place (rule.S14 i) e = (let g = operands_grow s i.before i.o i.o' i.operands in grown_two n i.t i.f s (with_atoms i.before (le_atoms i.a i.b i.left i.right)) (with_atoms i.before (gt_atoms i.a i.b i.left i.right)) ns place e i.gives g g)
  silent_grows p s ns n place (rule.S18 i) e = grown_one n i.q s s ns place e i.gives (λ m h. h)

  -- what was picked is a pointer
  abbrev pub MayPoint : State → Option NodeId → Type 0
  MayPoint s None = Unit {0}
  MayPoint s (Some n) = HasKind s.kinds Ptr n

  grow_all : (s t : State) (picks : Picks) → Grows s t → AllByRecursion (MayPoint s) picks → AllByRecursion (MayPoint t) picks
  grow_all s t [] g all = tt
  grow_all s t (None ∷ picks) g all = (tt, grow_all s t picks g all.1)
  grow_all s t (Some n ∷ picks) g all = (g n all.0, grow_all s t picks g all.1)

  module _ (defs : List Def) (valid : IsValid flow defs) (laws : StateLaws) where
    pub picks_point : {p : PointId} {s : State} {picks : Picks} → IsExactBranch flow p s picks → AllByRecursion (MayPoint s) picks
    picks_point entry = tt
    picks_point (silent {p} {s} {picks} {ns} n place b i e) = grow_all s n.state picks (silent_grows p s ns n place i e) (picks_point b)
    picks_point (failed {p} {s} {picks} {ns} n b i e) =
        let same = one_item _ n (sym (ap (λ (l : List Next). slice_get l 0) i.gives) ∙ e) in
        subst (λ (k : Next). AllByRecursion (MayPoint k.state) (picks ++ None ∷ [])) same
        (all_append (MayPoint (with_var s i.x (Some null))) picks (None ∷ []) (grow_all s (with_var s i.x (Some null)) picks (λ m h. h) (picks_point b)) (tt, tt))
    picks_point (made {p} {s} {picks} {ns} n b i e) =
        let g = branch_good flow defs valid laws b in
        let t = with_var (with_block s i.shape (field_count flow.structs i.shape)) i.x (Some (next_node s)) in
        let same = one_item (moved_to i.q t) n (sym (ap (λ (l : List Next). slice_get l 1) i.gives) ∙ e) in
        subst (λ (k : Next). AllByRecursion (MayPoint k.state) (picks ++ Some (next_node s) ∷ [])) same
        (all_append (MayPoint t) picks (Some (next_node s) ∷ []) (grow_all s t picks (λ m h. has_more s.kinds ((next_node s, Ptr) ∷ []) Ptr m h) (picks_point b)) (inr (above 1 s.kinds s.next Ptr g.plain.ascend), tt))

-- by the valuation of least nodes a pointer's address is the number of its least node
scripts_are : (flow : Flow) (s : State) (know : Test) (tells : Tells know s) (plain : IsPlain (pure_of s)) (picks : Picks) → AllByRecursion (MayPoint flow s) picks
    → answers (least_valuation (pure_of s) know plain) picks ++ [] ≡ map (scripted know) picks
scripts_are flow s know tells plain [] all = refl
scripts_are flow s know tells plain (None ∷ picks) all = ap (λ (l : List Choice). malloc 0 ∷ l) (scripts_are flow s know tells plain picks all.1)
scripts_are flow s know tells plain (Some n ∷ picks) all =
    ap₂ (λ (a : ℕ) (l : List Choice). malloc a ∷ l) (ap address (pointer_is (pure_of s) know tells plain n all.0)) (scripts_are flow s know tells plain picks all.1)

-- an instruction's point is in the flow graph
pub point_inside : (flow : Flow) (p : PointId) (code : Instr) → code_at flow p ≡ Some code → p.0 < length flow.points
point_inside flow p code e = in_list flow.points p.0 (slice_get flow.points p.0) refl e
  where
    in_list : (ps : List Point) (i : ℕ) (o : Option Point) → slice_get ps i ≡ o → option_map (λ point. point.code) o ≡ Some code → i < length ps
    in_list ps i None e h = cc
    in_list ps i (Some x) e h = inside ps i x e
      where
        inside : (ps : List Point) (i : ℕ) (x : Point) → slice_get ps i ≡ Some x → i < length ps
        inside [] i x e = cc
        inside (y ∷ ys) zero x e = omega arith
        inside (y ∷ ys) (suc i) x e = (let l = inside ys i x e in omega arith)

pub alarms_of_branches : RunLaws → StateLaws → AlarmsAreReal
unfolding value_of_state
alarms_of_branches laws states flow defs p s picks know gap valid size b tells unmet other =
    let g = branch_good flow defs valid states b in
    let inside : p.0 < length flow.points = point_inside flow p unmet.code unmet.at in
    let n : s.next ≤ 1 + 3 * p.0 = (branch_short flow defs valid size.no_loops laws (λ m. pos m) b).1 in
    let few = size.few in
    let short : s.next ≤ 4611686018427387904 = omega arith in
    let v = value_of_state flow defs valid states s know g short in
    let f = alarms_are_real flow defs valid states laws p s picks b know tells gap unmet other short in
    let lines = (branch_short flow defs valid size.no_loops laws v b).0 in
    let script = scripts_are flow s know tells (is_plain s g.plain (has_starts flow defs valid states s g.made) short) picks (picks_point flow defs valid states b) in
    (f.0, f.1, f.2, f.3, (let le = f.4 in omega arith), subst (λ (l : List Choice). Reaches (Step flow defs) f.2 (start flow) l (fault f.1 f.0.place)) script f.5)
