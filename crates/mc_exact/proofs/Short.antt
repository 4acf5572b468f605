-- Exact branches of flow graphs without loops are short.
use Rattle.std.proofs.Common.{◌≡◌, ◌<◌, ◌≤◌, ◌+◌, ℕ, zero, suc, ℤ, pos, Bool, true, false, Option, Some, None, List, [], ◌∷◌, ◌++◌, option_map, slice_get, slice_set, if◌then◌else◌, refl, sym, subst, arith, inl, inr, ◌*◌}
use Rattle.std.specs.Prelude.{Contains, All}
use Rattle.std.specs.Ordering.{int_eq}
use Rattle.mc_base.specs.declared.ids.NodeId.{NodeId}
use Rattle.mc_base.specs.declared.ids.PointId.{PointId}
use Rattle.mc_base.specs.declared.ids.VarId.{VarId}
use Rattle.mc_base.specs.declared.plain.Kind.TheVariants.{Int}
use Rattle.mc_base.specs.declared.plain.Atom.{Atom}
use Rattle.mc_base.specs.declared.plain.Atom.TheVariants.{Eq, Ne}
use Rattle.mc_base.specs.Nodes.{Valuation, null}
use Rattle.mc_base.specs.declared.ranges.Range.{Range}
use Rattle.mc_flow.specs.declared.defs.rules.Def.{Def}
use Rattle.mc_flow.specs.declared.graph.Flow.{Flow}
use Rattle.mc_flow.specs.declared.graph.Point.{Point}
use Rattle.mc_flow.specs.declared.instr.Instr.{Instr}
use Rattle.mc_flow.specs.declared.instr.Instr.TheVariants as instr
use Rattle.mc_flow.specs.declared.instr.Operand.{Operand}
use Rattle.mc_flow.specs.declared.instr.Operand.TheVariants.{Var, Const}
use Rattle.mc_flow.specs.Steps.{field_count}
use Rattle.mc_flow.specs.Valid.{IsValid, targets, GoesOn}
use Rattle.mc_state.specs.declared.graph.edge.Edge.TheVariants as edge
use Rattle.mc_state.specs.Graph.Graph.{without, replaced, block_starts}
use Rattle.mc_state.specs.State.{State, with_var, without_vars, next_node, with_nodes, with_number, with_atoms, with_atom, with_only_edges, with_block}
use Rattle.mc_rules_steps.specs.Next.{Next}
use Rattle.mc_rules_steps.specs.Operands.{code_at, with_operand}
use Rattle.mc_rules_steps.specs.Steps.{moved_to, freed_atoms, S10Is, le_atoms, gt_atoms, Computes, range_atoms}
use Rattle.mc_exact.specs.Exact as rule
use Rattle.mc_exact.specs.Exact.{Picks, IsExactBranch, entry, failed, made, IsSilent, silent}
use Rattle.mc_exact.proofs.Stored.{one_item}
use Rattle.mc_exact.proofs.LowerLaws.{RunLaws}
use Rattle.mc_exact.proofs.Running.{lines_of}
use Rattle.mc_exact.proofs.Instructions.{first_is}

module _ (flow : Flow) (defs : List Def) (valid : IsValid flow defs) (no_loops : flow.heads ≡ []) where
  -- a point goes on to later ones
  goes_at : (p : PointId) (code : Instr) → code_at flow p ≡ Some code → All (GoesOn flow p.0) (targets code)
  goes_at p code at = by (slice_get flow.points p.0) refl at
    where
      by : (o : Option Point) → slice_get flow.points p.0 ≡ o → option_map (λ (point : Point). point.code) o ≡ Some code → All (GoesOn flow p.0) (targets code)
      by None there e = cc
      by (Some point) there e = subst (λ (z : Instr). All (GoesOn flow p.0) (targets z)) (one_item point.code code e) (valid.points p.0 point there).follows

  later : (p q : PointId) → GoesOn flow p.0 q → p.0 < q.0
  later p q g = elim g.1 [
    | inl lt ↦ lt
    | inr head ↦ (let none : Contains [] q = subst (λ (l : List PointId). Contains l q) no_loops head in absurd (nowhere q none))
  ]
    where
      nowhere : (q : PointId) → Contains [] q → ⊥
      nowhere q h = (let none : h.0 < 0 = h.1 in omega arith)

  to_one : (p q : PointId) (code : Instr) → code_at flow p ≡ Some code → targets code ≡ q ∷ [] → p.0 < q.0
  to_one p q code at only = later p q (subst (All (GoesOn flow p.0)) only (goes_at p code at) 0 q (omega arith))

  to_first : (p q r : PointId) (code : Instr) → code_at flow p ≡ Some code → targets code ≡ q ∷ r ∷ [] → p.0 < q.0
  to_first p q r code at two = later p q (subst (All (GoesOn flow p.0)) two (goes_at p code at) 0 q (omega arith))

  to_second : (p q r : PointId) (code : Instr) → code_at flow p ≡ Some code → targets code ≡ q ∷ r ∷ [] → p.0 < r.0
  to_second p q r code at two = later p r (subst (All (GoesOn flow p.0)) two (goes_at p code at) 1 r (omega arith))

  -- a successor comes later, and has three more nodes at most
  abbrev ComesAfter : PointId → State → Next → Type 0
  ComesAfter p s n = (p.0 < n.point.0) × (n.state.next ≤ s.next + 3)

  one : (p q : PointId) (s t : State) (code : Instr) (ns : List Next) (n : Next) (place : ℕ) → code_at flow p ≡ Some code → targets code ≡ q ∷ [] → slice_get ns place ≡ Some n → ns ≡ moved_to q t ∷ [] → t.next ≤ s.next + 3 → ComesAfter p s n
  one p q s t code ns n place at only e gives le = subst (ComesAfter p s) (first_is n (moved_to q t) ns place e gives) (to_one p q code at only, le)

  two : (p q r : PointId) (s t u : State) (code : Instr) (ns : List Next) (n : Next) (place : ℕ) → code_at flow p ≡ Some code → targets code ≡ q ∷ r ∷ [] → slice_get ns place ≡ Some n → ns ≡ moved_to q t ∷ moved_to r u ∷ []
      → t.next ≤ s.next + 3 → u.next ≤ s.next + 3 → ComesAfter p s n
  two p q r s t u code ns n place at both' e gives le le' = by place (subst (λ (l : List Next). slice_get l place ≡ Some n) gives e)
    where
      by : (place : ℕ) → slice_get (moved_to q t ∷ moved_to r u ∷ []) place ≡ Some n → ComesAfter p s n
      by zero h = subst (ComesAfter p s) (one_item (moved_to q t) n h) (to_first p q r code at both', le)
      by (suc zero) h = subst (ComesAfter p s) (one_item (moved_to r u) n h) (to_second p q r code at both', le')
      by (suc (suc k)) h = cc

  operand_next : (s : State) (o : Operand) → (with_operand s o).next ≤ s.next + 1
  operand_next s (Var x) = omega arith
  operand_next s (Const k) = by (int_eq k (pos 0))
    where
      by : (b : Bool) → (if b then s else with_number s k).next ≤ s.next + 1
      by true = omega arith
      by false = omega arith

  operands_next : (s t : State) (o o' : Operand) → t ≡ with_operand (with_operand s o) o' → t.next ≤ s.next + 2
  operands_next s t o o' is =
      let a = operand_next s o in
      let b = operand_next (with_operand s o) o' in
      subst (λ (u : State). u.next ≤ s.next + 2) (sym is) (omega arith)

  without_next : (s : State) (xs : List VarId) → (without_vars s xs).next ≡ s.next
  without_next s [] = refl
  without_next s (x ∷ xs) = without_next (with_var s x None) xs

  computes_after : (op : ℤ → ℤ → ℤ) (offsets : NodeId → NodeId → NodeId → Range → Range → List Atom) (x : VarId) (o o' : Operand) (q p : PointId) (s : State) (code : Instr) (ns : List Next) (n : Next) (place : ℕ)
      → code_at flow p ≡ Some code → targets code ≡ q ∷ [] → slice_get ns place ≡ Some n → Computes op offsets x o o' q s ns → ComesAfter p s n
  computes_after op offsets x o o' q p s code ns n place at only e m =
      let t = m.before in
      let le = operands_next s t o o' m.operands in
      one p q s (with_atoms (with_var (with_nodes t (Int ∷ [])) x (Some (next_node t))) (range_atoms op (next_node t) m.left m.right m.results ++ offsets (next_node t) m.a m.b m.left m.right)) code ns n place at only e m.gives (omega arith)

  silent_after : (p : PointId) (s : State) (ns : List Next) (n : Next) (place : ℕ) → IsSilent flow p s ns → slice_get ns place ≡ Some n → ComesAfter p s n
  silent_after p s ns n place (rule.S1 i) e = one p i.q s s (instr.Skip i.q) ns n place i.at refl e i.gives (omega arith)
  silent_after p s ns n place (rule.S2 i) e = one p i.q s (with_var (with_operand s i.from) i.x (Some i.n)) (instr.Copy i.x i.from i.q) ns n place i.at refl e i.gives (let le = operand_next s i.from in omega arith)
  silent_after p s ns n place (rule.S3 i) e = one p i.q s (without_vars s i.xs) (instr.Undef i.xs i.q) ns n place i.at refl e i.gives (let same = without_next s i.xs in omega arith)
  silent_after p s ns n place (rule.S5 i) e = computes_after _ _ i.x i.o i.o' i.q p s (instr.Add i.x i.o i.o' i.q) ns n place i.at refl e i.computes
  silent_after p s ns n place (rule.S6 i) e = computes_after _ _ i.x i.o i.o' i.q p s (instr.Sub i.x i.o i.o' i.q) ns n place i.at refl e i.computes
  silent_after p s ns n place (rule.S7 i) e = computes_after _ _ i.x i.o i.o' i.q p s (instr.Mul i.x i.o i.o' i.q) ns n place i.at refl e i.computes
  silent_after p s ns n place (rule.S8 i) e = one p i.q s (with_var s i.x (Some i.m)) (instr.Load i.x i.y i.shape i.f i.q) ns n place i.at refl e i.gives (omega arith)
  silent_after p s ns n place (rule.S9 i) e =
      let b = i.block in
      let to = λ (u : State). record u { graph = record u.graph { edges = replaced u.graph.edges b.id (edge.Block b.at i.shape (slice_set b.fields i.f (Some i.m))) } } in
      let gives = subst (λ (u : State). ns ≡ moved_to i.q (to u) ∷ []) i.operand i.gives in
      one p i.q s (to (with_operand s i.from)) (instr.Store i.y i.shape i.f i.from i.q) ns n place i.at refl e gives (let le = operand_next s i.from in omega arith)
  silent_after p s ns n place (rule.S11 i) e = one p i.q s (with_operand s i.from) (instr.Free i.from i.q) ns n place i.at refl e i.gives (let le = operand_next s i.from in omega arith)
  silent_after p s ns n place (rule.S12 i) e =
      let es = without i.before.graph.edges i.block.id in
      one p i.q s (with_atoms (with_only_edges i.before es) (freed_atoms i.block.at (block_starts es))) (instr.Free i.from i.q) ns n place i.at refl e i.gives
      (let le = subst (λ (u : State). u.next ≤ s.next + 1) (sym i.operand) (operand_next s i.from) in omega arith)
  silent_after p s ns n place (rule.S13 i) e =
      let le = operands_next s i.before i.o i.o' i.operands in
      two p i.t i.f s (with_atom i.before (Eq i.a i.b (pos 0))) (with_atom i.before (Ne i.a i.b (pos 0))) (instr.TestEq i.o i.o' i.t i.f) ns n place i.at refl e i.gives (omega arith) (omega arith)
  silent_after p s ns n place (rule.S14 i) e =
      let le = operands_next s i.before i.o i.o' i.operands in
      two p i.t i.f s (with_atoms i.before (le_atoms i.a i.b i.left i.right)) (with_atoms i.before (gt_atoms i.a i.b i.left i.right)) (instr.TestLe i.o i.o' i.t i.f) ns n place i.at refl e i.gives (omega arith) (omega arith)
  silent_after p s ns n place (rule.S18 i) e = one p i.q s s (instr.AssertEmpty i.q) ns n place i.at refl e i.gives (omega arith)

  malloc_after : (p : PointId) (s : State) (ns : List Next) (n : Next) (place : ℕ) → S10Is flow p s ns → slice_get ns place ≡ Some n → ComesAfter p s n
  malloc_after p s ns n place i e = by place (subst (λ (l : List Next). slice_get l place ≡ Some n) i.gives e)
    where
      by : (place : ℕ) → slice_get (moved_to i.q (with_var s i.x (Some null)) ∷ moved_to i.q (with_var (with_block s i.shape (field_count flow.structs i.shape)) i.x (Some (next_node s))) ∷ []) place ≡ Some n → ComesAfter p s n
      by zero h = subst (ComesAfter p s) (one_item _ n h) (to_one p i.q (instr.Malloc i.x i.shape i.q) i.at refl, omega arith)
      by (suc zero) h = subst (ComesAfter p s) (one_item _ n h) (to_one p i.q (instr.Malloc i.x i.shape i.q) i.at refl, omega arith)
      by (suc (suc k)) h = cc

  -- a branch has as many lines as its point's number at most, and three nodes a line
  pub branch_short : (laws : RunLaws) (v : Valuation) {p : PointId} {s : State} {picks : Picks} (b : IsExactBranch flow p s picks) → (lines_of laws flow defs v b ≤ p.0) × (s.next ≤ 1 + 3 * p.0)
  unfolding lines_of
  branch_short laws v entry = (omega arith, omega arith)
  branch_short laws v (silent {p} {s} {picks} {ns} n place b i e) = (let h = branch_short laws v b in let k = silent_after p s ns n place i e in (omega arith, omega arith))
  branch_short laws v (failed {p} {s} {picks} {ns} n b i e) = (let h = branch_short laws v b in let k = malloc_after p s ns n 0 i e in (omega arith, omega arith))
  branch_short laws v (made {p} {s} {picks} {ns} n b i e) = (let h = branch_short laws v b in let k = malloc_after p s ns n 1 i e in (omega arith, omega arith))
