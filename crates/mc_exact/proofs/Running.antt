-- The run comes to what an exact branch says, where that is true.
use Rattle.std.proofs.Common.{◌≡◌, ◌⊎◌, ℕ, zero, suc, ℤ, pos, ◌+ℤ◌, ◌-ℤ◌, ◌*ℤ◌, Option, Some, None, List, [], ◌∷◌, ◌++◌, length, slice_get, slice_set, refl, sym, ap, ◌∙◌, subst, arith, inl, inr}
use Rattle.std.specs.FinMap.{get-empty}
use Rattle.std.specs.Ordering.{nat_cmp}
use Rattle.mc_base.specs.declared.ids.NodeId.{NodeId}
use Rattle.mc_base.specs.declared.ids.PointId.{PointId}
use Rattle.mc_base.specs.declared.ids.VarId.{VarId}
use Rattle.mc_base.specs.declared.plain.Kind.TheVariants.{Int}
use Rattle.mc_base.specs.declared.plain.Atom.{Atom}
use Rattle.mc_base.specs.declared.plain.Atom.TheVariants.{Eq, Ne}
use Rattle.mc_base.specs.Nodes.{Valuation, null}
use Rattle.mc_base.specs.declared.ranges.Range.{Range}
use Rattle.mc_flow.specs.Heap.Choices.{Choice, malloc}
use Rattle.mc_flow.specs.declared.defs.rules.Def.{Def}
use Rattle.mc_flow.specs.declared.graph.Flow.{Flow}
use Rattle.mc_flow.specs.declared.instr.Operand.{Operand}
use Rattle.mc_flow.specs.Runs.{next}
use Rattle.mc_flow.specs.Steps.{Config, start, Step, field_count}
use Rattle.mc_flow.specs.Values.{address}
use Rattle.mc_state.specs.declared.graph.edge.Edge.TheVariants as edge
use Rattle.mc_state.specs.Graph.Graph.{Graph, edge_with, without, replaced, block_starts}
use Rattle.mc_state.specs.State.{State, with_var, without_vars, next_node, with_nodes, with_atoms, with_atom, with_only_edges, with_block}
use Rattle.mc_rules_steps.specs.Next.{Next}
use Rattle.mc_rules_steps.specs.Operands.{with_operand}
use Rattle.mc_rules_steps.specs.Steps.{moved_to, freed_atoms, S10Is, le_atoms, gt_atoms, Computes, range_atoms}
use Rattle.mc_exact.specs.Exact as rule
use Rattle.mc_exact.specs.Exact.{Picks, IsExactBranch, entry, failed, made, IsSilent, silent}
use Rattle.mc_exact.proofs.Exactly.{answer, answers, ComesHere, IsExactly, IsTrueIn}
use Rattle.mc_exact.proofs.Stored.{one_item}
use Rattle.mc_exact.proofs.Lists.{fresh_by}
use Rattle.mc_exact.proofs.Back.{operand_true, less_true, without_true, freed_back, stored_back, block_back}
use Rattle.mc_exact.proofs.LowerLaws.{RunLaws}
use Rattle.mc_exact.proofs.Instructions.{first_is}
use Rattle.mc_exact.proofs.Going.{append_none, operand_edges, AreNumbers, silent_goes, null_goes, made_goes}

module _ (laws : RunLaws) (flow : Flow) (defs : List Def) (v : Valuation) where
  -- ---- what is true after a rule was true before it

  operands_back : (s t : State) (o o' : Operand) → t ≡ with_operand (with_operand s o) o' → IsTrueIn v t → IsTrueIn v s
  operands_back s t o o' is h = operand_true v s o (operand_true v (with_operand s o) o' (subst (λ (u : State). IsTrueIn v u) is h))

  more_back : (t : State) (fs : List Atom) → IsTrueIn v (with_atoms t fs) → IsTrueIn v t
  more_back t fs h = less_true v t (with_atoms t fs) [] fs (sym (append_none t.kinds)) refl refl h

  moved_back : (n : Next) (q : PointId) (t : State) → moved_to q t ≡ n → IsTrueIn v n.state → IsTrueIn v t
  moved_back n q t same h = subst (λ (m : Next). IsTrueIn v m.state) (sym same) h

  var_back : (t : State) (x : VarId) (m : Option NodeId) → IsTrueIn v (with_var t x m) → IsTrueIn v t
  var_back t x m h = record { null = h.null; kinds = h.kinds; atoms = h.atoms; starts = h.starts; apart = h.apart }

  computes_back : (op : ℤ → ℤ → ℤ) (offsets : NodeId → NodeId → NodeId → Range → Range → List Atom) (x : VarId) (o o' : Operand) (q : PointId) (s : State) (ns : List Next) (n : Next) (place : ℕ)
      → Computes op offsets x o o' q s ns → slice_get ns place ≡ Some n → IsTrueIn v n.state → IsTrueIn v s
  computes_back op offsets x o o' q s ns n place m e holds =
      let t = m.before in
      let atoms = range_atoms op (next_node t) m.left m.right m.results ++ offsets (next_node t) m.a m.b m.left m.right in
      let u = with_atoms (with_var (with_nodes t (Int ∷ [])) x (Some (next_node t))) atoms in
      let h = moved_back n q u (first_is n (moved_to q u) ns place e m.gives) holds in
      operands_back s t o o' m.operands (less_true v t u ((next_node t, Int) ∷ []) atoms refl refl refl h)

  two_back : (n a b : Next) (ns : List Next) (place : ℕ) → ns ≡ a ∷ b ∷ [] → slice_get ns place ≡ Some n → (a ≡ n) ⊎ (b ≡ n)
  two_back n a b ns place is e = by place (subst (λ (l : List Next). slice_get l place ≡ Some n) is e)
    where
      by : (place : ℕ) → slice_get (a ∷ b ∷ []) place ≡ Some n → (a ≡ n) ⊎ (b ≡ n)
      by zero h = inl (one_item a n h)
      by (suc zero) h = inr (one_item b n h)
      by (suc (suc k)) h = cc

  pub silent_back : (p : PointId) (s : State) (ns : List Next) (n : Next) (place : ℕ) → IsSilent flow p s ns → slice_get ns place ≡ Some n → IsTrueIn v n.state → IsTrueIn v s
  silent_back p s ns n place (rule.S1 i) e holds = moved_back n i.q s (first_is n (moved_to i.q s) ns place e i.gives) holds
  silent_back p s ns n place (rule.S2 i) e holds =
      let t = with_operand s i.from in
      operand_true v s i.from (var_back t i.x (Some i.n) (moved_back n i.q (with_var t i.x (Some i.n)) (first_is n (moved_to i.q (with_var t i.x (Some i.n))) ns place e i.gives) holds))
  silent_back p s ns n place (rule.S3 i) e holds = without_true v s i.xs (moved_back n i.q (without_vars s i.xs) (first_is n (moved_to i.q (without_vars s i.xs)) ns place e i.gives) holds)
  silent_back p s ns n place (rule.S5 i) e holds = computes_back (λ a b. a +ℤ b) _ i.x i.o i.o' i.q s ns n place i.computes e holds
  silent_back p s ns n place (rule.S6 i) e holds = computes_back (λ a b. a -ℤ b) _ i.x i.o i.o' i.q s ns n place i.computes e holds
  silent_back p s ns n place (rule.S7 i) e holds = computes_back (λ a b. a *ℤ b) _ i.x i.o i.o' i.q s ns n place i.computes e holds
  silent_back p s ns n place (rule.S8 i) e holds = var_back s i.x (Some i.m) (moved_back n i.q (with_var s i.x (Some i.m)) (first_is n (moved_to i.q (with_var s i.x (Some i.m))) ns place e i.gives) holds)
  silent_back p s ns n place (rule.S9 i) e holds =
      let t = with_operand s i.from in
      let b = i.block in
      let others = slice_set b.fields i.f (Some i.m) in
      let to = λ (u : State). record u { graph = record u.graph { edges = replaced u.graph.edges b.id (edge.Block b.at i.shape others) } } in
      let gives = subst (λ (u : State). ns ≡ moved_to i.q (to u) ∷ []) i.operand i.gives in
      let listed : edge_with t.graph.edges b.id ≡ Some (edge.Block b.at i.shape b.fields) = ap (λ (g : Graph). edge_with g.edges b.id) (operand_edges laws flow defs v s i.from) ∙ b.there in
      operand_true v s i.from (stored_back v t b.id b.at i.shape b.fields others listed (moved_back n i.q (to t) (first_is n (moved_to i.q (to t)) ns place e gives) holds))
  silent_back p s ns n place (rule.S11 i) e holds = operand_true v s i.from (moved_back n i.q (with_operand s i.from) (first_is n (moved_to i.q (with_operand s i.from)) ns place e i.gives) holds)
  silent_back p s ns n place (rule.S12 i) e holds =
      let b = i.block in
      let t = i.before in
      let es = without t.graph.edges b.id in
      let to = with_atoms (with_only_edges t es) (freed_atoms b.at (block_starts es)) in
      let before = freed_back v t b.id b.at i.shape b.fields b.there (moved_back n i.q to (first_is n (moved_to i.q to) ns place e i.gives) holds) in
      operand_true v s i.from (subst (λ (u : State). IsTrueIn v u) i.operand before)
  silent_back p s ns n place (rule.S13 i) e holds = elim (two_back n (moved_to i.t (with_atom i.before (Eq i.a i.b (pos 0)))) (moved_to i.f (with_atom i.before (Ne i.a i.b (pos 0)))) ns place i.gives e) [
    | inl h ↦ operands_back s i.before i.o i.o' i.operands (more_back i.before (Eq i.a i.b (pos 0) ∷ []) (moved_back n i.t (with_atom i.before (Eq i.a i.b (pos 0))) h holds))
    | inr h ↦ operands_back s i.before i.o i.o' i.operands (more_back i.before (Ne i.a i.b (pos 0) ∷ []) (moved_back n i.f (with_atom i.before (Ne i.a i.b (pos 0))) h holds))
  ]
  silent_back p s ns n place (rule.S14 i) e holds = elim (two_back n (moved_to i.t (with_atoms i.before (le_atoms i.a i.b i.left i.right))) (moved_to i.f (with_atoms i.before (gt_atoms i.a i.b i.left i.right))) ns place i.gives e) [
    | inl h ↦ operands_back s i.before i.o i.o' i.operands (more_back i.before (le_atoms i.a i.b i.left i.right) (moved_back n i.t (with_atoms i.before (le_atoms i.a i.b i.left i.right)) h holds))
    | inr h ↦ operands_back s i.before i.o i.o' i.operands (more_back i.before (gt_atoms i.a i.b i.left i.right) (moved_back n i.f (with_atoms i.before (gt_atoms i.a i.b i.left i.right)) h holds))
  ]
  silent_back p s ns n place (rule.S18 i) e holds = moved_back n i.q s (first_is n (moved_to i.q s) ns place e i.gives) holds

  pub null_back : (p : PointId) (s : State) (ns : List Next) (n : Next) → S10Is flow p s ns → slice_get ns 0 ≡ Some n → IsTrueIn v n.state → IsTrueIn v s
  null_back p s ns n i e holds =
      var_back s i.x (Some null) (moved_back n i.q (with_var s i.x (Some null)) (one_item _ n (sym (ap (λ (l : List Next). slice_get l 0) i.gives) ∙ e)) holds)

  pub made_back : (p : PointId) (s : State) (ns : List Next) (n : Next) → S10Is flow p s ns → slice_get ns 1 ≡ Some n → IsTrueIn v n.state → IsTrueIn v s
  made_back p s ns n i e holds =
      let t = with_block s i.shape (field_count flow.structs i.shape) in
      (block_back v s i.shape (field_count flow.structs i.shape) (var_back t i.x (Some (next_node s)) (moved_back n i.q (with_var t i.x (Some (next_node s))) (one_item _ n (sym (ap (λ (l : List Next). slice_get l 1) i.gives) ∙ e)) holds))).0

  -- ---- branches

  -- the numbers along a branch
  unfoldable pub NumbersAlong : {p : PointId} {s : State} {picks : Picks} → IsExactBranch flow p s picks → Type 0
  NumbersAlong entry = Unit {0}
  NumbersAlong (silent {p} {s} {picks} {ns} n place b i e) = NumbersAlong b × AreNumbers laws flow defs v p s ns i
  NumbersAlong (failed n b i e) = NumbersAlong b
  NumbersAlong (made n b i e) = NumbersAlong b

  -- how many lines a branch has
  unfoldable pub lines_of : {p : PointId} {s : State} {picks : Picks} → IsExactBranch flow p s picks → ℕ
  lines_of entry = 0
  lines_of (silent n place b i e) = suc (lines_of b)
  lines_of (failed n b i e) = suc (lines_of b)
  lines_of (made n b i e) = suc (lines_of b)

  comes_on : (k : ℕ) (choices middle rest : List Choice) (c d : Config) → ComesHere flow defs k choices c middle → Step flow defs c middle (next d rest) → ComesHere flow defs (suc k) choices d rest
  comes_on k choices middle rest c d here step n f r =
      let came = here (suc n) f (inr (d, rest, step, r)) in
      (came.0, (let le = came.1 in omega arith), came.2)

  answers_more : (picks : Picks) (x : Option NodeId) (rest : List Choice) → answers v (picks ++ x ∷ []) ++ rest ≡ answers v picks ++ answer v x ∷ rest
  answers_more [] x rest = refl
  answers_more (y ∷ picks) x rest = ap (λ (l : List Choice). answer v y ∷ l) (answers_more picks x rest)

  -- the run comes to what the branch says
  pub record ComesTo (p : PointId) (s : State) (picks : Picks) (k : ℕ) (rest : List Choice) : Type 0 where
    pub config : Config
    pub exactly : IsExactly v config p s
    pub comes : ComesHere flow defs k (answers v picks ++ rest) config rest

  pub branch_runs : {p : PointId} {s : State} {picks : Picks} (b : IsExactBranch flow p s picks) → NumbersAlong b → IsTrueIn v s → (rest : List Choice) → ComesTo p s picks (lines_of b) rest
  unfolding NumbersAlong lines_of
  branch_runs entry numbers holds rest = record {
    config = start flow;
    exactly = record { point = refl; vars = sym (fresh_by v (length flow.vars)); heap = λ a. get-empty nat_cmp a; blocks = tt; whole = refl };
    comes = λ n f r. (n, omega arith, r);
  }
  branch_runs (silent {p} {s} {picks} {ns} n place b i e) numbers holds rest =
      let before = silent_back p s ns n place i e holds in
      let came = branch_runs b numbers.0 before rest in
      let g = silent_goes laws flow defs v came.config p s ns n place rest came.exactly before i numbers.1 e holds in
      record { config = g.0; exactly = g.2; comes = comes_on (lines_of b) (answers v picks ++ rest) rest rest came.config g.0 came.comes g.1 }
  branch_runs (failed {p} {s} {picks} {ns} n b i e) numbers holds rest =
      let before = null_back p s ns n i e holds in
      let came = branch_runs b numbers before (malloc 0 ∷ rest) in
      let g = null_goes laws flow defs v came.config p s ns n rest came.exactly i e holds in
      record { config = g.0; exactly = g.2; comes = subst (λ (l : List Choice). ComesHere flow defs (suc (lines_of b)) l g.0 rest) (sym (answers_more picks None rest)) (comes_on (lines_of b) (answers v picks ++ malloc 0 ∷ rest) (malloc 0 ∷ rest) rest came.config g.0 came.comes g.1) }
  branch_runs (made {p} {s} {picks} {ns} n b i e) numbers holds rest =
      let before = made_back p s ns n i e holds in
      let middle = malloc (address (v s.next)) ∷ rest in
      let came = branch_runs b numbers before middle in
      let g = made_goes laws flow defs v came.config p s ns n rest came.exactly i e holds in
      record { config = g.0; exactly = g.2; comes = subst (λ (l : List Choice). ComesHere flow defs (suc (lines_of b)) l g.0 rest) (sym (answers_more picks (Some (next_node s)) rest)) (comes_on (lines_of b) (answers v picks ++ middle) middle rest came.config g.0 came.comes g.1) }
