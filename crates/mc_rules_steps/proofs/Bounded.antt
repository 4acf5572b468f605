-- Numbers of successors are in their bounds.
use Rattle.std.proofs.Common.{◌≡◌, ◌&&◌, ℕ, zero, suc, List, [], ◌∷◌, ◌++◌, map, Bool, true, false, Option, Some, None, replicate, slice_set, refl, sym, subst, inl, ℤ, pos}
use Rattle.std.specs.Prelude.{if◌then◌else◌}
use Rattle.std.specs.List.{AllByRecursion}
use Rattle.mc_base.specs.declared.ids.EdgeId.{EdgeId}
use Rattle.mc_base.specs.declared.ids.NodeId.{NodeId}
use Rattle.mc_base.specs.declared.ids.PointId.{PointId}
use Rattle.mc_base.specs.declared.ids.VarId.{VarId}
use Rattle.mc_base.specs.declared.plain.Atom.{Atom}
use Rattle.mc_base.specs.declared.plain.Atom.TheVariants.{Eq, Ne, In}
use Rattle.mc_base.specs.declared.plain.Kind.TheVariants.{Int, Ptr}
use Rattle.mc_base.specs.Atoms.{nodes_of_atom}
use Rattle.mc_base.specs.Nodes.{null}
use Rattle.mc_flow.specs.declared.graph.Flow.{Flow}
use Rattle.mc_flow.specs.declared.instr.Operand.{Operand}
use Rattle.mc_flow.specs.Steps.{field_count}
use Rattle.mc_flow.specs.Values.{wrapped}
use Rattle.mc_state.specs.declared.graph.edge.Edge.{Edge}
use Rattle.mc_state.specs.declared.graph.edge.Edge.TheVariants as edge
use Rattle.mc_state.specs.Graph.Edges.{known_nodes, nodes_of}
use Rattle.mc_state.specs.Graph.Graph.{Edges, replaced, without, block_starts}
use Rattle.mc_pure.specs.Pure.{Kinds, IsNode}
use Rattle.mc_base.specs.declared.ranges.Range.{Range}
use Rattle.mc_state.specs.declared.goal.Goal.{Goal}
use Rattle.mc_state.specs.State.{State, next_node, with_var, without_vars, with_nodes, with_atoms, with_edges, with_only_edges, with_block}
use Rattle.mc_state.specs.Fits.{AreNodes, IsBounded}
use Rattle.mc_state.specs.Rules.{GoalIsThere}
use Rattle.mc_rules_steps.specs.Next.{Next}
use Rattle.mc_rules_steps.specs.Operands.{with_operand, with_operands}
use Rattle.mc_rules_steps.specs.Steps.{moved_to, is_single, stays_int, in_range, range_atoms, offset_atom, sum_offsets, difference_offsets, no_offsets, freed_atoms, le_atoms, gt_atoms, Computes}
use Rattle.mc_rules_steps.specs.Steps.{S8Is, S9Is, S10Is, S12Is, S13Is, S14Is, S15Is, S16Is}
use Rattle.mc_state.specs.declared.line.InstrRule.TheVariants as rule
use Rattle.mc_rules_steps.specs.Laws.{StepsStayBounded}
use Rattle.mc_rules_steps.proofs.LowerLaws.{BoundLaws}
use Rattle.mc_rules_steps.proofs.Lists.{all_append, all_map, known_field, known_set, edge_at}
use Rattle.mc_rules_steps.proofs.Operands.{operand_there, two_there, many_there}

-- the atom's nodes are there
abbrev AtomIsThere : Kinds → Atom → Type 0
AtomIsThere kinds f = AreNodes kinds (nodes_of_atom f)

abbrev AtomsAreThere : Kinds → List Atom → Type 0
AtomsAreThere kinds atoms = AllByRecursion (AtomIsThere kinds) atoms

-- the edge's nodes are there
abbrev EdgeIsThere : Kinds → Edge → Type 0
EdgeIsThere kinds e = AreNodes kinds (nodes_of e)

-- what is asked of each successor
abbrev pub IsFit : Next → Type 0
IsFit n = IsBounded n.state × GoalIsThere n.goal n.state

one_fits : (next : List Next) (q : PointId) (t : State) → next ≡ moved_to q t ∷ [] → IsBounded t → AllByRecursion IsFit next
one_fits next q t gives b = subst (AllByRecursion IsFit) (sym gives) ((b, tt), tt)

two_fit : (next : List Next) (q q' : PointId) (t u : State) → next ≡ moved_to q t ∷ moved_to q' u ∷ [] → IsBounded t → IsBounded u → AllByRecursion IsFit next
two_fit next q q' t u gives b c = subst (AllByRecursion IsFit) (sym gives) ((b, tt), ((c, tt), tt))

-- ---- what is written of results

-- what is written of a result's offsets names the result and the operands
abbrev OffsetsAreThere : (NodeId → NodeId → NodeId → Range → Range → List Atom) → Type 0
OffsetsAreThere offsets =
    (kinds : Kinds) (n a b : NodeId) (left right : Range) → IsNode kinds n → IsNode kinds a → IsNode kinds b → AtomsAreThere kinds (offsets n a b left right)

offset_there : (kinds : Kinds) (n a : NodeId) (left right : Range) (add : ℤ) → IsNode kinds n → IsNode kinds a → AtomsAreThere kinds (offset_atom n a left right add)
offset_there kinds n a left right add is other = at (is_single right && stays_int left add)
  where
    at : (test : Bool) → AtomsAreThere kinds (if test then Eq n a add ∷ [] else [])
    at true = ((is, (other, tt)), tt)
    at false = tt

sum_there : OffsetsAreThere sum_offsets
sum_there kinds n a b left right is l r =
    all_append (AtomIsThere kinds) (offset_atom n a left right right.lo) (offset_atom n b right left left.lo) (offset_there kinds n a left right right.lo is l) (offset_there kinds n b right left left.lo is r)

range_there : (op : ℤ → ℤ → ℤ) (kinds : Kinds) (n : NodeId) (left right : Range) (results : Option Range) → IsNode kinds n → AtomsAreThere kinds (range_atoms op n left right results)
range_there op kinds n left right results is = at (is_single left && is_single right)
  where
    within : (o : Option Range) → AtomsAreThere kinds (in_range n o)
    within None = tt
    within (Some r) = ((is, tt), tt)

    at : (test : Bool) → AtomsAreThere kinds (if test then In n (wrapped (op left.lo right.lo)) (wrapped (op left.lo right.lo)) ∷ [] else in_range n results)
    at true = ((is, tt), tt)
    at false = within results

unknown_there : (kinds : Kinds) (count : ℕ) → AreNodes kinds (known_nodes (replicate count None))
unknown_there kinds zero = tt
unknown_there kinds (suc count) = unknown_there kinds count

-- the starts of blocks are nodes of their edges
pub starts_there : (kinds : Kinds) (es : Edges) → AllByRecursion (λ (e : EdgeId × Edge). EdgeIsThere kinds e.1) es → AreNodes kinds (block_starts es)
starts_there kinds [] a = tt
starts_there kinds ((id, edge.Block at shape fields) ∷ es) a = (a.0.0, starts_there kinds es a.1)
starts_there kinds ((id, edge.Ind at pred args) ∷ es) a = starts_there kinds es a.1
starts_there kinds ((id, edge.Seg at args pred «end» ends) ∷ es) a = starts_there kinds es a.1

others_there : (kinds : Kinds) (a : NodeId) (bs : List NodeId) → IsNode kinds a → AreNodes kinds bs → AtomsAreThere kinds (map (λ b. Ne a b (pos 0)) bs)
others_there kinds a [] is h = tt
others_there kinds a (b ∷ bs) is h = ((is, (h.0, tt)), others_there kinds a bs is h.1)

module _ (laws : BoundLaws) where
  -- a variable gets a node that is there
  set_bounded : (s : State) (x : VarId) (n : NodeId) → IsBounded s → IsNode s.kinds n → IsBounded (with_var s x (Some n))
  set_bounded s x n b is = laws.var s x (Some n) b (is, tt)

  forgotten_bounded : (xs : List VarId) (s : State) → IsBounded s → IsBounded (without_vars s xs)
  forgotten_bounded [] s b = b
  forgotten_bounded (x ∷ xs) s b = forgotten_bounded xs (with_var s x None) (laws.var s x None b tt)

  computes_bounded : (op : ℤ → ℤ → ℤ) (offsets : NodeId → NodeId → NodeId → Range → Range → List Atom) → OffsetsAreThere offsets
      → (s : State) (next : List Next) (x : VarId) (o o' : Operand) (q : PointId) → Computes op offsets x o o' q s next → IsBounded s → AllByRecursion IsFit next
  computes_bounded op offsets are_there s next x o o' q i b =
      let both = two_there laws s o o' i.a i.b b i.left_known i.right_known in
      let bounded = subst IsBounded (sym i.operands) both.bounded in
      let nodes = subst (λ (t : State). AreNodes t.kinds (i.a ∷ i.b ∷ [])) (sym i.operands) both.all in
      let new = laws.new i.before (Int ∷ []) in
      let n = next_node i.before in
      let t = with_nodes i.before (Int ∷ []) in
      let set = with_var t x (Some n) in
      let ranges = range_atoms op n i.left i.right i.results in
      let others = offsets n i.a i.b i.left i.right in
      let there = all_append (AtomIsThere t.kinds) ranges others (range_there op t.kinds n i.left i.right i.results new.0.0) (are_there t.kinds n i.a i.b i.left i.right new.0.0 (new.1 i.a nodes.0) (new.1 i.b nodes.1.0)) in
      one_fits next q (with_atoms set (ranges ++ others)) i.gives
      (laws.atoms set (ranges ++ others) (set_bounded t x n (laws.nodes i.before (Int ∷ []) bounded) new.0.0) there)

  s8_bounded : (flow : Flow) (p : PointId) (s : State) (next : List Next) → S8Is flow p s next → IsBounded s → AllByRecursion IsFit next
  s8_bounded flow p s next i b =
      let e = edge.Block i.block.at i.shape i.block.fields in
      let nodes = edge_at (EdgeIsThere s.kinds) s.graph.edges i.block.id e i.block.there b.edges in
      one_fits next i.q (with_var s i.x (Some i.m)) i.gives (set_bounded s i.x i.m b (known_field (IsNode s.kinds) i.block.fields i.f i.m i.field nodes.1))

  s9_bounded : (flow : Flow) (p : PointId) (s : State) (next : List Next) → S9Is flow p s next → IsBounded s → AllByRecursion IsFit next
  s9_bounded flow p s next i b =
      let e = edge.Block i.block.at i.shape i.block.fields in
      let new = edge.Block i.block.at i.shape (slice_set i.block.fields i.f (Some i.m)) in
      let operand = operand_there laws s i.from i.m b i.value in
      let nodes = edge_at (EdgeIsThere s.kinds) s.graph.edges i.block.id e i.block.there b.edges in
      let t = with_operand s i.from in
      let more = all_map (IsNode s.kinds) (IsNode t.kinds) operand.more (nodes_of e) nodes in
      let bounded = laws.replaced t i.block.id new operand.bounded (more.0, known_set (IsNode t.kinds) i.block.fields i.f i.m operand.all.0 more.1) in
      one_fits next i.q _ i.gives (subst (λ (u : State). IsBounded (record u { graph = record u.graph { edges = replaced u.graph.edges i.block.id new } })) (sym i.operand) bounded)

  s10_bounded : (flow : Flow) (p : PointId) (s : State) (next : List Next) → S10Is flow p s next → IsBounded s → AllByRecursion IsFit next
  s10_bounded flow p s next i b =
      let count = field_count flow.structs i.shape in
      let new = laws.new s (Ptr ∷ []) in
      let n = next_node s in
      let t = with_nodes s (Ptr ∷ []) in
      let made = laws.edges t (edge.Block n i.shape (replicate count None) ∷ []) (laws.nodes s (Ptr ∷ []) b) ((new.0.0, unknown_there t.kinds count), tt) in
      two_fit next i.q i.q (with_var s i.x (Some null)) (with_var (with_block s i.shape count) i.x (Some n)) i.gives
      (set_bounded s i.x null b (Ptr, inl refl)) (set_bounded (with_block s i.shape count) i.x n made new.0.0)

  s12_bounded : (flow : Flow) (p : PointId) (s : State) (next : List Next) → S12Is flow p s next → IsBounded s → AllByRecursion IsFit next
  s12_bounded flow p s next i b =
      let before = i.before in
      let operand = operand_there laws s i.from i.n b i.known in
      let bounded = subst IsBounded (sym i.operand) operand.bounded in
      let e = edge.Block i.block.at i.shape i.block.fields in
      let left = without before.graph.edges i.block.id in
      let fewer = laws.fewer_edges before (i.block.id ∷ []) (e ∷ []) left (i.block.there, (refl, refl)) bounded in
      let nodes = edge_at (EdgeIsThere before.kinds) before.graph.edges i.block.id e i.block.there bounded.edges in
      let starts = block_starts left in
      let there = others_there before.kinds i.block.at starts nodes.0 (starts_there before.kinds left fewer.edges) in
      one_fits next i.q (with_atoms (with_only_edges before left) (freed_atoms i.block.at starts)) i.gives
      (laws.atoms (with_only_edges before left) (freed_atoms i.block.at starts) fewer ((nodes.0, tt), there))

  s13_bounded : (flow : Flow) (p : PointId) (s : State) (next : List Next) → S13Is flow p s next → IsBounded s → AllByRecursion IsFit next
  s13_bounded flow p s next i b =
      let both = two_there laws s i.o i.o' i.a i.b b i.left_known i.right_known in
      let bounded = subst IsBounded (sym i.operands) both.bounded in
      let nodes = subst (λ (t : State). AreNodes t.kinds (i.a ∷ i.b ∷ [])) (sym i.operands) both.all in
      two_fit next i.t i.f (with_atoms i.before (Eq i.a i.b (pos 0) ∷ [])) (with_atoms i.before (Ne i.a i.b (pos 0) ∷ [])) i.gives
      (laws.atoms i.before (Eq i.a i.b (pos 0) ∷ []) bounded (nodes, tt)) (laws.atoms i.before (Ne i.a i.b (pos 0) ∷ []) bounded (nodes, tt))

  s14_bounded : (flow : Flow) (p : PointId) (s : State) (next : List Next) → S14Is flow p s next → IsBounded s → AllByRecursion IsFit next
  s14_bounded flow p s next i b =
      let both = two_there laws s i.o i.o' i.a i.b b i.left_known i.right_known in
      let bounded = subst IsBounded (sym i.operands) both.bounded in
      let nodes = subst (λ (t : State). AreNodes t.kinds (i.a ∷ i.b ∷ [])) (sym i.operands) both.all in
      let holds = le_atoms i.a i.b i.left i.right in
      let fails = gt_atoms i.a i.b i.left i.right in
      two_fit next i.t i.f (with_atoms i.before holds) (with_atoms i.before fails) i.gives
      (laws.atoms i.before holds bounded ((nodes.0, tt), (nodes.1, tt))) (laws.atoms i.before fails bounded ((nodes.0, tt), (nodes.1, (nodes, tt))))

  s15_bounded : (flow : Flow) (p : PointId) (s : State) (next : List Next) → S15Is flow p s next → IsBounded s → AllByRecursion IsFit next
  s15_bounded flow p s next i b =
      let many = many_there laws i.os s i.args b i.known in
      let bounded = subst IsBounded (sym i.operands) many.bounded in
      let nodes = subst (λ (t : State). AreNodes t.kinds i.args) (sym i.operands) many.all in
      let new = laws.new i.before (Ptr ∷ []) in
      let n = next_node i.before in
      let t = with_nodes i.before (Ptr ∷ []) in
      let made = edge.Ind n i.pred i.args in
      let put = laws.edges t (made ∷ []) (laws.nodes i.before (Ptr ∷ []) bounded) ((new.0.0, all_map (IsNode i.before.kinds) (IsNode t.kinds) new.1 i.args nodes), tt) in
      one_fits next i.q (with_var (with_edges t (made ∷ [])) i.x (Some n)) i.gives (set_bounded (with_edges t (made ∷ [])) i.x n put new.0.0)

  s16_bounded : (flow : Flow) (p : PointId) (s : State) (next : List Next) → S16Is flow p s next → IsBounded s → AllByRecursion IsFit next
  s16_bounded flow p s next i b =
      let first = with_operand s i.o in
      let one = operand_there laws s i.o i.n b i.known in
      let many = many_there laws i.os first i.args one.bounded i.args_known in
      let side : Next = record { point = p; goal = Some i.goal; state = with_operands first i.os } in
      let there : GoalIsThere (Some i.goal) side.state = subst (λ (g : Goal). AreNodes side.state.kinds (g.at ∷ g.args)) (sym i.goal_is) (many.more i.n one.all.0, many.all) in
      subst (AllByRecursion IsFit) (sym i.gives) (subst IsFit (sym i.side_is) (many.bounded, there), ((b, tt), tt))

  pub steps_stay_bounded : StepsStayBounded
  steps_stay_bounded flow defs p s next b (rule.S1, i) = one_fits next i.q s i.gives b
  steps_stay_bounded flow defs p s next b (rule.S2, i) =
      let operand = operand_there laws s i.from i.n b i.known in
      one_fits next i.q (with_var (with_operand s i.from) i.x (Some i.n)) i.gives (set_bounded (with_operand s i.from) i.x i.n operand.bounded operand.all.0)
  steps_stay_bounded flow defs p s next b (rule.S3, i) = one_fits next i.q (without_vars s i.xs) i.gives (forgotten_bounded i.xs s b)
  steps_stay_bounded flow defs p s next b (rule.S4, i) =
      let t = with_nodes s (Int ∷ []) in
      one_fits next i.q (with_var t i.x (Some (next_node s))) i.gives (set_bounded t i.x (next_node s) (laws.nodes s (Int ∷ []) b) (laws.new s (Int ∷ [])).0.0)
  steps_stay_bounded flow defs p s next b (rule.S5, i) = computes_bounded _ sum_offsets sum_there s next i.x i.o i.o' i.q i.computes b
  steps_stay_bounded flow defs p s next b (rule.S6, i) =
      computes_bounded _ difference_offsets (λ kinds n a b left right is l r. offset_there kinds n a left right _ is l) s next i.x i.o i.o' i.q i.computes b
  steps_stay_bounded flow defs p s next b (rule.S7, i) = computes_bounded _ no_offsets (λ kinds n a b left right is l r. tt) s next i.x i.o i.o' i.q i.computes b
  steps_stay_bounded flow defs p s next b (rule.S8, i) = s8_bounded flow p s next i b
  steps_stay_bounded flow defs p s next b (rule.S9, i) = s9_bounded flow p s next i b
  steps_stay_bounded flow defs p s next b (rule.S10, i) = s10_bounded flow p s next i b
  steps_stay_bounded flow defs p s next b (rule.S11, i) = one_fits next i.q (with_operand s i.from) i.gives (operand_there laws s i.from i.n b i.known).bounded
  steps_stay_bounded flow defs p s next b (rule.S12, i) = s12_bounded flow p s next i b
  steps_stay_bounded flow defs p s next b (rule.S13, i) = s13_bounded flow p s next i b
  steps_stay_bounded flow defs p s next b (rule.S14, i) = s14_bounded flow p s next i b
  steps_stay_bounded flow defs p s next b (rule.S15, i) = s15_bounded flow p s next i b
  steps_stay_bounded flow defs p s next b (rule.S16, i) = s16_bounded flow p s next i b
  steps_stay_bounded flow defs p s next b (rule.S17, i) = subst (AllByRecursion IsFit) (sym i.gives) tt
  steps_stay_bounded flow defs p s next b (rule.S18, i) = one_fits next i.q s i.gives b
