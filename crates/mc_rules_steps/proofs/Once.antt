-- A rule of instructions has one list of successors.
use Rattle.std.proofs.Common.{◌≡◌, List, [], ◌∷◌, Option, Some, slice_get, refl, ap, ap₂, sym, ◌∙◌, subst, pos}
use Rattle.mc_base.specs.declared.ids.EdgeId.{EdgeId}
use Rattle.mc_base.specs.declared.ids.NodeId.{NodeId}
use Rattle.mc_base.specs.declared.ids.PointId.{PointId}
use Rattle.mc_base.specs.declared.ids.StructId.{StructId}
use Rattle.mc_base.specs.declared.ids.VarId.{VarId}
use Rattle.mc_base.specs.declared.plain.Atom.{Atom}
use Rattle.mc_base.specs.declared.plain.Atom.TheVariants.{Eq, Ne}
use Rattle.mc_base.specs.Nodes.{null}
use Rattle.mc_flow.specs.declared.defs.rules.Def.{Def}
use Rattle.mc_flow.specs.declared.graph.Flow.{Flow}
use Rattle.mc_flow.specs.declared.instr.Instr.TheVariants as instr
use Rattle.mc_flow.specs.declared.instr.Operand.{Operand}
use Rattle.mc_flow.specs.Steps.{field_count}
use Rattle.mc_flow.specs.Valid.{IsValid}
use Rattle.mc_state.specs.declared.graph.edge.Edge.{Edge}
use Rattle.mc_state.specs.declared.graph.edge.Edge.TheVariants.{Block}
use Rattle.mc_state.specs.Graph.Edges.{fields_of, with_field_node}
use Rattle.mc_pure.specs.Derived.{HasRange}
use Rattle.mc_pure.specs.Laws.{BlocksAtOneNode}
use Rattle.mc_base.specs.declared.ranges.Range.{Range}
use Rattle.mc_state.specs.State.{State, pure_of, var_node, with_var, without_vars, with_nodes, with_atom, with_atoms, with_block, next_node}
use Rattle.mc_state.specs.Facts.{IsFalse, AreEqual}
use Rattle.mc_rules_steps.specs.Next.{Next}
use Rattle.mc_rules_steps.specs.Instructions.{CopyParts, ResultParts, LoadParts, StoreParts, MallocParts, TestParts, AssumeParts, AssertParts, skip_of, copy_of, undef_of, input_of, add_of, sub_of, mul_of, load_of, store_of, malloc_of, free_of, test_eq_of, test_le_of, assume_of, assert_of, empty_of}
use Rattle.mc_rules_steps.specs.JudgedLaws.{StepsAreOne}
use Rattle.mc_rules_steps.specs.Fitting.{ends_of}
use Rattle.mc_rules_steps.specs.Judges.{operand_nodes, with_replaced, with_freed, with_shape, side_branch}
use Rattle.mc_state.specs.declared.line.InstrRule.TheVariants as rule
use Rattle.mc_rules_steps.specs.Operands.{code_at, operand_node, with_operand, with_operands, HasBlock}
use Rattle.mc_rules_steps.specs.Steps.{moved_to, sum_offsets, difference_offsets, no_offsets, Computes, S1Is, S2Is, S3Is, S4Is, S5Is, S6Is, S7Is, S8Is, S9Is, S10Is, S11Is, S12Is, S13Is, S14Is, S15Is, S16Is, S18Is}
use Rattle.mc_rules_steps.specs.Sums.{Ends, Operation, sum, difference, product, with_result, at_most_atoms, above_atoms}
use Rattle.mc_rules_steps.proofs.Gaps.{same_node}
use Rattle.mc_rules_steps.proofs.JudgedBlocks.{pointer_stays}
use Rattle.mc_rules_steps.proofs.JudgedMoves.{nodes_to}
use Rattle.mc_rules_steps.proofs.JudgedSums.{same_ends, SpansResults, IsOffsets, computed_is, sums_span, differences_span, products_span}
use Rattle.mc_rules_steps.proofs.Moving.{fits_at}
use Rattle.mc_rules_steps.proofs.OneBlock.{same_id, same_edge}
use Rattle.mc_base.specs.declared.plain.Kind.TheVariants.{Int}

-- what is there is one
some_same : {X : Type 0} (o : Option X) (g h : X) → o ≡ Some g → o ≡ Some h → g ≡ h
some_same o g h p q = cc (p, q)

-- the nodes of two operands are one
pair_same : (s : State) (o o' k k' : Operand) (a b c d : NodeId) → o ≡ k → o' ≡ k' → operand_node s o ≡ Some a → operand_node (with_operand s o) o' ≡ Some b → operand_node s k ≡ Some c → operand_node (with_operand s k) k' ≡ Some d → (a ≡ c) × (b ≡ d)
pair_same s o o' k k' a b c d e f left right left' right' = (
  same_node (operand_node s o) a c left (ap (operand_node s) e ∙ left'),
  same_node (operand_node (with_operand s o) o') b d right (ap₂ (λ (o o' : Operand). operand_node (with_operand s o) o') e f ∙ right'),
)

module _ (flow : Flow) (p : PointId) (s : State) (next other : List Next) where
  skip_once : S1Is flow p s next → S1Is flow p s other → next ≡ other
  skip_once i j = i.gives ∙ ap (λ q. moved_to q s ∷ []) (some_same (skip_of (code_at flow p)) i.q j.q (ap skip_of i.at) (ap skip_of j.at)) ∙ sym j.gives

  copy_once : S2Is flow p s next → S2Is flow p s other → next ≡ other
  copy_once i j =
      let g : CopyParts = record { x = i.x; from = i.from; q = i.q } in
      let h : CopyParts = record { x = j.x; from = j.from; q = j.q } in
      let same : g ≡ h = some_same (copy_of (code_at flow p)) g h (ap copy_of i.at) (ap copy_of j.at) in
      let node : i.n ≡ j.n = same_node (operand_node s i.from) i.n j.n i.known (ap (λ (g : CopyParts). operand_node s g.from) same ∙ j.known) in
      i.gives ∙ ap₂ (λ (g : CopyParts) (n : NodeId). moved_to g.q (with_var (with_operand s g.from) g.x (Some n)) ∷ []) same node ∙ sym j.gives

  undef_once : S3Is flow p s next → S3Is flow p s other → next ≡ other
  undef_once i j =
      let same = some_same (undef_of (code_at flow p)) (i.xs, i.q) (j.xs, j.q) (ap undef_of i.at) (ap undef_of j.at) in
      i.gives ∙ ap (λ (g : List VarId × PointId). moved_to g.1 (without_vars s g.0) ∷ []) same ∙ sym j.gives

  input_once : S4Is flow p s next → S4Is flow p s other → next ≡ other
  input_once i j =
      let same = some_same (input_of (code_at flow p)) (i.x, i.q) (j.x, j.q) (ap input_of i.at) (ap input_of j.at) in
      i.gives ∙ ap (λ (g : VarId × PointId). moved_to g.1 (with_var (with_nodes s (Int ∷ [])) g.0 (Some (next_node s))) ∷ []) same ∙ sym j.gives

  computes_once : (op : Operation) (offsets : NodeId → NodeId → NodeId → Range → Range → List Atom) → IsOffsets op offsets → SpansResults op → (g h : ResultParts) → g ≡ h
      → Computes op.apply offsets g.x g.o g.o' g.q s next → Computes op.apply offsets h.x h.o h.o' h.q s other → next ≡ other
  computes_once op offsets are spans g h same m k =
      let at = λ (g : ResultParts). with_operand (with_operand s g.o) g.o' in
      let nodes = pair_same s g.o g.o' h.o h.o' m.a m.b k.a k.b (ap (λ (g : ResultParts). g.o) same) (ap (λ (g : ResultParts). g.o') same) m.left_known m.right_known k.left_known k.right_known in
      let states : at h ≡ at g = ap at (sym same) in
      let left : HasRange (pure_of (at g)) m.a k.left.lo k.left.hi =
      subst (λ (n : NodeId). HasRange (pure_of (at g)) n k.left.lo k.left.hi) (sym nodes.0) (subst (λ (t : State). HasRange (pure_of t) k.a k.left.lo k.left.hi) states k.left_range) in
      let right : HasRange (pure_of (at g)) m.b k.right.lo k.right.hi =
      subst (λ (n : NodeId). HasRange (pure_of (at g)) n k.right.lo k.right.hi) (sym nodes.1) (subst (λ (t : State). HasRange (pure_of t) k.b k.right.lo k.right.hi) states k.right_range) in
      let ls : ends_of m.left ≡ ends_of k.left = same_ends (pure_of (at g)) m.a m.left (ends_of k.left) m.left_range left in
      let rs : ends_of m.right ≡ ends_of k.right = same_ends (pure_of (at g)) m.b m.right (ends_of k.right) m.right_range right in
      let made = λ (g : ResultParts) (a b : NodeId) (l r : Ends). moved_to g.q (with_result op g.x a b l r (at g)) ∷ [] in
      computed_is op offsets are spans g.x g.o g.o' g.q s next m
      ∙ ap (λ g. made g m.a m.b (ends_of m.left) (ends_of m.right)) same
      ∙ ap₂ (λ a b. made h a b (ends_of m.left) (ends_of m.right)) nodes.0 nodes.1
      ∙ ap₂ (made h k.a k.b) ls rs
      ∙ sym (computed_is op offsets are spans h.x h.o h.o' h.q s other k)

  add_once : S5Is flow p s next → S5Is flow p s other → next ≡ other
  add_once i j =
      let g : ResultParts = record { x = i.x; o = i.o; o' = i.o'; q = i.q } in
      let h : ResultParts = record { x = j.x; o = j.o; o' = j.o'; q = j.q } in
      computes_once sum sum_offsets (λ n a b left right. refl) sums_span g h (some_same (add_of (code_at flow p)) g h (ap add_of i.at) (ap add_of j.at)) i.computes j.computes

  sub_once : S6Is flow p s next → S6Is flow p s other → next ≡ other
  sub_once i j =
      let g : ResultParts = record { x = i.x; o = i.o; o' = i.o'; q = i.q } in
      let h : ResultParts = record { x = j.x; o = j.o; o' = j.o'; q = j.q } in
      computes_once difference difference_offsets (λ n a b left right. refl) differences_span g h (some_same (sub_of (code_at flow p)) g h (ap sub_of i.at) (ap sub_of j.at)) i.computes j.computes

  mul_once : S7Is flow p s next → S7Is flow p s other → next ≡ other
  mul_once i j =
      let g : ResultParts = record { x = i.x; o = i.o; o' = i.o'; q = i.q } in
      let h : ResultParts = record { x = j.x; o = j.o; o' = j.o'; q = j.q } in
      computes_once product no_offsets (λ n a b left right. refl) products_span g h (some_same (mul_of (code_at flow p)) g h (ap mul_of i.at) (ap mul_of j.at)) i.computes j.computes

  malloc_once : S10Is flow p s next → S10Is flow p s other → next ≡ other
  malloc_once i j =
      let g : MallocParts = record { x = i.x; shape = i.shape; q = i.q } in
      let h : MallocParts = record { x = j.x; shape = j.shape; q = j.q } in
      let same : g ≡ h = some_same (malloc_of (code_at flow p)) g h (ap malloc_of i.at) (ap malloc_of j.at) in
      i.gives
      ∙ ap (λ (g : MallocParts). moved_to g.q (with_var s g.x (Some null)) ∷ moved_to g.q (with_var (with_block s g.shape (field_count flow.structs g.shape)) g.x (Some (next_node s))) ∷ []) same
      ∙ sym j.gives

  null_once : S11Is flow p s next → S11Is flow p s other → next ≡ other
  null_once i j =
      let same = some_same (free_of (code_at flow p)) (i.from, i.q) (j.from, j.q) (ap free_of i.at) (ap free_of j.at) in
      i.gives ∙ ap (λ (g : Operand × PointId). moved_to g.1 (with_operand s g.0) ∷ []) same ∙ sym j.gives

  equal_once : S13Is flow p s next → S13Is flow p s other → next ≡ other
  equal_once i j =
      let g : TestParts = record { o = i.o; o' = i.o'; t = i.t; f = i.f } in
      let h : TestParts = record { o = j.o; o' = j.o'; t = j.t; f = j.f } in
      let same : g ≡ h = some_same (test_eq_of (code_at flow p)) g h (ap test_eq_of i.at) (ap test_eq_of j.at) in
      let at = λ (g : TestParts). with_operand (with_operand s g.o) g.o' in
      let nodes = pair_same s g.o g.o' h.o h.o' i.a i.b j.a j.b (ap (λ (g : TestParts). g.o) same) (ap (λ (g : TestParts). g.o') same) i.left_known i.right_known j.left_known j.right_known in
      let made = λ (g : TestParts) (a b : NodeId) (t : State). moved_to g.t (with_atom t (Eq a b (pos 0))) ∷ moved_to g.f (with_atom t (Ne a b (pos 0))) ∷ [] in
      i.gives ∙ ap (made g i.a i.b) i.operands ∙ ap (λ g. made g i.a i.b (at g)) same ∙ ap₂ (λ a b. made h a b (at h)) nodes.0 nodes.1 ∙ sym (j.gives ∙ ap (made h j.a j.b) j.operands)

  at_most_once : S14Is flow p s next → S14Is flow p s other → next ≡ other
  at_most_once i j =
      let g : TestParts = record { o = i.o; o' = i.o'; t = i.t; f = i.f } in
      let h : TestParts = record { o = j.o; o' = j.o'; t = j.t; f = j.f } in
      let same : g ≡ h = some_same (test_le_of (code_at flow p)) g h (ap test_le_of i.at) (ap test_le_of j.at) in
      let at = λ (g : TestParts). with_operand (with_operand s g.o) g.o' in
      let nodes = pair_same s g.o g.o' h.o h.o' i.a i.b j.a j.b (ap (λ (g : TestParts). g.o) same) (ap (λ (g : TestParts). g.o') same) i.left_known i.right_known j.left_known j.right_known in
      let states : j.before ≡ i.before = j.operands ∙ ap at (sym same) ∙ sym i.operands in
      let left : HasRange (pure_of i.before) i.a j.left.lo j.left.hi =
      subst (λ (n : NodeId). HasRange (pure_of i.before) n j.left.lo j.left.hi) (sym nodes.0) (subst (λ (t : State). HasRange (pure_of t) j.a j.left.lo j.left.hi) states j.left_range) in
      let right : HasRange (pure_of i.before) i.b j.right.lo j.right.hi =
      subst (λ (n : NodeId). HasRange (pure_of i.before) n j.right.lo j.right.hi) (sym nodes.1) (subst (λ (t : State). HasRange (pure_of t) j.b j.right.lo j.right.hi) states j.right_range) in
      let ls : ends_of i.left ≡ ends_of j.left = same_ends (pure_of i.before) i.a i.left (ends_of j.left) i.left_range left in
      let rs : ends_of i.right ≡ ends_of j.right = same_ends (pure_of i.before) i.b i.right (ends_of j.right) i.right_range right in
      let made = λ (g : TestParts) (a b : NodeId) (l r : Ends) (t : State). moved_to g.t (with_atoms t (at_most_atoms a b l r)) ∷ moved_to g.f (with_atoms t (above_atoms a b l r)) ∷ [] in
      i.gives
      ∙ ap₂ (λ (g : TestParts) (t : State). made g i.a i.b (ends_of i.left) (ends_of i.right) t) same (sym states)
      ∙ ap₂ (λ a b. made h a b (ends_of i.left) (ends_of i.right) j.before) nodes.0 nodes.1
      ∙ ap₂ (λ l r. made h j.a j.b l r j.before) ls rs
      ∙ sym j.gives

  assume_once : S15Is flow p s next → S15Is flow p s other → next ≡ other
  assume_once i j =
      let g : AssumeParts = record { pred = i.pred; x = i.x; os = i.os; q = i.q } in
      let h : AssumeParts = record { pred = j.pred; x = j.x; os = j.os; q = j.q } in
      let same : g ≡ h = some_same (assume_of (code_at flow p)) g h (ap assume_of i.at) (ap assume_of j.at) in
      let args : i.args ≡ j.args = some_same (operand_nodes s i.os) i.args j.args (nodes_to i.os s i.args i.known)
      (ap (λ (g : AssumeParts). operand_nodes s g.os) same ∙ nodes_to j.os s j.args j.known) in
      let made = λ (g : AssumeParts) (args : List NodeId) (t : State). moved_to g.q (with_var (with_shape g.pred args t) g.x (Some (next_node t))) ∷ [] in
      i.gives ∙ ap (made g i.args) i.operands ∙ ap₂ (λ (g : AssumeParts) (args : List NodeId). made g args (with_operands s g.os)) same args ∙ sym (j.gives ∙ ap (made h j.args) j.operands)

  assert_once : S16Is flow p s next → S16Is flow p s other → next ≡ other
  assert_once i j =
      let g : AssertParts = record { pred = i.pred; o = i.o; os = i.os; q = i.q } in
      let h : AssertParts = record { pred = j.pred; o = j.o; os = j.os; q = j.q } in
      let same : g ≡ h = some_same (assert_of (code_at flow p)) g h (ap assert_of i.at) (ap assert_of j.at) in
      let node : i.n ≡ j.n = same_node (operand_node s i.o) i.n j.n i.known (ap (λ (g : AssertParts). operand_node s g.o) same ∙ j.known) in
      let args : i.args ≡ j.args = some_same (operand_nodes (with_operand s i.o) i.os) i.args j.args (nodes_to i.os (with_operand s i.o) i.args i.args_known)
      (ap (λ (g : AssertParts). operand_nodes (with_operand s g.o) g.os) same ∙ nodes_to j.os (with_operand s j.o) j.args j.args_known) in
      let made = λ (g : AssertParts) (n : NodeId) (args : List NodeId). side_branch p g.pred n args (with_operands (with_operand s g.o) g.os) ∷ moved_to g.q s ∷ [] in
      let left : next ≡ made g i.n i.args =
      i.gives ∙ ap (λ (n : Next). n ∷ moved_to i.q s ∷ []) (i.side_is ∙ ap (λ goal. record { point = p; goal = Some goal; state = with_operands (with_operand s i.o) i.os }) i.goal_is) in
      let right : other ≡ made h j.n j.args =
      j.gives ∙ ap (λ (n : Next). n ∷ moved_to j.q s ∷ []) (j.side_is ∙ ap (λ goal. record { point = p; goal = Some goal; state = with_operands (with_operand s j.o) j.os }) j.goal_is) in
      left ∙ ap (λ g. made g i.n i.args) same ∙ ap₂ (made h) node args ∙ sym right

  empty_once : S18Is flow p s next → S18Is flow p s other → next ≡ other
  empty_once i j = i.gives ∙ ap (λ q. moved_to q s ∷ []) (some_same (empty_of (code_at flow p)) i.q j.q (ap empty_of i.at) (ap empty_of j.at)) ∙ sym j.gives

  -- blocks at nodes that are one
  edge_once : BlocksAtOneNode → (n m : NodeId) (shape own : StructId) (x : HasBlock s n shape) (y : HasBlock s m own) → n ≡ m → (IsFalse s → ⊥) → (x.id ≡ y.id) × (Block x.at shape x.fields ≡ Block y.at own y.fields)
  edge_once law n m shape own x y same consistent =
      let here : HasBlock s n own = record { id = y.id; at = y.at; fields = y.fields; there = y.there; equal = subst (λ (k : NodeId). AreEqual s k y.at) (sym same) y.equal } in
      (same_id law s n shape own x here consistent, same_edge law s n shape own x here consistent)

  some_some : (a b : NodeId) → ◌≡◌ {A = Option (Option NodeId)} (Some (Some a)) (Some (Some b)) → a ≡ b
  some_some a b e = cc e

  load_once : BlocksAtOneNode → S8Is flow p s next → S8Is flow p s other → next ≡ other
  load_once law i j =
      let g : LoadParts = record { x = i.x; y = i.y; shape = i.shape; f = i.f; q = i.q } in
      let h : LoadParts = record { x = j.x; y = j.y; shape = j.shape; f = j.f; q = j.q } in
      let same : g ≡ h = some_same (load_of (code_at flow p)) g h (ap load_of i.at) (ap load_of j.at) in
      let node : i.n ≡ j.n = same_node (var_node s i.y) i.n j.n i.known (ap (λ (g : LoadParts). var_node s g.y) same ∙ j.known) in
      let edges = edge_once law i.n j.n i.shape j.shape i.block j.block node i.consistent in
      let value : i.m ≡ j.m = some_some i.m j.m (sym i.field ∙ ap₂ (λ (l : List (Option NodeId)) (g : LoadParts). slice_get l g.f) (ap fields_of edges.1) same ∙ j.field) in
      i.gives ∙ ap₂ (λ (g : LoadParts) (m : NodeId). moved_to g.q (with_var s g.x (Some m)) ∷ []) same value ∙ sym j.gives

  store_once : BlocksAtOneNode → S9Is flow p s next → S9Is flow p s other → next ≡ other
  store_once law i j =
      let g : StoreParts = record { y = i.y; shape = i.shape; f = i.f; from = i.from; q = i.q } in
      let h : StoreParts = record { y = j.y; shape = j.shape; f = j.f; from = j.from; q = j.q } in
      let same : g ≡ h = some_same (store_of (code_at flow p)) g h (ap store_of i.at) (ap store_of j.at) in
      let base : i.n ≡ j.n = same_node (var_node s i.y) i.n j.n i.known (ap (λ (g : StoreParts). var_node s g.y) same ∙ j.known) in
      let value : i.m ≡ j.m = same_node (operand_node s i.from) i.m j.m i.value (ap (λ (g : StoreParts). operand_node s g.from) same ∙ j.value) in
      let edges = edge_once law i.n j.n i.shape j.shape i.block j.block base i.consistent in
      let put = λ (g : StoreParts) (m : NodeId) (id : EdgeId) (e : Edge) (t : State). moved_to g.q (with_replaced t id (with_field_node g.f m e)) ∷ [] in
      let old = Block i.block.at i.shape i.block.fields in
      let new = Block j.block.at j.shape j.block.fields in
      i.gives ∙ ap (put g i.m i.block.id old) i.operand
      ∙ ap₂ (λ (g : StoreParts) (m : NodeId). put g m i.block.id old (with_operand s g.from)) same value
      ∙ ap₂ (λ (id : EdgeId) (e : Edge). put h j.m id e (with_operand s j.from)) edges.0 edges.1
      ∙ sym (j.gives ∙ ap (put h j.m j.block.id new) j.operand)

  -- a block lies in this state, and it is freed
  abbrev Frees : List Next → PointId → NodeId → StructId → State → Type 0
  Frees made q n shape t = (block : HasBlock t n shape) × (made ≡ moved_to q (with_freed t block.id (Block block.at shape block.fields)) ∷ [])

  free_once : BlocksAtOneNode → (defs : List Def) → IsValid flow defs → S12Is flow p s next → S12Is flow p s other → next ≡ other
  free_once law defs valid i j =
      let same = some_same (free_of (code_at flow p)) (i.from, i.q) (j.from, j.q) (ap free_of i.at) (ap free_of j.at) in
      let node : i.n ≡ j.n = same_node (operand_node s i.from) i.n j.n i.known (ap (λ (g : Operand × PointId). operand_node s g.0) same ∙ j.known) in
      let left = subst (Frees next i.q i.n i.shape) (i.operand ∙ pointer_stays flow.vars i.from s (fits_at flow defs p (instr.Free i.from i.q) valid i.at)) (i.block, i.gives) in
      let right = subst (Frees other j.q j.n j.shape) (j.operand ∙ pointer_stays flow.vars j.from s (fits_at flow defs p (instr.Free j.from j.q) valid j.at)) (j.block, j.gives) in
      let edges = edge_once law i.n j.n i.shape j.shape left.0 right.0 node i.consistent in
      left.1
      ∙ ap (λ (g : Operand × PointId). moved_to g.1 (with_freed s left.0.id (Block left.0.at i.shape left.0.fields)) ∷ []) same
      ∙ ap₂ (λ (id : EdgeId) (e : Edge). moved_to j.q (with_freed s id e) ∷ []) edges.0 edges.1
      ∙ sym right.1

pub steps_are_one : BlocksAtOneNode → StepsAreOne
steps_are_one law flow defs rule.S1 p s next other valid i j = skip_once flow p s next other i j
steps_are_one law flow defs rule.S2 p s next other valid i j = copy_once flow p s next other i j
steps_are_one law flow defs rule.S3 p s next other valid i j = undef_once flow p s next other i j
steps_are_one law flow defs rule.S4 p s next other valid i j = input_once flow p s next other i j
steps_are_one law flow defs rule.S5 p s next other valid i j = add_once flow p s next other i j
steps_are_one law flow defs rule.S6 p s next other valid i j = sub_once flow p s next other i j
steps_are_one law flow defs rule.S7 p s next other valid i j = mul_once flow p s next other i j
steps_are_one law flow defs rule.S8 p s next other valid i j = load_once flow p s next other law i j
steps_are_one law flow defs rule.S9 p s next other valid i j = store_once flow p s next other law i j
steps_are_one law flow defs rule.S10 p s next other valid i j = malloc_once flow p s next other i j
steps_are_one law flow defs rule.S11 p s next other valid i j = null_once flow p s next other i j
steps_are_one law flow defs rule.S12 p s next other valid i j = free_once flow p s next other law defs valid i j
steps_are_one law flow defs rule.S13 p s next other valid i j = equal_once flow p s next other i j
steps_are_one law flow defs rule.S14 p s next other valid i j = at_most_once flow p s next other i j
steps_are_one law flow defs rule.S15 p s next other valid i j = assume_once flow p s next other i j
steps_are_one law flow defs rule.S16 p s next other valid i j = assert_once flow p s next other i j
steps_are_one law flow defs rule.S17 p s next other valid i j = i.gives ∙ sym j.gives
steps_are_one law flow defs rule.S18 p s next other valid i j = empty_once flow p s next other i j
