-- Where a state is exactly a configuration, and one of its successors is true, the run goes there.
use Rattle.std.proofs.Common.{◌≡◌, ◌≢◌, ◌<◌, ℕ, zero, suc, ℤ, pos, ◌+ℤ◌, ◌-ℤ◌, ◌*ℤ◌, ◌≤ℤ◌, Bool, true, false, Option, Some, None, List, [], ◌∷◌, ◌++◌, option_map, length, replicate, slice_get, slice_set, if◌then◌else◌, refl, sym, ap, ap₂, ◌∙◌, subst, arith, inl}
use Rattle.std.specs.Prelude.{◌&&◌, slice_index_or, int_le}
use Rattle.std.specs.FinMap as map
use Rattle.std.specs.Ordering.{int_eq}
use Rattle.std.specs.List.{AllByRecursion}
use Rattle.std.specs.Int.{int_max, int_min}
use Rattle.std.proofs.lemmas.Int.{ints, clamps}
use Rattle.mc_base.specs.declared.ids.NodeId.{NodeId}
use Rattle.mc_base.specs.declared.ids.PointId.{PointId}
use Rattle.mc_base.specs.declared.ids.StructId.{StructId}
use Rattle.mc_base.specs.declared.ids.VarId.{VarId}
use Rattle.mc_base.specs.declared.plain.Kind.TheVariants.{Int}
use Rattle.mc_base.specs.declared.plain.Atom.{Atom}
use Rattle.mc_base.specs.declared.plain.Atom.TheVariants.{Eq, Ne, In}
use Rattle.mc_base.specs.Atoms.{IsTrueAtom}
use Rattle.mc_base.specs.Nodes.{Valuation, at_node, null}
use Rattle.mc_base.specs.declared.text.place.Place.{Place}
use Rattle.mc_base.specs.declared.ranges.Range.{Range}
use Rattle.mc_flow.specs.Heap.Access.{with_field, fresh_block}
use Rattle.mc_flow.specs.Heap.Choices.{Choice, malloc}
use Rattle.mc_flow.specs.Heap.Heap as heap
use Rattle.mc_flow.specs.Heap.Heap.{region_of, IsAddress}
use Rattle.mc_flow.specs.Heap.Parts.{Changes}
use Rattle.mc_flow.specs.declared.defs.rules.Def.{Def}
use Rattle.mc_flow.specs.declared.graph.Flow.{Flow}
use Rattle.mc_flow.specs.declared.instr.Instr.{Instr}
use Rattle.mc_flow.specs.declared.instr.Instr.TheVariants as instr
use Rattle.mc_flow.specs.declared.instr.Operand.{Operand}
use Rattle.mc_flow.specs.declared.instr.Operand.TheVariants.{Var, Const}
use Rattle.mc_flow.specs.Runs.{next}
use Rattle.mc_flow.specs.Steps.{Config, Result, Step, StepOf, copied, at_point, set_to, with_heap, loaded, stored as put_in, freed, tested, computed, field_count}
use Rattle.mc_flow.specs.Values.{value_in, value_of, with_value, without as gone, address, wrapped}
use Rattle.mc_pure.specs.Derived.{HasRange}
use Rattle.mc_state.specs.declared.graph.edge.Edge.TheVariants as edge
use Rattle.mc_state.specs.Graph.Graph.{Edges, Graph, edge_with, without, replaced, block_starts}
use Rattle.mc_state.specs.State.{State, pure_of, var_node, with_var, without_vars, next_node, with_nodes, with_number, with_atoms, with_atom, with_only_edges, with_block}
use Rattle.mc_state.specs.Facts.{AreEqual}
use Rattle.mc_state.proofs.Lists.{all_map, all_append, all_left, all_right}
use Rattle.mc_rules_steps.specs.Next.{Next}
use Rattle.mc_rules_steps.specs.Operands.{code_at, operand_node, with_operand, HasBlock}
use Rattle.mc_rules_steps.specs.Steps.{moved_to, freed_atoms, S1Is, S2Is, S3Is, S8Is, S9Is, S10Is, S11Is, S12Is, S13Is, S14Is, S18Is, le_atoms, gt_atoms, Computes, range_atoms, in_range, is_single}
use Rattle.mc_exact.specs.Least.{IsNumber}
use Rattle.mc_exact.specs.Exact as rule
use Rattle.mc_exact.specs.Exact.{IsSilent}
use Rattle.mc_exact.proofs.Exactly.{values_by, stored, IsBlock, IsExactly, IsTrueIn, IsAddressed}
use Rattle.mc_exact.proofs.Stored.{held, eq_yes, eq_no, block_stored, start_all, none_stored, one_item}
use Rattle.mc_exact.proofs.Lists.{value_by, field_by, set_by, fresh_by, length_by}
use Rattle.mc_exact.proofs.Back.{operand_true, less_true, freed_back, stored_back, block_back}
use Rattle.mc_exact.proofs.LowerLaws.{RunLaws}
use Rattle.mc_exact.proofs.Truth.{true_of, plus_none}
use Rattle.mc_exact.proofs.Instructions.{has_code, GoesTo, first_is, int_back, in_one, positive, loaded_at, stored_at, freed_here, is_address, heap_replaced, heap_gone, heap_made, blocks_left, blocks_replaced}

with_none : (x y : ℤ) → x ≡ y → x ≡ y +ℤ pos 0
with_none x y e = omega (arith, ints)

pub append_none : {A : Type 0} (xs : List A) → xs ++ [] ≡ xs
append_none [] = refl
append_none (x ∷ xs) = ap (λ (l : List _). x ∷ l) (append_none xs)

one_point : (x lo hi k : ℤ) → lo ≤ℤ x → x ≤ℤ hi → k ≤ℤ lo → hi ≤ℤ k → (x ≡ lo) × (x ≡ hi)
one_point x lo hi k a b l h = (omega (arith, ints), omega (arith, ints))

le_is : (x y hi top : ℤ) → y ≡ top → x ≤ℤ int_min hi top → int_le x y ≡ true
le_is x y hi top e le = let l : x ≤ℤ y = omega (arith, ints, clamps) in grind (arith, ints)

gt_is : (x y lo low : ℤ) → y ≡ low → int_max lo (low +ℤ pos 1) ≤ℤ x → int_le x y ≡ false
gt_is x y lo low e le = let l : (y +ℤ pos 1) ≤ℤ x = omega (arith, ints, clamps) in grind (arith, ints)

module _ (laws : RunLaws) (flow : Flow) (defs : List Def) (v : Valuation) where
  equal : (s : State) (a b : NodeId) → IsTrueIn v s → AreEqual s a b → v a.0 ≡ v b.0
  equal s a b i e = plus_none (v a.0) (v b.0) (laws.derived (pure_of s) v (true_of v s i) (Eq a b (pos 0)) e)

  -- a known variable has its node's number, and an unknown one is undefined
  pub var_value : (c : Config) (p : PointId) (s : State) (x : VarId) → IsExactly v c p s → value_in c.vars x ≡ option_map (at_node v) (var_node s x)
  var_value c p s x at = ap (λ (l : List (Option ℤ)). slice_index_or l x.0 None) at.vars ∙ value_by v s.env x.0

  -- so has an operand, where its own node is true
  pub operand_value : (c : Config) (p : PointId) (s : State) (o : Operand) (n : NodeId) → IsExactly v c p s → IsTrueIn v (with_operand s o) → operand_node s o ≡ Some n → value_of c.vars o ≡ Some (v n.0)
  operand_value c p s (Var x) n at i e = var_value c p s x at ∙ ap (option_map (at_node v)) e
  operand_value c p s (Const k) n at i e = by (int_eq k (pos 0)) refl i e
    where
      by : (b : Bool) → int_eq k (pos 0) ≡ b → IsTrueIn v (if b then s else with_number s k) → Some (if b then null else next_node s) ≡ Some n → Some k ≡ Some (v n.0)
      by true is i h =
          let z = i.null in
          let zero' : k ≡ pos 0 = int_back k (pos 0) is in
          let same : null ≡ n = one_item null n h in
          ap Some (zero' ∙ sym z ∙ ap (λ (m : NodeId). v m.0) same)
      by false is i h =
          let same : next_node s ≡ n = one_item (next_node s) n h in
          let all : AllByRecursion (IsTrueAtom v) (s.atoms ++ In (next_node s) k k ∷ []) = i.atoms in
          let own : IsTrueAtom v (In (next_node s) k k) = last_true s.atoms all in
          ap Some (sym (in_one (v s.next) k own.0 own.1) ∙ ap (λ (m : NodeId). v m.0) same)
        where
          last_true : (xs : List Atom) → AllByRecursion (IsTrueAtom v) (xs ++ In (next_node s) k k ∷ []) → IsTrueAtom v (In (next_node s) k k)
          last_true [] all = all.0
          last_true (x ∷ xs) all = last_true xs all.1

  -- an operand's own node changes neither variables nor edges
  pub operand_exact : (c : Config) (p : PointId) (s : State) (o : Operand) → IsExactly v c p s → IsExactly v c p (with_operand s o)
  operand_exact c p s (Var x) at = at
  operand_exact c p s (Const k) at = by (int_eq k (pos 0))
    where
      by : (b : Bool) → IsExactly v c p (if b then s else with_number s k)
      by true = at
      by false = record { point = at.point; vars = at.vars; heap = at.heap; blocks = at.blocks; whole = at.whole }

  pub operand_edges : (s : State) (o : Operand) → (with_operand s o).graph ≡ s.graph
  operand_edges s (Var x) = refl
  operand_edges s (Const k) = by (int_eq k (pos 0))
    where
      by : (b : Bool) → (if b then s else with_number s k).graph ≡ s.graph
      by true = refl
      by false = refl

  -- at another point, with other atoms and kinds
  pub elsewhere : (c : Config) (p q : PointId) (s : State) → IsExactly v c p s → IsExactly v (at_point q c) q s
  elsewhere c p q s at = record { point = refl; vars = at.vars; heap = at.heap; blocks = at.blocks; whole = at.whole }

  -- a variable gets a node's number
  pub var_set : (c : Config) (p q : PointId) (s : State) (x : VarId) (n : NodeId) → IsExactly v c p s
      → IsExactly v (record { point = q.0; vars = with_value c.vars x (Some (v n.0)); heap = c.heap }) q (with_var s x (Some n))
  var_set c p q s x n at = record {
    point = refl;
    vars = ap (λ (l : List (Option ℤ)). slice_set l x.0 (Some (v n.0))) at.vars ∙ sym (set_by v s.env x.0 (Some n));
    heap = at.heap;
    blocks = at.blocks;
    whole = at.whole;
  }

  s1_goes : (c : Config) (p : PointId) (s : State) (ns : List Next) (n : Next) (place : ℕ) (choices : List Choice) → IsExactly v c p s → S1Is flow p s ns → slice_get ns place ≡ Some n → GoesTo flow defs v c choices choices n
  s1_goes c p s ns n place choices at i e =
      let code = has_code flow defs p (instr.Skip i.q) c i.at at.point in
      subst (GoesTo flow defs v c choices choices) (first_is n (moved_to i.q s) ns place e i.gives)
      (at_point i.q c, code.steps choices (next (at_point i.q c) choices) refl, elsewhere c p i.q s at)

  s2_goes : (c : Config) (p : PointId) (s : State) (ns : List Next) (n : Next) (place : ℕ) (choices : List Choice) → IsExactly v c p s → S2Is flow p s ns → slice_get ns place ≡ Some n → IsTrueIn v n.state → GoesTo flow defs v c choices choices n
  s2_goes c p s ns n place choices at i e holds =
      let code = has_code flow defs p (instr.Copy i.x i.from i.q) c i.at at.point in
      let t = with_operand s i.from in
      let same = first_is n (moved_to i.q (with_var t i.x (Some i.n))) ns place e i.gives in
      let here : IsTrueIn v (with_var t i.x (Some i.n)) = subst (λ (m : Next). IsTrueIn v m.state) (sym same) holds in
      let here' : IsTrueIn v t = record { null = here.null; kinds = here.kinds; atoms = here.atoms; starts = here.starts; apart = here.apart } in
      let value = operand_value c p s i.from i.n at here' i.known in
      let r = set_to i.x i.q c choices (v i.n.0) in
      subst (GoesTo flow defs v c choices choices) same (
        record { point = i.q.0; vars = with_value c.vars i.x (Some (v i.n.0)); heap = c.heap },
        code.steps choices r (sym (ap (copied i.x i.q code.point.place c choices) value)),
        var_set c p i.q t i.x i.n (operand_exact c p s i.from at),
      )

  -- ---- blocks

  -- where a block lies at a node, its address holds it
  pub record Lies (c : Config) (n : NodeId) (shape : StructId) (fields : List (Option NodeId)) : Type 0 where
    pub k : ℕ
    pub leads : v n.0 ≡ pos (suc k)
    pub high : v n.0 ≤ℤ pos 4611686018427387903
    pub here : region_of c.heap (suc k) ≡ Some (held v shape fields)

  pub lies : (c : Config) (p : PointId) (s : State) (n : NodeId) (shape : StructId) → IsExactly v c p s → IsTrueIn v s → (b : HasBlock s n shape) → Lies c n shape b.fields
  lies c p s n shape at i b =
      let level = equal s n b.at i b.equal in
      let bounds = start_all (IsAddressed v) s.graph.edges b.id b.at shape b.fields b.there i.starts in
      let a = positive (v b.at.0) bounds.0 in
      record {
        k = a.0;
        leads = level ∙ a.1;
        high = subst (λ (x : ℤ). x ≤ℤ pos 4611686018427387903) (sym level) bounds.1;
        here = at.heap (suc a.0) ∙ block_stored v s.graph.edges b.id b.at shape b.fields (suc a.0) i.apart b.there a.1;
      }

  s8_goes : (c : Config) (p : PointId) (s : State) (ns : List Next) (n : Next) (place : ℕ) (choices : List Choice) → IsExactly v c p s → IsTrueIn v s → S8Is flow p s ns → slice_get ns place ≡ Some n → GoesTo flow defs v c choices choices n
  s8_goes c p s ns n place choices at true' i e =
      let code = has_code flow defs p (instr.Load i.x i.y i.shape i.f i.q) c i.at at.point in
      let same = first_is n (moved_to i.q (with_var s i.x (Some i.m))) ns place e i.gives in
      let l = lies c p s i.n i.shape at true' i.block in
      let value : value_in c.vars i.y ≡ Some (pos (suc l.k)) = var_value c p s i.y at ∙ ap (option_map (at_node v)) i.known ∙ ap Some l.leads in
      let read : slice_get (values_by v i.block.fields) i.f ≡ Some (Some (v i.m.0)) = field_by v i.block.fields i.f ∙ ap (option_map (option_map (at_node v))) i.field in
      let r = set_to i.x i.q c choices (v i.m.0) in
      subst (GoesTo flow defs v c choices choices) same (
        record { point = i.q.0; vars = with_value c.vars i.x (Some (v i.m.0)); heap = c.heap },
        code.steps choices r (sym (ap (loaded i.x i.shape i.f i.q code.point.place c choices) value ∙ loaded_at i.x i.shape i.f i.q code.point.place c choices l.k (values_by v i.block.fields) (v i.m.0) l.here read)),
        var_set c p i.q s i.x i.m at,
      )

  s9_goes : (c : Config) (p : PointId) (s : State) (ns : List Next) (n : Next) (place : ℕ) (choices : List Choice) → IsExactly v c p s → IsTrueIn v s → S9Is flow p s ns → slice_get ns place ≡ Some n → IsTrueIn v n.state → GoesTo flow defs v c choices choices n
  s9_goes c p s ns n place choices at true' i e holds =
      let code = has_code flow defs p (instr.Store i.y i.shape i.f i.from i.q) c i.at at.point in
      let t = with_operand s i.from in
      let b = i.block in
      let others = slice_set b.fields i.f (Some i.m) in
      let to = λ (u : State). record u { graph = record u.graph { edges = replaced u.graph.edges b.id (edge.Block b.at i.shape others) } } in
      let gives = subst (λ (u : State). ns ≡ moved_to i.q (to u) ∷ []) i.operand i.gives in
      let same = first_is n (moved_to i.q (to t)) ns place e gives in
      let listed : edge_with t.graph.edges b.id ≡ Some (edge.Block b.at i.shape b.fields) = ap (λ (g : Graph). edge_with g.edges b.id) (operand_edges s i.from) ∙ b.there in
      let here : IsTrueIn v (to t) = subst (λ (m : Next). IsTrueIn v m.state) (sym same) holds in
      let before : IsTrueIn v t = stored_back v t b.id b.at i.shape b.fields others listed here in
      let at' = operand_exact c p s i.from at in
      let value = operand_value c p s i.from i.m at before i.value in
      let l = lies c p s i.n i.shape at true' b in
      let base : value_in c.vars i.y ≡ Some (pos (suc l.k)) = var_value c p s i.y at ∙ ap (option_map (at_node v)) i.known ∙ ap Some l.leads in
      let new : heap.Block = with_field (held v i.shape b.fields) i.f (v i.m.0) in
      let heap' = map.insert c.heap (suc l.k) new in
      let is_at : v b.at.0 ≡ pos (suc l.k) = sym (equal s i.n b.at true' b.equal) ∙ l.leads in
      let is_new : new ≡ held v i.shape others = ap (λ (l : List (Option ℤ)). let b : heap.Block = record { shape = i.shape.0; fields = l } in b) (sym (set_by v b.fields i.f (Some i.m))) in
      let change : Changes (region_of c.heap) (region_of heap') (suc l.k) (Some (held v i.shape others)) = subst (λ (x : heap.Block). Changes (region_of c.heap) (region_of heap') (suc l.k) (Some x)) is_new (laws.insert c.heap (suc l.k) new) in
      let inside : i.f < length (values_by v b.fields) = (let lt = i.field in let len = length_by v b.fields in omega arith) in
      subst (GoesTo flow defs v c choices choices) same (
        record { point = i.q.0; vars = c.vars; heap = heap' },
        code.steps choices (with_heap i.q c choices heap')
            (sym (ap₂ (put_in i.shape i.f i.q code.point.place c choices) value base ∙ stored_at i.shape i.f i.q code.point.place c choices l.k (values_by v b.fields) (v i.m.0) l.here inside)),
        record {
          point = refl;
          vars = at'.vars;
          heap = heap_replaced v (region_of c.heap) (region_of heap') t.graph.edges b.id b.at i.shape b.fields others l.k at'.heap before.apart listed is_at change;
          blocks = blocks_replaced t.graph.edges b.id b.at i.shape others at'.blocks;
          whole = at'.whole;
        },
      )

  -- malloc answers null
  pub null_goes : (c : Config) (p : PointId) (s : State) (ns : List Next) (n : Next) (rest : List Choice) → IsExactly v c p s → S10Is flow p s ns → slice_get ns 0 ≡ Some n → IsTrueIn v n.state → GoesTo flow defs v c (malloc 0 ∷ rest) rest n
  null_goes c p s ns n rest at i e holds =
      let code = has_code flow defs p (instr.Malloc i.x i.shape i.q) c i.at at.point in
      let same : moved_to i.q (with_var s i.x (Some null)) ≡ n = one_item _ n (sym (ap (λ (l : List Next). slice_get l 0) i.gives) ∙ e) in
      subst (GoesTo flow defs v c (malloc 0 ∷ rest) rest) same (
        record { point = i.q.0; vars = with_value c.vars i.x (Some (v 0)); heap = c.heap },
        code.steps (malloc 0 ∷ rest) (set_to i.x i.q c rest (v 0)) (ap (set_to i.x i.q c rest) holds.null),
        var_set c p i.q s i.x null at,
      )

  -- malloc answers the number of the new block's node
  pub made_goes : (c : Config) (p : PointId) (s : State) (ns : List Next) (n : Next) (rest : List Choice) → IsExactly v c p s → S10Is flow p s ns → slice_get ns 1 ≡ Some n → IsTrueIn v n.state → GoesTo flow defs v c (malloc (address (v s.next)) ∷ rest) rest n
  made_goes c p s ns n rest at i e holds =
      let code = has_code flow defs p (instr.Malloc i.x i.shape i.q) c i.at at.point in
      let count = field_count flow.structs i.shape in
      let t = with_block s i.shape count in
      let to = with_var t i.x (Some (next_node s)) in
      let same : moved_to i.q to ≡ n = one_item _ n (sym (ap (λ (l : List Next). slice_get l 1) i.gives) ∙ e) in
      let here : IsTrueIn v to = subst (λ (m : Next). IsTrueIn v m.state) (sym same) holds in
      let back = block_back v s i.shape count (record { null = here.null; kinds = here.kinds; atoms = here.atoms; starts = here.starts; apart = here.apart }) in
      let a = positive (v s.next) back.1.0 in
      let free : stored v s.graph.edges (suc a.0) ≡ None = none_stored v s.graph.edges (suc a.0) (all_map (λ (m : NodeId). v m.0 ≢ v s.next) (λ (m : NodeId). v m.0 ≢ pos (suc a.0)) (λ m ne is. ne (is ∙ sym a.1)) (block_starts s.graph.edges) back.2) in
      let free' : region_of c.heap (suc a.0) ≡ None = at.heap (suc a.0) ∙ free in
      let in_reach : IsAddress (suc a.0) = is_address (v s.next) a.0 a.1 back.1.1 in
      let heap' = map.insert c.heap (suc a.0) (fresh_block i.shape.0 count) in
      let d : Config = record { point = i.q.0; vars = with_value c.vars i.x (Some (pos (suc a.0))); heap = heap' } in
      let is_new : fresh_block i.shape.0 count ≡ held v i.shape (replicate count None) = ap (λ (l : List (Option ℤ)). let b : heap.Block = record { shape = i.shape.0; fields = l } in b) (sym (fresh_by v count)) in
      let change : Changes (region_of c.heap) (region_of heap') (suc a.0) (Some (held v i.shape (replicate count None))) = subst (λ (x : heap.Block). Changes (region_of c.heap) (region_of heap') (suc a.0) (Some x)) is_new (laws.insert c.heap (suc a.0) (fresh_block i.shape.0 count)) in
      let step : Step flow defs c (malloc (suc a.0) ∷ rest) (next d rest) = code.steps (malloc (suc a.0) ∷ rest) (next d rest) (in_reach, free', refl) in
      let choice : malloc (address (v s.next)) ≡ malloc (suc a.0) = ap (λ (x : ℤ). malloc (address x)) a.1 in
      subst (GoesTo flow defs v c (malloc (address (v s.next)) ∷ rest) rest) same (
        d,
        subst (λ (x : Choice). Step flow defs c (x ∷ rest) (next d rest)) (sym choice) step,
        record {
          point = refl;
          vars = ap₂ (λ (l : List (Option ℤ)) (z : ℤ). slice_set l i.x.0 (Some z)) at.vars (sym a.1) ∙ sym (set_by v s.env i.x.0 (Some (next_node s)));
          heap = heap_made v (region_of c.heap) (region_of heap') s.graph.edges (record { 0 = s.graph.next }) (next_node s) i.shape (replicate count None) a.0 at.heap free a.1 change;
          blocks = all_append (λ e. IsBlock e.1) s.graph.edges ((record { 0 = s.graph.next }, edge.Block (next_node s) i.shape (replicate count None)) ∷ []) at.blocks (tt, tt);
          whole = at.whole;
        },
      )

  s11_goes : (c : Config) (p : PointId) (s : State) (ns : List Next) (n : Next) (place : ℕ) (choices : List Choice) → IsExactly v c p s → S11Is flow p s ns → slice_get ns place ≡ Some n → IsTrueIn v n.state → GoesTo flow defs v c choices choices n
  s11_goes c p s ns n place choices at i e holds =
      let code = has_code flow defs p (instr.Free i.from i.q) c i.at at.point in
      let t = with_operand s i.from in
      let same = first_is n (moved_to i.q t) ns place e i.gives in
      let here : IsTrueIn v t = subst (λ (m : Next). IsTrueIn v m.state) (sym same) holds in
      let value = operand_value c p s i.from i.n at here i.known in
      let zero' : v i.n.0 ≡ pos 0 = equal t i.n null here i.zero ∙ here.null in
      subst (GoesTo flow defs v c choices choices) same (
        at_point i.q c,
        code.steps choices (next (at_point i.q c) choices) (sym (ap (freed i.q code.point.place c choices) (value ∙ ap Some zero'))),
        elsewhere c p i.q t (operand_exact c p s i.from at),
      )

  s12_goes : (c : Config) (p : PointId) (s : State) (ns : List Next) (n : Next) (place : ℕ) (choices : List Choice) → IsExactly v c p s → S12Is flow p s ns → slice_get ns place ≡ Some n → IsTrueIn v n.state → GoesTo flow defs v c choices choices n
  s12_goes c p s ns n place choices at i e holds =
      let code = has_code flow defs p (instr.Free i.from i.q) c i.at at.point in
      let b = i.block in
      let t = i.before in
      let es = without t.graph.edges b.id in
      let to = with_atoms (with_only_edges t es) (freed_atoms b.at (block_starts es)) in
      let same = first_is n (moved_to i.q to) ns place e i.gives in
      let here : IsTrueIn v to = subst (λ (m : Next). IsTrueIn v m.state) (sym same) holds in
      let before : IsTrueIn v t = freed_back v t b.id b.at i.shape b.fields b.there here in
      let at' : IsExactly v c p t = subst (λ (u : State). IsExactly v c p u) (sym i.operand) (operand_exact c p s i.from at) in
      let value = operand_value c p s i.from i.n at (subst (λ (u : State). IsTrueIn v u) i.operand before) i.known in
      let l = lies c p t i.n i.shape at' before b in
      let is_at : v b.at.0 ≡ pos (suc l.k) = sym (equal t i.n b.at before b.equal) ∙ l.leads in
      let heap' = map.remove c.heap (suc l.k) in
      subst (GoesTo flow defs v c choices choices) same (
        record { point = i.q.0; vars = c.vars; heap = heap' },
        code.steps choices (with_heap i.q c choices heap')
            (sym (ap (freed i.q code.point.place c choices) (value ∙ ap Some l.leads) ∙ freed_here i.q code.point.place c choices l.k (held v i.shape b.fields) l.here)),
        record {
          point = refl;
          vars = at'.vars;
          heap = heap_gone v (region_of c.heap) (region_of heap') t.graph.edges b.id b.at i.shape b.fields l.k at'.heap before.apart b.there is_at (laws.remove c.heap (suc l.k));
          blocks = blocks_left t.graph.edges b.id at'.blocks;
          whole = at'.whole;
        },
      )

  s13_goes : (c : Config) (p : PointId) (s : State) (ns : List Next) (n : Next) (place : ℕ) (choices : List Choice) → IsExactly v c p s → S13Is flow p s ns → slice_get ns place ≡ Some n → IsTrueIn v n.state → GoesTo flow defs v c choices choices n
  s13_goes c p s ns n place choices at i e holds =
      let code = has_code flow defs p (instr.TestEq i.o i.o' i.t i.f) c i.at at.point in
      let t = i.before in
      let one = with_operand s i.o in
      let at1 = operand_exact c p s i.o at in
      let at' : IsExactly v c p t = subst (λ (u : State). IsExactly v c p u) (sym i.operands) (operand_exact c p one i.o' at1) in
      by place (subst (λ (l : List Next). slice_get l place ≡ Some n) i.gives e)
    where
      values : IsTrueIn v i.before → (value_of c.vars i.o ≡ Some (v i.a.0)) × (value_of c.vars i.o' ≡ Some (v i.b.0))
      values h =
          let h' : IsTrueIn v (with_operand (with_operand s i.o) i.o') = subst (λ (u : State). IsTrueIn v u) i.operands h in
          let h1 = operand_true v (with_operand s i.o) i.o' h' in
          (operand_value c p s i.o i.a at h1 i.left_known, operand_value c p (with_operand s i.o) i.o' i.b (operand_exact c p s i.o at) h' i.right_known)

      to : PointId → Atom → Next
      to q f = moved_to q (with_atom i.before f)

      last_true : (xs : List Atom) (f : Atom) → AllByRecursion (IsTrueAtom v) (xs ++ f ∷ []) → IsTrueAtom v f
      last_true [] f all = all.0
      last_true (x ∷ xs) f all = last_true xs f all.1

      goes : (q : PointId) (f : Atom) (b : Bool) → (IsTrueAtom v f → int_eq (v i.a.0) (v i.b.0) ≡ b) → (b ≡ true → q ≡ i.t) → (b ≡ false → q ≡ i.f) → moved_to q (with_atom i.before f) ≡ n → GoesTo flow defs v c choices choices n
      goes q f b tests on off same =
          let code = has_code flow defs p (instr.TestEq i.o i.o' i.t i.f) c i.at at.point in
          let at1 = operand_exact c p s i.o at in
          let at' : IsExactly v c p i.before = subst (λ (u : State). IsExactly v c p u) (sym i.operands) (operand_exact c p (with_operand s i.o) i.o' at1) in
          let here : IsTrueIn v (with_atom i.before f) = subst (λ (m : Next). IsTrueIn v m.state) (sym same) holds in
          let before : IsTrueIn v i.before = less_true v i.before (with_atom i.before f) [] (f ∷ []) (sym (append_none i.before.kinds)) refl refl here in
          let vs = values before in
          let yes = tests (last_true i.before.atoms f here.atoms) in
          subst (GoesTo flow defs v c choices choices) same (
            at_point q c,
            code.steps choices (next (at_point q c) choices)
                (sym (ap₂ (tested int_eq i.t i.f code.point.place c choices) vs.0 vs.1 ∙ ap (λ (b : Bool). if b then next (at_point i.t c) choices else next (at_point i.f c) choices) yes ∙ way b on off)),
            record { point = refl; vars = at'.vars; heap = at'.heap; blocks = at'.blocks; whole = at'.whole },
          )
        where
          way : (b : Bool) → (b ≡ true → q ≡ i.t) → (b ≡ false → q ≡ i.f) → ◌≡◌ {A = Result} (if b then next (at_point i.t c) choices else next (at_point i.f c) choices) (next (at_point q c) choices)
          way true on off = ap (λ (z : PointId). next (at_point z c) choices) (sym (on refl))
          way false on off = ap (λ (z : PointId). next (at_point z c) choices) (sym (off refl))

      by : (place : ℕ) → slice_get (moved_to i.t (with_atom i.before (Eq i.a i.b (pos 0))) ∷ moved_to i.f (with_atom i.before (Ne i.a i.b (pos 0))) ∷ []) place ≡ Some n → GoesTo flow defs v c choices choices n
      by zero h = goes i.t (Eq i.a i.b (pos 0)) true (λ x. eq_yes (v i.a.0) (v i.b.0) (plus_none (v i.a.0) (v i.b.0) x)) (λ y. refl) (λ y. absurd cc) (one_item _ n h)
      by (suc zero) h = goes i.f (Ne i.a i.b (pos 0)) false (λ x. eq_no (v i.a.0) (v i.b.0) (λ same. x (with_none (v i.a.0) (v i.b.0) same))) (λ y. absurd cc) (λ y. refl) (one_item _ n h)
      by (suc (suc k)) h = cc

  s18_goes : (c : Config) (p : PointId) (s : State) (ns : List Next) (n : Next) (place : ℕ) (choices : List Choice) → IsExactly v c p s → S18Is flow p s ns → slice_get ns place ≡ Some n → GoesTo flow defs v c choices choices n
  s18_goes c p s ns n place choices at i e =
      let code = has_code flow defs p (instr.AssertEmpty i.q) c i.at at.point in
      subst (GoesTo flow defs v c choices choices) (first_is n (moved_to i.q s) ns place e i.gives) (
        at_point i.q c,
        code.steps choices (next (at_point i.q c) choices) (inl (record { none = λ a. at.heap a ∙ ap (λ (es : Edges). stored v es a) i.none }, refl)),
        elsewhere c p i.q s at,
      )

  -- variables are forgotten
  without_exact : (c : Config) (p q : PointId) (s : State) (xs : List VarId) → IsExactly v c p s → IsExactly v (record { point = q.0; vars = gone c.vars xs; heap = c.heap }) q (without_vars s xs)
  without_exact c p q s [] at = record { point = refl; vars = at.vars; heap = at.heap; blocks = at.blocks; whole = at.whole }
  without_exact c p q s (x ∷ xs) at = without_exact (record { point = p.0; vars = with_value c.vars x None; heap = c.heap }) p q (with_var s x None) xs
      (record { point = refl; vars = ap (λ (l : List (Option ℤ)). slice_set l x.0 None) at.vars ∙ sym (set_by v s.env x.0 None); heap = at.heap; blocks = at.blocks; whole = at.whole })

  s3_goes : (c : Config) (p : PointId) (s : State) (ns : List Next) (n : Next) (place : ℕ) (choices : List Choice) → IsExactly v c p s → S3Is flow p s ns → slice_get ns place ≡ Some n → GoesTo flow defs v c choices choices n
  s3_goes c p s ns n place choices at i e =
      let code = has_code flow defs p (instr.Undef i.xs i.q) c i.at at.point in
      subst (GoesTo flow defs v c choices choices) (first_is n (moved_to i.q (without_vars s i.xs)) ns place e i.gives)
      (record { point = i.q.0; vars = gone c.vars i.xs; heap = c.heap }, code.steps choices (next (record { point = i.q.0; vars = gone c.vars i.xs; heap = c.heap }) choices) refl, without_exact c p i.q s i.xs at)

  -- ---- numbers

  -- the least range of a number is the number
  single : (s : State) (a : NodeId) (lo hi : ℤ) → IsTrueIn v s → IsNumber (pure_of s) a → HasRange (pure_of s) a lo hi → (v a.0 ≡ lo) × (v a.0 ≡ hi)
  single s a lo hi i number range =
      let at = laws.derived (pure_of s) v (true_of v s i) (In a lo hi) (inl range.follows) in
      let least = range.least number.0 number.0 number.1 in
      one_point (v a.0) lo hi number.0 at.0 at.1 least.0 least.1

  computes_goes : (op : ℤ → ℤ → ℤ) (offsets : NodeId → NodeId → NodeId → Range → Range → List Atom) (x : VarId) (o o' : Operand) (q : PointId) (c : Config) (p : PointId) (s : State) (ns : List Next) (n : Next) (place : ℕ) (at' : Place) (choices : List Choice)
      → IsExactly v c p s → (m : Computes op offsets x o o' q s ns) → IsNumber (pure_of m.before) m.a → IsNumber (pure_of m.before) m.b → slice_get ns place ≡ Some n → IsTrueIn v n.state
      → (d : Config) × (computed op x q at' c choices (value_of c.vars o) (value_of c.vars o') ≡ next d choices) × IsExactly v d n.point n.state
  computes_goes op offsets x o o' q c p s ns n place at' choices at m na nb e holds =
      let t = m.before in
      let u = with_var (with_nodes t (Int ∷ [])) x (Some (next_node t)) in
      let range = range_atoms op (next_node t) m.left m.right m.results in
      let atoms = range ++ offsets (next_node t) m.a m.b m.left m.right in
      let same = first_is n (moved_to q (with_atoms u atoms)) ns place e m.gives in
      let here : IsTrueIn v (with_atoms u atoms) = subst (λ (k : Next). IsTrueIn v k.state) (sym same) holds in
      let before : IsTrueIn v t = less_true v t (with_atoms u atoms) ((next_node t, Int) ∷ []) atoms refl refl refl here in
      let b' : IsTrueIn v (with_operand (with_operand s o) o') = subst (λ (k : State). IsTrueIn v k) m.operands before in
      let b1 = operand_true v (with_operand s o) o' b' in
      let va = operand_value c p s o m.a at b1 m.left_known in
      let vb = operand_value c p (with_operand s o) o' m.b (operand_exact c p s o at) b' m.right_known in
      let left : HasRange (pure_of t) m.a m.left.lo m.left.hi = subst (λ (k : State). HasRange (pure_of k) m.a m.left.lo m.left.hi) (sym m.operands) m.left_range in
      let right : HasRange (pure_of t) m.b m.right.lo m.right.hi = subst (λ (k : State). HasRange (pure_of k) m.b m.right.lo m.right.hi) (sym m.operands) m.right_range in
      let la = single t m.a m.left.lo m.left.hi before na left in
      let lb = single t m.b m.right.lo m.right.hi before nb right in
      let all : AllByRecursion (IsTrueAtom v) (t.atoms ++ atoms) = here.atoms in
      let news = all_left (IsTrueAtom v) range (offsets (next_node t) m.a m.b m.left m.right) (all_right (IsTrueAtom v) t.atoms atoms all) in
      let result : v t.next ≡ wrapped (op (v m.a.0) (v m.b.0)) = result_is op (next_node t) m.left m.right m.results (v m.a.0) (v m.b.0) la lb news in
      let at'' : IsExactly v c p t = subst (λ (k : State). IsExactly v c p k) (sym m.operands) (operand_exact c p (with_operand s o) o' (operand_exact c p s o at)) in
      let d : Config = record { point = q.0; vars = with_value c.vars x (Some (wrapped (op (v m.a.0) (v m.b.0)))); heap = c.heap } in
      subst (λ (k : Next). (d : Config) × (computed op x q at' c choices (value_of c.vars o) (value_of c.vars o') ≡ next d choices) × IsExactly v d k.point k.state) same (
        d,
        ap₂ (computed op x q at' c choices) va vb,
        record {
          point = refl;
          vars = ap₂ (λ (l : List (Option ℤ)) (z : ℤ). slice_set l x.0 (Some z)) at''.vars (sym result) ∙ sym (set_by v t.env x.0 (Some (next_node t)));
          heap = at''.heap;
          blocks = at''.blocks;
          whole = at''.whole;
        },
      )
    where
      result_is : (op : ℤ → ℤ → ℤ) (k : NodeId) (left right : Range) (results : Option Range) (x y : ℤ) → (x ≡ left.lo) × (x ≡ left.hi) → (y ≡ right.lo) × (y ≡ right.hi)
          → AllByRecursion (IsTrueAtom v) (range_atoms op k left right results) → v k.0 ≡ wrapped (op x y)
      result_is op k left right results x y lx ly all =
          let one : is_single left ≡ true = eq_yes left.lo left.hi (sym lx.0 ∙ lx.1) in
          let two : is_single right ≡ true = eq_yes right.lo right.hi (sym ly.0 ∙ ly.1) in
          let w = wrapped (op left.lo right.lo) in
          let both : (is_single left && is_single right) ≡ true = ap₂ (λ (a b : Bool). a && b) one two in
          let all' : AllByRecursion (IsTrueAtom v) (In k w w ∷ []) = subst (λ (b : Bool). AllByRecursion (IsTrueAtom v) (if b then In k w w ∷ [] else in_range k results)) both all in
          in_one (v k.0) w all'.0.0 all'.0.1 ∙ ap₂ (λ (a b : ℤ). wrapped (op a b)) (sym lx.0) (sym ly.0)

  s14_goes : (c : Config) (p : PointId) (s : State) (ns : List Next) (n : Next) (place : ℕ) (choices : List Choice) → IsExactly v c p s → (i : S14Is flow p s ns) → IsNumber (pure_of i.before) i.a → IsNumber (pure_of i.before) i.b
      → slice_get ns place ≡ Some n → IsTrueIn v n.state → GoesTo flow defs v c choices choices n
  s14_goes c p s ns n place choices at i na nb e holds = by place (subst (λ (l : List Next). slice_get l place ≡ Some n) i.gives e)
    where
      values : IsTrueIn v i.before → (value_of c.vars i.o ≡ Some (v i.a.0)) × (value_of c.vars i.o' ≡ Some (v i.b.0))
      values h =
          let h' : IsTrueIn v (with_operand (with_operand s i.o) i.o') = subst (λ (u : State). IsTrueIn v u) i.operands h in
          let h1 = operand_true v (with_operand s i.o) i.o' h' in
          (operand_value c p s i.o i.a at h1 i.left_known, operand_value c p (with_operand s i.o) i.o' i.b (operand_exact c p s i.o at) h' i.right_known)

      goes : (q : PointId) (fs : List Atom) (b : Bool)
          → ((v i.a.0 ≡ i.left.lo) × (v i.a.0 ≡ i.left.hi) → (v i.b.0 ≡ i.right.lo) × (v i.b.0 ≡ i.right.hi) → AllByRecursion (IsTrueAtom v) fs → int_le (v i.a.0) (v i.b.0) ≡ b)
          → (b ≡ true → q ≡ i.t) → (b ≡ false → q ≡ i.f) → moved_to q (with_atoms i.before fs) ≡ n → GoesTo flow defs v c choices choices n
      goes q fs b tests on off same =
          let code = has_code flow defs p (instr.TestLe i.o i.o' i.t i.f) c i.at at.point in
          let at1 = operand_exact c p s i.o at in
          let at' : IsExactly v c p i.before = subst (λ (u : State). IsExactly v c p u) (sym i.operands) (operand_exact c p (with_operand s i.o) i.o' at1) in
          let here : IsTrueIn v (with_atoms i.before fs) = subst (λ (m : Next). IsTrueIn v m.state) (sym same) holds in
          let before : IsTrueIn v i.before = less_true v i.before (with_atoms i.before fs) [] fs (sym (append_none i.before.kinds)) refl refl here in
          let vs = values before in
          let yes = tests (single i.before i.a i.left.lo i.left.hi before na i.left_range) (single i.before i.b i.right.lo i.right.hi before nb i.right_range) (all_right (IsTrueAtom v) i.before.atoms fs here.atoms) in
          subst (GoesTo flow defs v c choices choices) same (
            at_point q c,
            code.steps choices (next (at_point q c) choices)
                (sym (ap₂ (tested int_le i.t i.f code.point.place c choices) vs.0 vs.1 ∙ ap (λ (b : Bool). if b then next (at_point i.t c) choices else next (at_point i.f c) choices) yes ∙ way b on off)),
            record { point = refl; vars = at'.vars; heap = at'.heap; blocks = at'.blocks; whole = at'.whole },
          )
        where
          way : (b : Bool) → (b ≡ true → q ≡ i.t) → (b ≡ false → q ≡ i.f) → ◌≡◌ {A = Result} (if b then next (at_point i.t c) choices else next (at_point i.f c) choices) (next (at_point q c) choices)
          way true on off = ap (λ (z : PointId). next (at_point z c) choices) (sym (on refl))
          way false on off = ap (λ (z : PointId). next (at_point z c) choices) (sym (off refl))

      by : (place : ℕ) → slice_get (moved_to i.t (with_atoms i.before (le_atoms i.a i.b i.left i.right)) ∷ moved_to i.f (with_atoms i.before (gt_atoms i.a i.b i.left i.right)) ∷ []) place ≡ Some n → GoesTo flow defs v c choices choices n
      by zero h = goes i.t (le_atoms i.a i.b i.left i.right) true (λ la lb all. le_is (v i.a.0) (v i.b.0) i.left.hi i.right.hi lb.1 all.0.1) (λ y. refl) (λ y. absurd cc) (one_item _ n h)
      by (suc zero) h = goes i.f (gt_atoms i.a i.b i.left i.right) false (λ la lb all. gt_is (v i.a.0) (v i.b.0) i.left.lo i.right.lo lb.0 all.0.0) (λ y. absurd cc) (λ y. refl) (one_item _ n h)
      by (suc (suc k)) h = cc

  -- ---- each rule

  -- the numbers of the nodes that are computed with or compared
  abbrev pub AreNumbers : (p : PointId) (s : State) (ns : List Next) → IsSilent flow p s ns → Type 0
  AreNumbers p s ns (rule.S5 i) = IsNumber (pure_of i.computes.before) i.computes.a × IsNumber (pure_of i.computes.before) i.computes.b
  AreNumbers p s ns (rule.S6 i) = IsNumber (pure_of i.computes.before) i.computes.a × IsNumber (pure_of i.computes.before) i.computes.b
  AreNumbers p s ns (rule.S7 i) = IsNumber (pure_of i.computes.before) i.computes.a × IsNumber (pure_of i.computes.before) i.computes.b
  AreNumbers p s ns (rule.S14 i) = IsNumber (pure_of i.before) i.a × IsNumber (pure_of i.before) i.b
  AreNumbers p s ns other = Unit {0}

  computes_by : (op : ℤ → ℤ → ℤ) (offsets : NodeId → NodeId → NodeId → Range → Range → List Atom) (x : VarId) (o o' : Operand) (q : PointId) (c : Config) (p : PointId) (s : State) (ns : List Next) (n : Next) (place : ℕ) (code : Instr) (choices : List Choice)
      → IsExactly v c p s → (m : Computes op offsets x o o' q s ns) → IsNumber (pure_of m.before) m.a × IsNumber (pure_of m.before) m.b → slice_get ns place ≡ Some n → IsTrueIn v n.state
      → code_at flow p ≡ Some code → ((at' : Place) (r : Result) → r ≡ computed op x q at' c choices (value_of c.vars o) (value_of c.vars o') → StepOf flow.structs defs at' code c choices r) → GoesTo flow defs v c choices choices n
  computes_by op offsets x o o' q c p s ns n place code choices at m numbers e holds is steps =
      let has = has_code flow defs p code c is at.point in
      let g = computes_goes op offsets x o o' q c p s ns n place has.point.place choices at m numbers.0 numbers.1 e holds in
      (g.0, has.steps choices (next g.0 choices) (steps has.point.place (next g.0 choices) (sym g.1)), g.2)

  pub silent_goes : (c : Config) (p : PointId) (s : State) (ns : List Next) (n : Next) (place : ℕ) (choices : List Choice) → IsExactly v c p s → IsTrueIn v s → (i : IsSilent flow p s ns) → AreNumbers p s ns i
      → slice_get ns place ≡ Some n → IsTrueIn v n.state → GoesTo flow defs v c choices choices n
  silent_goes c p s ns n place choices at true' (rule.S1 i) numbers e holds = s1_goes c p s ns n place choices at i e
  silent_goes c p s ns n place choices at true' (rule.S2 i) numbers e holds = s2_goes c p s ns n place choices at i e holds
  silent_goes c p s ns n place choices at true' (rule.S3 i) numbers e holds = s3_goes c p s ns n place choices at i e
  silent_goes c p s ns n place choices at true' (rule.S5 i) numbers e holds = computes_by (λ a b. a +ℤ b) _ i.x i.o i.o' i.q c p s ns n place _ choices at i.computes numbers e holds i.at (λ at' r h. h)
  silent_goes c p s ns n place choices at true' (rule.S6 i) numbers e holds = computes_by (λ a b. a -ℤ b) _ i.x i.o i.o' i.q c p s ns n place _ choices at i.computes numbers e holds i.at (λ at' r h. h)
  silent_goes c p s ns n place choices at true' (rule.S7 i) numbers e holds = computes_by (λ a b. a *ℤ b) _ i.x i.o i.o' i.q c p s ns n place _ choices at i.computes numbers e holds i.at (λ at' r h. h)
  silent_goes c p s ns n place choices at true' (rule.S8 i) numbers e holds = s8_goes c p s ns n place choices at true' i e
  silent_goes c p s ns n place choices at true' (rule.S9 i) numbers e holds = s9_goes c p s ns n place choices at true' i e holds
  silent_goes c p s ns n place choices at true' (rule.S11 i) numbers e holds = s11_goes c p s ns n place choices at i e holds
  silent_goes c p s ns n place choices at true' (rule.S12 i) numbers e holds = s12_goes c p s ns n place choices at i e holds
  silent_goes c p s ns n place choices at true' (rule.S13 i) numbers e holds = s13_goes c p s ns n place choices at i e holds
  silent_goes c p s ns n place choices at true' (rule.S14 i) numbers e holds = s14_goes c p s ns n place choices at i numbers.0 numbers.1 e holds
  silent_goes c p s ns n place choices at true' (rule.S18 i) numbers e holds = s18_goes c p s ns n place choices at i e
