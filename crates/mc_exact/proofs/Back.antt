-- What is true after a rule was true before it.
use Rattle.std.proofs.Common.{◌≡◌, ◌≢◌, ℕ, ℤ, pos, ◌+ℤ◌, Bool, true, false, Option, Some, None, List, [], ◌∷◌, ◌++◌, map, replicate, if◌then◌else◌, refl, ap, ◌∙◌, subst, arith}
use Rattle.std.specs.Prelude.{◌==◌}
use Rattle.std.specs.List.{AllByRecursion}
use Rattle.std.specs.Ordering.{int_eq}
use Rattle.std.proofs.lemmas.Int.{ints}
use Rattle.mc_base.specs.declared.ids.EdgeId.{EdgeId}
use Rattle.mc_base.specs.declared.ids.NodeId.{NodeId}
use Rattle.mc_base.specs.declared.ids.StructId.{StructId}
use Rattle.mc_base.specs.declared.ids.VarId.{VarId}
use Rattle.mc_base.specs.declared.plain.Atom.{Atom}
use Rattle.mc_base.specs.declared.plain.Atom.TheVariants.{Ne, In}
use Rattle.mc_base.specs.declared.plain.Kind.{Kind}
use Rattle.mc_base.specs.declared.plain.Kind.TheVariants.{Int, Ptr}
use Rattle.mc_base.specs.Atoms.{IsTrueAtom}
use Rattle.mc_base.specs.Kinds.{InKind}
use Rattle.mc_base.specs.Nodes.{Valuation}
use Rattle.mc_flow.specs.declared.instr.Operand.{Operand}
use Rattle.mc_flow.specs.declared.instr.Operand.TheVariants.{Var, Const}
use Rattle.mc_state.specs.declared.graph.edge.Edge.{Edge}
use Rattle.mc_state.specs.declared.graph.edge.Edge.TheVariants as edge
use Rattle.mc_state.specs.Graph.Graph.{Edges, edge_with, without, replaced, block_starts}
use Rattle.mc_state.specs.State.{State, with_var, without_vars, with_number, with_atoms, with_only_edges, with_block, next_node}
use Rattle.mc_state.proofs.Lists.{all_left, all_right}
use Rattle.mc_rules_steps.specs.Operands.{with_operand}
use Rattle.mc_rules_steps.specs.Steps.{freed_atoms}
use Rattle.mc_exact.proofs.Exactly.{IsTrueIn, IsAddressed, AreApart}
use Rattle.mc_exact.proofs.Stored.{all_back, apart_back}
use Rattle.mc_exact.proofs.Lists.{apart_front, apart_last}

-- only kinds, atoms and edges count
pub same_true : (v : Valuation) (s t : State) → t.kinds ≡ s.kinds → t.atoms ≡ s.atoms → t.graph.edges ≡ s.graph.edges → IsTrueIn v t → IsTrueIn v s
same_true v s t k a g i = record {
  null = i.null;
  kinds = subst (λ (ks : List (NodeId × Kind)). AllByRecursion (λ k. InKind k.1 (v k.0.0)) ks) k i.kinds;
  atoms = subst (λ (as' : List Atom). AllByRecursion (IsTrueAtom v) as') a i.atoms;
  starts = subst (λ (es : Edges). AllByRecursion (IsAddressed v) (block_starts es)) g i.starts;
  apart = subst (λ (es : Edges). AreApart v (block_starts es)) g i.apart;
}

-- fewer kinds and atoms
pub less_true : (v : Valuation) (s t : State) (kinds : List (NodeId × Kind)) (atoms : List Atom) → t.kinds ≡ s.kinds ++ kinds → t.atoms ≡ s.atoms ++ atoms → t.graph.edges ≡ s.graph.edges → IsTrueIn v t → IsTrueIn v s
less_true v s t kinds atoms k a g i = record {
  null = i.null;
  kinds = all_left (λ k. InKind k.1 (v k.0.0)) s.kinds kinds (subst (λ (ks : List (NodeId × Kind)). AllByRecursion (λ k. InKind k.1 (v k.0.0)) ks) k i.kinds);
  atoms = all_left (IsTrueAtom v) s.atoms atoms (subst (λ (as' : List Atom). AllByRecursion (IsTrueAtom v) as') a i.atoms);
  starts = subst (λ (es : Edges). AllByRecursion (IsAddressed v) (block_starts es)) g i.starts;
  apart = subst (λ (es : Edges). AreApart v (block_starts es)) g i.apart;
}

pub without_true : (v : Valuation) (s : State) (xs : List VarId) → IsTrueIn v (without_vars s xs) → IsTrueIn v s
without_true v s [] i = i
without_true v s (x ∷ xs) i = same_true v s (with_var s x None) refl refl refl (without_true v (with_var s x None) xs i)

pub operand_true : (v : Valuation) (s : State) (o : Operand) → IsTrueIn v (with_operand s o) → IsTrueIn v s
operand_true v s (Var x) i = i
operand_true v s (Const c) i = at (int_eq c (pos 0)) i
  where
    at : (b : Bool) → IsTrueIn v (if b then s else with_number s c) → IsTrueIn v s
    at true h = h
    at false h = less_true v s (with_number s c) ((next_node s, Int) ∷ []) (In (next_node s) c c ∷ []) refl refl refl h

-- a block that goes: what is written of its start makes up for it
pub freed_back : (v : Valuation) (t : State) (id : EdgeId) (n : NodeId) (shape : StructId) (fields : List (Option NodeId)) → edge_with t.graph.edges id ≡ Some (edge.Block n shape fields)
    → IsTrueIn v (with_atoms (with_only_edges t (without t.graph.edges id)) (freed_atoms n (block_starts (without t.graph.edges id)))) → IsTrueIn v t
freed_back v t id n shape fields e i =
    let new = all_right (IsTrueAtom v) t.atoms (freed_atoms n (block_starts (without t.graph.edges id))) i.atoms in
    let away = apart_of v n (block_starts (without t.graph.edges id)) new.1 in
    record {
      null = i.null;
      kinds = i.kinds;
      atoms = all_left (IsTrueAtom v) t.atoms (freed_atoms n (block_starts (without t.graph.edges id))) i.atoms;
      starts = all_back (IsAddressed v) t.graph.edges id n shape fields e new.0 i.starts;
      apart = apart_back v t.graph.edges id n shape fields e away i.apart;
    }
  where
    apart_of : (v : Valuation) (n : NodeId) (others : List NodeId) → AllByRecursion (IsTrueAtom v) (map (λ (b : NodeId). Ne n b (pos 0)) others) → AllByRecursion (λ (b : NodeId). v n.0 ≢ v b.0) others
    apart_of v n [] all = tt
    apart_of v n (b ∷ others) all = (λ same. all.0 (no_more (v n.0) (v b.0) same), apart_of v n others all.1)
      where
        no_more : (x y : ℤ) → x ≡ y → x ≡ y +ℤ pos 0
        no_more x y e = omega (arith, ints)

-- a block that changes starts where it did
pub replaced_starts : (es : Edges) (id : EdgeId) (n : NodeId) (shape : StructId) (fields others : List (Option NodeId)) → edge_with es id ≡ Some (edge.Block n shape fields)
    → block_starts (replaced es id (edge.Block n shape others)) ≡ block_starts es
replaced_starts [] id n shape fields others e = refl
replaced_starts ((k, edge.Block m own contents) ∷ es) id n shape fields others e = at (λ h. replaced_starts es id n shape fields others h) (k.0 == id.0) e
  where
    at : (edge_with es id ≡ Some (edge.Block n shape fields) → block_starts (replaced es id (edge.Block n shape others)) ≡ block_starts es) → (b : Bool) → (if b then Some (edge.Block m own contents) else edge_with es id) ≡ Some (edge.Block n shape fields)
        → block_starts (if b then (k, edge.Block n shape others) ∷ es else (k, edge.Block m own contents) ∷ replaced es id (edge.Block n shape others)) ≡ m ∷ block_starts es
    at later true h = let node : n ≡ m = cc in ap (λ (x : NodeId). x ∷ block_starts es) node
    at later false h = ap (λ (l : List NodeId). m ∷ l) (later h)
replaced_starts ((k, edge.Ind m pred args) ∷ es) id n shape fields others e = at (λ h. replaced_starts es id n shape fields others h) (k.0 == id.0) e
  where
    at : (edge_with es id ≡ Some (edge.Block n shape fields) → block_starts (replaced es id (edge.Block n shape others)) ≡ block_starts es) → (b : Bool) → (if b then Some (edge.Ind m pred args) else edge_with es id) ≡ Some (edge.Block n shape fields)
        → block_starts (if b then (k, edge.Block n shape others) ∷ es else (k, edge.Ind m pred args) ∷ replaced es id (edge.Block n shape others)) ≡ block_starts es
    at later true h = cc
    at later false h = later h
replaced_starts ((k, edge.Seg m args pred «end» ends) ∷ es) id n shape fields others e = at (λ h. replaced_starts es id n shape fields others h) (k.0 == id.0) e
  where
    at : (edge_with es id ≡ Some (edge.Block n shape fields) → block_starts (replaced es id (edge.Block n shape others)) ≡ block_starts es) → (b : Bool) → (if b then Some (edge.Seg m args pred «end» ends) else edge_with es id) ≡ Some (edge.Block n shape fields)
        → block_starts (if b then (k, edge.Block n shape others) ∷ es else (k, edge.Seg m args pred «end» ends) ∷ replaced es id (edge.Block n shape others)) ≡ block_starts es
    at later true h = cc
    at later false h = later h

pub replaced_there : (es : Edges) (id : EdgeId) (old new : Edge) → edge_with es id ≡ Some old → edge_with (replaced es id new) id ≡ Some new
replaced_there [] id old new e = cc
replaced_there ((k, x) ∷ es) id old new e = at (λ h. replaced_there es id old new h) (k.0 == id.0) refl e
  where
    at : (edge_with es id ≡ Some old → edge_with (replaced es id new) id ≡ Some new) → (b : Bool) → (k.0 == id.0) ≡ b → (if b then Some x else edge_with es id) ≡ Some old → edge_with (if b then (k, new) ∷ es else (k, x) ∷ replaced es id new) id ≡ Some new
    at later true is h = ap (λ (c : Bool). if c then Some new else edge_with es id) is
    at later false is h = ap (λ (c : Bool). if c then Some x else edge_with (replaced es id new) id) is ∙ later h

pub stored_back : (v : Valuation) (t : State) (id : EdgeId) (n : NodeId) (shape : StructId) (fields others : List (Option NodeId)) → edge_with t.graph.edges id ≡ Some (edge.Block n shape fields)
    → IsTrueIn v (record t { graph = record t.graph { edges = replaced t.graph.edges id (edge.Block n shape others) } }) → IsTrueIn v t
stored_back v t id n shape fields others e i =
    let same = replaced_starts t.graph.edges id n shape fields others e in
    record {
      null = i.null;
      kinds = i.kinds;
      atoms = i.atoms;
      starts = subst (λ (ns : List NodeId). AllByRecursion (IsAddressed v) ns) same i.starts;
      apart = subst (λ (ns : List NodeId). AreApart v ns) same i.apart;
    }

-- a new block after the others
pub more_starts : (es : Edges) (id : EdgeId) (n : NodeId) (shape : StructId) (fields : List (Option NodeId)) → block_starts (es ++ (id, edge.Block n shape fields) ∷ []) ≡ block_starts es ++ n ∷ []
more_starts [] id n shape fields = refl
more_starts ((k, edge.Block m own contents) ∷ es) id n shape fields = ap (λ (l : List NodeId). m ∷ l) (more_starts es id n shape fields)
more_starts ((k, edge.Ind m pred args) ∷ es) id n shape fields = more_starts es id n shape fields
more_starts ((k, edge.Seg m args pred «end» ends) ∷ es) id n shape fields = more_starts es id n shape fields

pub block_back : (v : Valuation) (s : State) (shape : StructId) (count : ℕ) → IsTrueIn v (with_block s shape count)
    → IsTrueIn v s × IsAddressed v (next_node s) × AllByRecursion (λ (a : NodeId). v a.0 ≢ v s.next) (block_starts s.graph.edges)
block_back v s shape count i =
    let same = more_starts s.graph.edges (record { 0 = s.graph.next }) (next_node s) shape (replicate count None) in
    let starts = subst (λ (ns : List NodeId). AllByRecursion (IsAddressed v) ns) same i.starts in
    let apart = subst (λ (ns : List NodeId). AreApart v ns) same i.apart in (
      record {
        null = i.null;
        kinds = all_left (λ k. InKind k.1 (v k.0.0)) s.kinds ((next_node s, Ptr) ∷ []) i.kinds;
        atoms = i.atoms;
        starts = all_left (IsAddressed v) (block_starts s.graph.edges) (next_node s ∷ []) starts;
        apart = apart_front v (block_starts s.graph.edges) (next_node s) apart;
      },
      (all_right (IsAddressed v) (block_starts s.graph.edges) (next_node s ∷ []) starts).0,
      apart_last v (block_starts s.graph.edges) (next_node s) apart,
    )
