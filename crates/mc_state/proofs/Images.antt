-- Numbers stay in their bounds where nodes are renamed, merged or dropped.
use Rattle.std.proofs.Common.{◌≡◌, ◌≢◌, true, false, ℕ, suc, List, [], ◌∷◌, map, Option, Some, None, refl, sym, ap, subst, inl, inr, arith, eq-eqb}
use Rattle.std.specs.Prelude.{◌==◌, option_map, slice_get, Contains}
use Rattle.std.specs.List.{AllByRecursion}
use Rattle.std.proofs.lemmas.Bool.{cases_eq, ne_eqb}
use Rattle.mc_base.specs.declared.ids.EdgeId.{EdgeId}
use Rattle.mc_base.specs.declared.ids.NodeId.{NodeId}
use Rattle.mc_base.specs.declared.plain.Atom.{Atom}
use Rattle.mc_base.specs.declared.plain.Atom.TheVariants.{Eq, Ne, In}
use Rattle.mc_base.specs.Atoms.{nodes_of_atom, moved_atom}
use Rattle.mc_base.specs.Nodes.{moved}
use Rattle.mc_state.specs.declared.graph.edge.Edge.{Edge}
use Rattle.mc_state.specs.declared.graph.edge.Edge.TheVariants.{Block, Ind, Seg}
use Rattle.mc_state.specs.Graph.Edges.{known_nodes, nodes_of, moved_edge}
use Rattle.mc_state.specs.Graph.Graph.{Edges, IdsAscend}
use Rattle.mc_pure.specs.Pure.{Kinds, IsNode}
use Rattle.mc_state.specs.Facts.{instead}
use Rattle.mc_pure.specs.Whole.{kinds_without}
use Rattle.mc_state.specs.Fits.{AreNodes}
use Rattle.mc_state.specs.Laws.{RenamedStaysBounded, MergedStaysBounded, DroppedStaysBounded}
use Rattle.mc_state.proofs.Lists.{all_append, all_left, all_right, all_map, all_of_map}
use Rattle.mc_state.proofs.Nodes.{same_node, node_kept, ascend_without}

module _ (f : ℕ → ℕ) (kinds images : Kinds) (goes : (n : NodeId) → IsNode kinds n → IsNode images (moved f n)) where
  nodes_go : (ns : List NodeId) → AreNodes kinds ns → AreNodes images (map (moved f) ns)
  nodes_go [] a = tt
  nodes_go (n ∷ ns) a = (goes n a.0, nodes_go ns a.1)

  vars_go : (xs : List (Option NodeId)) → AreNodes kinds (known_nodes xs) → AreNodes images (known_nodes (map (option_map (moved f)) xs))
  vars_go [] a = tt
  vars_go (None ∷ xs) a = vars_go xs a
  vars_go (Some n ∷ xs) a = (goes n a.0, vars_go xs a.1)

  edge_goes : (e : Edge) → AreNodes kinds (nodes_of e) → AreNodes images (nodes_of (moved_edge f e))
  edge_goes (Block at shape fields) a = (goes at a.0, vars_go fields a.1)
  edge_goes (Ind at pred args) a = (goes at a.0, nodes_go args a.1)
  edge_goes (Seg at args pred «end» ends) a =
      let more = all_right (IsNode kinds) args («end» ∷ ends) a.1 in
      (goes at a.0, all_append (IsNode images) (map (moved f) args) (moved f «end» ∷ map (moved f) ends) (nodes_go args (all_left (IsNode kinds) args («end» ∷ ends) a.1)) (goes «end» more.0, nodes_go ends more.1))

  atom_goes : (g : Atom) → AreNodes kinds (nodes_of_atom g) → AreNodes images (nodes_of_atom (moved_atom f g))
  atom_goes (Eq a b c) there = (goes a there.0, (goes b there.1.0, tt))
  atom_goes (Ne a b c) there = (goes a there.0, (goes b there.1.0, tt))
  atom_goes (In a lo hi) there = (goes a there.0, tt)

ids_moved : (f : ℕ → ℕ) (low : ℕ) (es : Edges) (high : ℕ) → IdsAscend low es high → IdsAscend low (map (λ (e : EdgeId × Edge). (e.0, moved_edge f e.1)) es) high
ids_moved f low [] high a = tt
ids_moved f low (e ∷ es) high a = (a.0, a.1, ids_moved f (suc e.0.0) es high a.2)

pub renamed_stays_bounded : RenamedStaysBounded
renamed_stays_bounded s f kinds next b positive ascend goes =
    record {
      positive = positive;
      kinds = ascend;
      ids = ids_moved f 0 s.graph.edges s.graph.next b.ids;
      vars = vars_go f s.kinds kinds goes s.env b.vars;
      edges = all_of_map (λ (e : EdgeId × Edge). AreNodes kinds (nodes_of e.1)) (λ (e : EdgeId × Edge). (e.0, moved_edge f e.1)) s.graph.edges
          (all_map (λ (e : EdgeId × Edge). AreNodes s.kinds (nodes_of e.1)) (λ (e : EdgeId × Edge). AreNodes kinds (nodes_of (moved_edge f e.1))) (λ e there. edge_goes f s.kinds kinds goes e.1 there) s.graph.edges b.edges);
      atoms = all_of_map (λ (g : Atom). AreNodes kinds (nodes_of_atom g)) (moved_atom f) s.atoms
          (all_map (λ (g : Atom). AreNodes s.kinds (nodes_of_atom g)) (λ (g : Atom). AreNodes kinds (nodes_of_atom (moved_atom f g))) (atom_goes f s.kinds kinds goes) s.atoms b.atoms);
    }

-- ---- one node in place of another

pub moved_gone : (keep gone n : NodeId) → n.0 ≡ gone.0 → moved (instead keep.0 gone.0) n ≡ keep
moved_gone keep gone n e = let here : (n.0 == gone.0) ≡ true = eq-eqb n.0 gone.0 e in rw here refl

pub moved_other : (keep gone n : NodeId) → n.0 ≢ gone.0 → moved (instead keep.0 gone.0) n ≡ n
moved_other keep gone n e = let there : (n.0 == gone.0) ≡ false = ne_eqb n.0 gone.0 e in rw there refl

pub merged_stays_bounded : MergedStaysBounded
merged_stays_bounded s keep gone merge b =
    renamed_stays_bounded s (instead keep.0 gone.0) (kinds_without s.kinds gone) s.next b b.positive (ascend_without 1 s.kinds s.next gone b.kinds)
    (λ n there. elim (cases_eq n.0 gone.0) [
      | inl e ↦ subst (IsNode (kinds_without s.kinds gone)) (sym (moved_gone keep gone n e)) (node_kept s.kinds gone keep (λ same. merge.differ (same_node keep gone same)) merge.keep_is)
      | inr e ↦ subst (IsNode (kinds_without s.kinds gone)) (sym (moved_other keep gone n e)) (node_kept s.kinds gone n e there)
    ])

-- ---- a node that nothing names

module _ (kinds : Kinds) (gone : NodeId) where
  others_stay : (ns : List NodeId) → (Contains ns gone → ⊥) → AreNodes kinds ns → AreNodes (kinds_without kinds gone) ns
  others_stay [] unnamed a = tt
  others_stay (n ∷ ns) unnamed a = (
    node_kept kinds gone n (λ e. unnamed (0, omega arith, same_node n gone e)) a.0,
    others_stay ns (λ c. let less = c.1 in unnamed (suc c.0, omega arith, c.2)) a.1,
  )

  vars_stay : (xs : List (Option NodeId)) → ((place : ℕ) → slice_get xs place ≡ Some (Some gone) → ⊥) → AreNodes kinds (known_nodes xs) → AreNodes (kinds_without kinds gone) (known_nodes xs)
  vars_stay [] unnamed a = tt
  vars_stay (None ∷ xs) unnamed a = vars_stay xs (λ place e. unnamed (suc place) e) a
  vars_stay (Some n ∷ xs) unnamed a = (
    node_kept kinds gone n (λ e. unnamed 0 (ap (λ (m : NodeId). Some (Some m)) (same_node n gone e))) a.0,
    vars_stay xs (λ place e. unnamed (suc place) e) a.1,
  )

  edges_stay : (es : Edges) → ((place : ℕ) (id : EdgeId) (e : Edge) → slice_get es place ≡ Some (id, e) → Contains (nodes_of e) gone → ⊥)
      → AllByRecursion (λ (e : EdgeId × Edge). AreNodes kinds (nodes_of e.1)) es → AllByRecursion (λ (e : EdgeId × Edge). AreNodes (kinds_without kinds gone) (nodes_of e.1)) es
  edges_stay [] unnamed a = tt
  edges_stay (e ∷ es) unnamed a = (others_stay (nodes_of e.1) (unnamed 0 e.0 e.1 refl) a.0, edges_stay es (λ place id x is. unnamed (suc place) id x is) a.1)

pub dropped_stays_bounded : DroppedStaysBounded
dropped_stays_bounded s n atoms b unnamed there =
    record {
      positive = b.positive;
      kinds = ascend_without 1 s.kinds s.next n b.kinds;
      ids = b.ids;
      vars = vars_stay s.kinds n s.env unnamed.vars b.vars;
      edges = edges_stay s.kinds n s.graph.edges unnamed.edges b.edges;
      atoms = there;
    }
