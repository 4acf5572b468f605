-- Renamings that lead the nodes of a state to the same nodes.
use Rattle.std.proofs.Common.{◌≡◌, ℕ, List, [], ◌∷◌, ◌++◌, Option, Some, None, map, option_map, refl, ap}
use Rattle.std.specs.List.{AllByRecursion}
use Rattle.mc_base.specs.declared.ids.EdgeId.{EdgeId}
use Rattle.mc_base.specs.declared.ids.NodeId.{NodeId}
use Rattle.mc_base.specs.declared.plain.Atom.{Atom}
use Rattle.mc_base.specs.declared.plain.Atom.TheVariants.{Eq, Ne, In}
use Rattle.mc_base.specs.Atoms.{nodes_of_atom, moved_atom}
use Rattle.mc_base.specs.Nodes.{moved}
use Rattle.mc_state.specs.declared.graph.edge.Edge.{Edge}
use Rattle.mc_state.specs.declared.graph.edge.Edge.TheVariants.{Block, Ind, Seg}
use Rattle.mc_state.specs.Graph.Edges.{known_nodes, nodes_of, moved_edge}
use Rattle.mc_state.specs.Graph.Graph.{Edges}
use Rattle.mc_pure.specs.Pure.{Kinds, IsNode}
use Rattle.mc_state.specs.Fits.{AreNodes}
use Rattle.mc_joins.specs.Alike.Alike.{moved_edges}

-- ---- the nodes of images

module _ (f : ℕ → ℕ) where
  pub known_moved : (fields : List (Option NodeId)) → known_nodes (map (option_map (moved f)) fields) ≡ map (moved f) (known_nodes fields)
  known_moved [] = refl
  known_moved (None ∷ fields) = known_moved fields
  known_moved (Some n ∷ fields) = ap (λ (z : List NodeId). moved f n ∷ z) (known_moved fields)

  pub append_moved : (xs ys : List NodeId) → map (moved f) (xs ++ ys) ≡ map (moved f) xs ++ map (moved f) ys
  append_moved [] ys = refl
  append_moved (x ∷ xs) ys = ap (λ (z : List NodeId). moved f x ∷ z) (append_moved xs ys)

  pub nodes_moved : (e : Edge) → nodes_of (moved_edge f e) ≡ map (moved f) (nodes_of e)
  nodes_moved (Block at shape fields) = ap (λ (z : List NodeId). moved f at ∷ z) (known_moved fields)
  nodes_moved (Ind at pred args) = refl
  nodes_moved (Seg at args pred «end» ends) = rw append_moved refl

-- ---- two renamings that agree on nodes

module _ (kinds : Kinds) (f g : ℕ → ℕ) (moves : (n : NodeId) → IsNode kinds n → moved f n ≡ moved g n) where
  pub env_same : (env : List (Option NodeId)) → AreNodes kinds (known_nodes env) → map (option_map (moved f)) env ≡ map (option_map (moved g)) env
  env_same [] h = refl
  env_same (None ∷ env) h = ap (λ (z : List (Option NodeId)). None ∷ z) (env_same env h)
  env_same (Some n ∷ env) h = rw (moves n h.0, env_same env h.1) refl

  nodes_same : (ns : List NodeId) → AreNodes kinds ns → map (moved f) ns ≡ map (moved g) ns
  nodes_same [] h = refl
  nodes_same (n ∷ ns) h = rw (moves n h.0, nodes_same ns h.1) refl

  pub atom_same : (a : Atom) → AreNodes kinds (nodes_of_atom a) → moved_atom f a ≡ moved_atom g a
  atom_same (Eq a b c) h = rw (moves a h.0, moves b h.1.0) refl
  atom_same (Ne a b c) h = rw (moves a h.0, moves b h.1.0) refl
  atom_same (In a lo hi) h = rw (moves a h.0) refl

  first_there : (xs ys : List NodeId) → AreNodes kinds (xs ++ ys) → AreNodes kinds xs × AreNodes kinds ys
  first_there [] ys h = (tt, h)
  first_there (x ∷ xs) ys h = let k = first_there xs ys h.1 in ((h.0, k.0), k.1)

  pub edge_same : (e : Edge) → AreNodes kinds (nodes_of e) → moved_edge f e ≡ moved_edge g e
  edge_same (Block at shape fields) h = rw (moves at h.0, env_same fields h.1) refl
  edge_same (Ind at pred args) h = rw (moves at h.0, nodes_same args h.1) refl
  edge_same (Seg at args pred «end» ends) h =
      let k = first_there args («end» ∷ ends) h.1 in
      rw (moves at h.0, nodes_same args k.0, moves «end» k.1.0, nodes_same ends k.1.1) refl

  pub entries_same : (es : Edges) → AllByRecursion (λ (e : EdgeId × Edge). AreNodes kinds (nodes_of e.1)) es → moved_edges f es ≡ moved_edges g es
  entries_same [] h = refl
  entries_same (e ∷ es) h = rw (edge_same e.1 h.0, entries_same es h.1) refl
