-- The images of a state's nodes are their new numbers.
use Rattle.std.proofs.Common.{◌≡◌, inl, inr, ℕ, suc, ◌<◌, ◌≤◌, ◌+◌, List, [], ◌∷◌, Option, Some, None, Bool, true, false, nat_eq, length, map, option_map, refl, sym, ◌∙◌, ap, subst, arith}
use Rattle.std.specs.Prelude.{if◌then◌else◌}
use Rattle.std.specs.List.{AllByRecursion}
use Rattle.mc_base.specs.declared.ids.EdgeId.{EdgeId}
use Rattle.mc_base.specs.declared.ids.NodeId.{NodeId}
use Rattle.mc_base.specs.declared.plain.Atom.{Atom}
use Rattle.mc_base.specs.declared.plain.Atom.TheVariants.{Eq, Ne, In}
use Rattle.mc_base.specs.declared.plain.Kind.{Kind}
use Rattle.mc_base.specs.Atoms.{nodes_of_atom, moved_atom}
use Rattle.mc_base.specs.Nodes.{null, moved}
use Rattle.mc_state.specs.declared.graph.edge.Edge.{Edge}
use Rattle.mc_state.specs.Graph.Edges.{known_nodes, nodes_of, moved_edge}
use Rattle.mc_state.specs.Graph.Graph.{Graph, Edges, no_edges, with_new, numbered, moved_graph}
use Rattle.mc_pure.specs.Pure.{Kinds, HasKind, IsNode, IsWellFormed, kind_of}
use Rattle.mc_pure.specs.Nodes.{RiseFrom}
use Rattle.mc_pure_ops.specs.Renaming.Images.{Images, image_of, image_or, image}
use Rattle.mc_state.specs.State.{State, with_atoms, with_edges}
use Rattle.mc_state.specs.Fits.{AreNodes, IsBounded}
use Rattle.mc_state.specs.Laws.{moved_kinds}
use Rattle.mc_joins.specs.Same.Same.{place_from, anew, numbered_graph}
use Rattle.mc_joins.specs.Anew.Numbers.{AreNumbers, numbered_nodes}
use Rattle.mc_joins.proofs.Agree.{nodes_moved, env_same, atom_same, edge_same}
use Rattle.mc_joins.proofs.AnewLemmas.Lists.{all_over, long_map}
use Rattle.mc_joins.proofs.AnewLemmas.Numbering.{below_none}
use Rattle.mc_joins.proofs.AnewLemmas.Filling.{graph_of}
use Rattle.mc_pure.proofs.Changing.{no, same_node, yes}

-- ---- places

-- a number below the least has no place
place_below : (place low : ℕ) (kinds : Kinds) (n : ℕ) → RiseFrom low kinds → n < low → place_from place kinds n ≡ 0
place_below place low [] n r l = refl
place_below place low (k ∷ kinds) n r l =
    let first : low ≤ k.0.0 = r.0 in
    rw (no k.0.0 n (omega arith)) (place_below (suc place) (suc k.0.0) kinds n r.1 (omega arith))

-- a node that is there has one from the first on
place_least : (place : ℕ) (kinds : Kinds) (n : NodeId) (kind : Kind) → kind_of kinds n ≡ Some kind → place ≤ place_from place kinds n.0
place_least place [] n kind e = cc
place_least place (k ∷ kinds) n kind e = at (λ h. place_least (suc place) kinds n kind h) (nat_eq k.0.0 n.0) e
  where
    at : (kind_of kinds n ≡ Some kind → suc place ≤ place_from (suc place) kinds n.0) → (b : Bool) → (if b then Some k.1 else kind_of kinds n) ≡ Some kind → place ≤ (if b then place else place_from (suc place) kinds n.0)
    at h true e = omega arith
    at h false e = let l = h e in omega arith

-- kinds of nodes with numbers from one on
abbrev counted : ℕ → Kinds → Kinds
counted place [] = []
counted place (k ∷ kinds) = (record { 0 = place }, k.1) ∷ counted (suc place) kinds

-- nodes that are numbered in order keep their kinds
counted_kind : (place : ℕ) (kinds : Kinds) (n : NodeId) (kind : Kind) → kind_of kinds n ≡ Some kind → kind_of (counted place kinds) (record { 0 = place_from place kinds n.0 }) ≡ Some kind
counted_kind place [] n kind e = cc
counted_kind place (k ∷ kinds) n kind e = at (λ h. counted_kind (suc place) kinds n kind h) (λ h. place_least (suc place) kinds n kind h) (nat_eq k.0.0 n.0) e
  where
    at : (kind_of kinds n ≡ Some kind → kind_of (counted (suc place) kinds) (record { 0 = place_from (suc place) kinds n.0 }) ≡ Some kind)
        → (kind_of kinds n ≡ Some kind → suc place ≤ place_from (suc place) kinds n.0) → (b : Bool) → (if b then Some k.1 else kind_of kinds n) ≡ Some kind
        → kind_of (counted place (k ∷ kinds)) (record { 0 = if b then place else place_from (suc place) kinds n.0 }) ≡ Some kind
    at h l true e = rw (yes place place refl) e
    at h l false e =
        let later = l e in
        rw (no place (place_from (suc place) kinds n.0) (omega arith)) (h e)

counted_at : (f : ℕ → ℕ) (place low : ℕ) (kinds : Kinds) → RiseFrom low kinds → ((n : ℕ) → low ≤ n → f n ≡ place_from place kinds n) → moved_kinds f kinds ≡ counted place kinds
counted_at f place low [] r e = refl
counted_at f place low (k ∷ kinds) r e =
    let first : f k.0.0 ≡ place = e k.0.0 r.0 ∙ here in
    let rest = counted_at f (suc place) (suc k.0.0) kinds r.1 (λ n l. e n (more n l) ∙ later n l) in
    ap (λ (z : ℕ). let x : NodeId = record { 0 = z } in (x, k.1) ∷ moved_kinds f kinds) first ∙ ap (λ (z : Kinds). let x : NodeId = record { 0 = place } in (x, k.1) ∷ z) rest
  where
    here : place_from place (k ∷ kinds) k.0.0 ≡ place
    here = rw (yes k.0.0 k.0.0 refl) refl

    more : (n : ℕ) → suc k.0.0 ≤ n → low ≤ n
    more n l = let first : low ≤ k.0.0 = r.0 in omega arith

    later : (n : ℕ) → suc k.0.0 ≤ n → place_from place (k ∷ kinds) n ≡ place_from (suc place) kinds n
    later n l = rw (no k.0.0 n (omega arith)) refl

-- an edge, its image, and its image with its id
abbrev edge_in : EdgeId × Edge → Edge
edge_in e = e.1

abbrev edge_by : (ℕ → ℕ) → EdgeId × Edge → Edge
edge_by h e = moved_edge h e.1

abbrev entry_by : (ℕ → ℕ) → EdgeId × Edge → EdgeId × Edge
entry_by h e = (e.0, moved_edge h e.1)

-- ---- images

module _ (kinds : Kinds) (rise : RiseFrom 1 kinds) (images : Images) (numbers : AreNumbers kinds images) where
  abbrev f : ℕ → ℕ
  f = image images

  abbrev g : ℕ → ℕ
  g = place_from 1 kinds

  null_stays : f 0 ≡ 0
  null_stays =
      let none : image_of images null ≡ None = numbers null ∙ ap (λ (z : Option Kind). option_map (λ kind. moved g null) z) (below_none 1 kinds null rise (omega arith)) in
      ap (λ (z : Option NodeId). (image_or z null).0) none

  some_agrees : (n : NodeId) (kind : Kind) → kind_of kinds n ≡ Some kind → f n.0 ≡ g n.0
  some_agrees n kind e =
      let some : image_of images n ≡ Some (moved g n) = numbers n ∙ ap (λ (z : Option Kind). option_map (λ kind. moved g n) z) e in
      ap (λ (z : Option NodeId). (image_or z n).0) some

  agrees : (n : NodeId) → IsNode kinds n → f n.0 ≡ g n.0
  agrees n (kind, inl e) = ap (λ (z : NodeId). f z.0) e ∙ (null_stays ∙ (sym (place_below 1 1 kinds 0 rise (omega arith)) ∙ ap (λ (z : NodeId). g z.0) (sym e)))
  agrees n (kind, inr e) = some_agrees n kind e

  moves : (n : NodeId) → IsNode kinds n → moved f n ≡ moved g n
  moves n h = same_node (moved f n) (moved g n) (agrees n h)

  -- the images have the kinds of the nodes
  has : (kind : Kind) (n : NodeId) → HasKind kinds kind n → HasKind (moved_kinds g kinds) kind (moved f n)
  has kind n (inl e) = inl (ap (λ (z : NodeId). moved f z) e ∙ same_node (moved f null) null null_stays)
  has kind n (inr e) =
      let is = counted_at g 1 1 kinds rise (λ n l. refl) in
      inr (rw (moves n (kind, inr e), is) (counted_kind 1 kinds n kind e))

  there : (n : NodeId) → IsNode kinds n → IsNode (moved_kinds g kinds) (moved f n)
  there n h = (h.0, has h.0 n h.1)

  all_there : (ns : List NodeId) → AreNodes kinds ns → AreNodes (moved_kinds g kinds) (map (moved f) ns)
  all_there [] h = tt
  all_there (n ∷ ns) h = (there n h.0, all_there ns h.1)

  well : (a : Atom) → IsWellFormed kinds a → IsWellFormed (moved_kinds g kinds) (moved_atom f a)
  well (Eq a b c) w = ((w.0.0, has w.0.0 a w.0.1, has w.0.0 b w.0.2), w.1)
  well (Ne a b c) w = ((w.0.0, has w.0.0 a w.0.1, has w.0.0 b w.0.2), w.1)
  well (In a lo hi) w = (there a w.0, w.1, w.2)

  pub atoms_well : (atoms : List Atom) → AllByRecursion (IsWellFormed kinds) atoms → AllByRecursion (λ a. IsWellFormed (moved_kinds g kinds) (moved_atom f a)) atoms
  atoms_well atoms w = all_over (IsWellFormed kinds) (λ (a : Atom). IsWellFormed (moved_kinds g kinds) (moved_atom f a)) atoms well w

  pub vars_there : (env : List (Option NodeId)) → AreNodes kinds (known_nodes env) → AreNodes (moved_kinds g kinds) (map (moved f) (known_nodes env))
  vars_there env h = all_there (known_nodes env) h

  -- the nodes of an edge's image
  edge_there : (e : EdgeId × Edge) → AreNodes kinds (nodes_of e.1) → AreNodes (moved_kinds g kinds) (nodes_of (moved_edge f e.1))
  edge_there e h = subst (λ (z : List NodeId). AreNodes (moved_kinds g kinds) z) (sym (nodes_moved f e.1)) (all_there (nodes_of e.1) h)

  pub edges_there : (es : Edges) → AllByRecursion (λ e. AreNodes kinds (nodes_of e.1)) es → AllByRecursion (λ e. AreNodes (moved_kinds g kinds) (nodes_of (moved_edge f e.1))) es
  edges_there es h = all_over (λ (e : EdgeId × Edge). AreNodes kinds (nodes_of e.1)) (λ (e : EdgeId × Edge). AreNodes (moved_kinds g kinds) (nodes_of (moved_edge f e.1))) es edge_there h

  -- ---- the same by places

  vars_same : (env : List (Option NodeId)) → AreNodes kinds (known_nodes env) → map (option_map (moved f)) env ≡ map (option_map (moved g)) env
  vars_same env h = env_same kinds f g moves env h

  atoms_same : (atoms : List Atom) → AllByRecursion (λ a. AreNodes kinds (nodes_of_atom a)) atoms → map (moved_atom f) atoms ≡ map (moved_atom g) atoms
  atoms_same [] h = refl
  atoms_same (a ∷ atoms) h = rw (atom_same kinds f g moves a h.0, atoms_same atoms h.1) refl

  edges_same : (es : Edges) → AllByRecursion (λ e. AreNodes kinds (nodes_of e.1)) es → map (edge_by f) es ≡ map edge_in (map (entry_by g) es)
  edges_same [] h = refl
  edges_same (e ∷ es) h = rw (edge_same kinds f g moves e.1 h.0, edges_same es h.1) refl

  graph_same : (graph : Graph) → AllByRecursion (λ e. AreNodes kinds (nodes_of e.1)) graph.edges → with_new no_edges (map (edge_by f) graph.edges) ≡ numbered_graph (moved_graph g graph)
  graph_same graph h =
      let es = edges_same graph.edges h in
      let long : 0 + length (map (edge_by f) graph.edges) ≡ length (map (entry_by g) graph.edges) =
      let a = long_map (edge_by f) graph.edges in
      let b = long_map (entry_by g) graph.edges in
      omega arith in
      made (ap (λ (z : List Edge). numbered 0 z) es) long
    where
      made : {es fs : Edges} {m n : ℕ} → es ≡ fs → m ≡ n → graph_of es m ≡ graph_of fs n
      made p q = rw (p, q) refl

-- ---- the state numbered anew

abbrev with_parts : State → List (Option NodeId) → Graph → List Atom → State
with_parts s vars g atoms = record { env = vars; kinds = moved_kinds (place_from 1 s.kinds) s.kinds; graph = g; atoms = atoms; next = suc (length s.kinds); whole = s.whole }

pub all_anew : (s : State) (images : Images) (fresh vars atoms edges whole : State) → RiseFrom 1 s.kinds → IsBounded s → AreNumbers s.kinds images
    → fresh ≡ numbered_nodes (length s.env) s.kinds
    → vars ≡ record fresh { env = map (option_map (moved (image images))) s.env }
    → atoms ≡ with_atoms vars (map (moved_atom (image images)) s.atoms)
    → edges ≡ with_edges atoms (map (edge_by (image images)) s.graph.edges)
    → whole ≡ record edges { whole = s.whole }
    → whole ≡ anew s
all_anew s images fresh vars atoms edges whole rise bounded numbers a b c d e =
    let env = vars_same s.kinds rise images numbers s.env bounded.vars in
    let facts = atoms_same s.kinds rise images numbers s.atoms bounded.atoms in
    let graph = graph_same s.kinds rise images numbers s.graph bounded.edges in
    let first = b ∙ ap (λ (z : State). record z { env = map (option_map (moved (image images))) s.env }) a in
    let second = c ∙ ap (λ (z : State). with_atoms z (map (moved_atom (image images)) s.atoms)) first in
    let third = d ∙ ap (λ (z : State). with_edges z (map (edge_by (image images)) s.graph.edges)) second in
    e ∙ (ap (λ (z : State). record z { whole = s.whole }) third ∙ made env graph facts)
  where
    made : {u v : List (Option NodeId)} {g h : Graph} {x y : List Atom} → u ≡ v → g ≡ h → x ≡ y → with_parts s u g x ≡ with_parts s v h y
    made p q r = rw (p, q, r) refl
