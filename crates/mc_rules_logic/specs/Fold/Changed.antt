-- The rules that name, merge and drop.
use Rattle.std.specs.Prelude.{◌≡◌, ◌↔◌, List, [], ◌∷◌, ℤ, Some, Contains, false}
use Rattle.std.specs.List.{AllByRecursion}
use Rattle.mc_base.specs.declared.ids.EdgeId.{EdgeId}
use Rattle.mc_base.specs.declared.ids.NodeId.{NodeId}
use Rattle.mc_base.specs.declared.plain.Kind.{Kind}
use Rattle.mc_base.specs.declared.plain.Atom.{Atom}
use Rattle.mc_base.specs.declared.plain.Atom.TheVariants.{Eq}
use Rattle.mc_base.specs.Atoms.{nodes_of_atom}
use Rattle.mc_base.specs.Nodes.{null}
use Rattle.mc_state.specs.declared.graph.edge.Edge.{Edge}
use Rattle.mc_state.specs.Graph.Edges.{start_of}
use Rattle.mc_state.specs.Graph.Graph.{edge_with, without}
use Rattle.mc_pure.specs.Pure.{Pure, HasKind, IsNode}
use Rattle.mc_pure.specs.Derived.{Follows, LiesIn}
use Rattle.mc_state.specs.State.{State, pure_of, next_node, with_nodes, with_atoms, with_only_edges}
use Rattle.mc_state.specs.Facts.{IsFalse, Derives, AreEqual, IsReached, IsUnnamed, CanMerge, merged}
use Rattle.mc_pure.specs.Whole.{kinds_without}
use Rattle.mc_state.specs.Fits.{AreNodes}
use Rattle.mc_pure.specs.Whole.{IsWholeList}

-- L8: a new node of a kind is another node and a number more; it lies in the kind's range, and is of the node's kind, or the node is 0
pub record NamesSpare (node : NodeId) (add : ℤ) (kind : Kind) (s : State) (next : List State) : Type 0 where
  pub consistent : IsFalse s → ⊥
  pub there : IsNode s.kinds node
  pub lies : LiesIn (pure_of s) kind node add
  pub one_kind : HasKind s.kinds kind node
  pub gives : next ≡ with_atoms (with_nodes s (kind ∷ [])) (Eq (next_node s) node add ∷ []) ∷ []

-- L9: a node stands in place of an equal one everywhere
pub record MergesNodes (keep gone : NodeId) (s : State) (next : List State) : Type 0 where
  pub consistent : IsFalse s → ⊥
  pub can : CanMerge s.kinds keep gone
  pub equal : AreEqual s keep gone
  pub gives : next ≡ merged keep gone s ∷ []

-- L10: an edge whose start is not reached is dropped, and the edges are all that is allocated no longer
pub record DropsEdge (edge : EdgeId) (s : State) (next : List State) : Type 0 where
  pub consistent : IsFalse s → ⊥
  pub e : Edge
  pub there : edge_with s.graph.edges edge ≡ Some e
  pub unreached : IsReached s (start_of e) → ⊥
  pub gives : next ≡ record (with_only_edges s (without s.graph.edges edge)) { whole = false } ∷ []

-- the atoms of a list and kinds alone
abbrev pub alone : State → Pure
alone t = record { kinds = t.kinds; written = t.atoms; starts = [] }

-- the state without a node, and with other atoms
abbrev pub left_over : State → NodeId → List Atom → State
left_over s n atoms = record s { kinds = kinds_without s.kinds n; atoms = atoms }

-- the state without a node: the atoms that are written now derive, with the kinds alone, exactly those that were entailed
-- and do not name it, and they are the canonical list of what they derive, with the disequalities inside one class
pub record Forgets (node : NodeId) (s t : State) : Type 0 where
  pub env : t.env ≡ s.env
  pub graph : t.graph ≡ s.graph
  pub next : t.next ≡ s.next
  pub whole : t.whole ≡ s.whole
  pub kinds : t.kinds ≡ kinds_without s.kinds node
  pub named : AllByRecursion (λ f. AreNodes t.kinds (nodes_of_atom f)) t.atoms
  pub derived : (f : Atom) → Follows (alone t) f ↔ (Derives s f × (Contains (nodes_of_atom f) node → ⊥))
  pub listed : IsWholeList (alone t) t.atoms

-- L11: a node that stands in no variable and in no edge is forgotten
pub record ForgetsNode (node : NodeId) (s : State) (next : List State) : Type 0 where
  pub consistent : IsFalse s → ⊥
  pub there : IsNode s.kinds node
  pub not_null : node ≡ null → ⊥
  pub unnamed : IsUnnamed node s
  pub after : State
  pub forgets : Forgets node s after
  pub gives : next ≡ after ∷ []

-- the atoms are those that are written where the node is forgotten, if it may be
abbrev pub IsListWithout : NodeId → State → List Atom → Type 0
IsListWithout node s atoms =
    (IsFalse s → ⊥) → IsNode s.kinds node → (node ≡ null → ⊥) → IsUnnamed node s → Forgets node s (left_over s node atoms)
