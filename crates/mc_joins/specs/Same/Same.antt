-- States that are the same under a renaming, and states whose nodes and edges are numbered anew.
use Rattle.std.specs.Prelude.{◌≡◌, ◌==◌, ◌↔◌, ℕ, suc, List, [], ◌∷◌, Option, Some, length, map, option_map, if◌then◌else◌}
use Rattle.mc_base.specs.declared.ids.NodeId.{NodeId}
use Rattle.mc_base.specs.declared.plain.Kind.{Kind}
use Rattle.mc_base.specs.declared.plain.Atom.{Atom}
use Rattle.mc_base.specs.Atoms.{nodes_of_atom, moved_atom}
use Rattle.mc_base.specs.Nodes.{moved}
use Rattle.mc_state.specs.Graph.Graph.{Graph, moved_graph, numbered}
use Rattle.mc_pure.specs.Pure.{Kinds, IsNode, kind_of}
use Rattle.mc_state.specs.State.{State, renamed}
use Rattle.mc_state.specs.Facts.{Derives}
use Rattle.mc_state.specs.Fits.{AreNodes}
use Rattle.mc_state.specs.Laws.{moved_kinds}

-- node 0 goes to node 0, each other node to one of its kind, and each comes back
pub record IsRenaming (f back : ℕ → ℕ) (kinds others : Kinds) : Type 0 where
  pub null_stays : f 0 ≡ 0
  pub kind : (n : NodeId) (kind : Kind) → kind_of kinds n ≡ Some kind → kind_of others (moved f n) ≡ Some kind
  pub comes_back : (n : NodeId) → IsNode kinds n → back (f n.0) ≡ n.0

-- the renaming is a bijection of the nodes under which both are the same state: variables, kinds node by node, edges with their
-- ids and the flag are the same, and the same atoms are entailed
pub record AreSameUnder (f back : ℕ → ℕ) (s t : State) : Type 0 where
  pub there : IsRenaming f back s.kinds t.kinds
  pub again : IsRenaming back f t.kinds s.kinds
  pub env : map (option_map (moved f)) s.env ≡ t.env
  pub edges : (moved_graph f s.graph).edges ≡ t.graph.edges
  pub whole : s.whole ≡ t.whole
  pub derived : (a : Atom) → AreNodes s.kinds (nodes_of_atom a) → Derives s a ↔ Derives t (moved_atom f a)

-- the place of a node's number among nodes, counted from a number on; 0 where it is not there
abbrev pub place_from : ℕ → Kinds → ℕ → ℕ
place_from place [] n = 0
place_from place (k ∷ kinds) n = if k.0.0 == n then place else place_from (suc place) kinds n

-- the place of a node among the state's nodes, from 1 on; that of node 0 is 0
abbrev pub place_in : State → ℕ → ℕ
place_in s = place_from 1 s.kinds

-- the edges with ids from 0 on
abbrev pub numbered_graph : Graph → Graph
numbered_graph g = record { edges = numbered 0 (map (λ e. e.1) g.edges); next = length g.edges }

-- the state with its nodes and edges numbered anew, in order
abbrev pub anew : State → State
anew s =
    record (renamed (place_in s) (moved_kinds (place_in s) s.kinds) (suc (length s.kinds)) s) {
      graph = numbered_graph (moved_graph (place_in s) s.graph);
    }
