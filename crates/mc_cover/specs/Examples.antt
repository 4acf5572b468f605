-- What is known in small states, as tests of atoms.
use Rattle.std.specs.Prelude.{◌==◌, ◌&&◌, ◌++◌, ℕ, pos, negsuc, int_le, List, [], ◌∷◌, Bool, false, Option, Some, map}
use Rattle.std.specs.List.{list_any, flat_map}
use Rattle.mc_base.specs.declared.plain.Atom.{Atom}
use Rattle.mc_base.specs.declared.plain.Atom.TheVariants.{Eq, Ne, In}
use Rattle.mc_base.specs.declared.ids.NodeId.{NodeId}
use Rattle.mc_base.specs.declared.plain.Kind.{Kind}
use Rattle.mc_base.specs.declared.plain.Kind.TheVariants.{Ptr}
use Rattle.mc_base.specs.Nodes.{null}
use Rattle.mc_flow.specs.Defs.Examples.{list_id}
use Rattle.mc_state.specs.declared.graph.edge.Edge.{Edge}
use Rattle.mc_state.specs.declared.graph.edge.Edge.TheVariants.{Ind, Seg}
use Rattle.mc_state.specs.Graph.Graph.{Edges}
use Rattle.mc_pure.specs.Examples.{node}
use Rattle.mc_pure.specs.Pure.{Kinds, low_of, high_of}
use Rattle.mc_state.specs.CoverExamples.{state_of, cell_and_length, fork_and_tree}
use Rattle.mc_state.specs.State.{State}
use Rattle.mc_state.specs.Known.{Test}
use Rattle.mc_cover.specs.First.{Choice}

-- one atom shows another: it is the same, or a range within the other
abbrev pub shows : Atom → Atom → Bool
shows (Eq a b c) (Eq d e f) = (a.0 == d.0 && b.0 == e.0) && (int_le c f && int_le f c)
shows (Eq a b c) (Ne d e f) = false
shows (Eq a b c) (In d lo hi) = false
shows (Ne a b c) (Eq d e f) = false
shows (Ne a b c) (Ne d e f) = (a.0 == d.0 && b.0 == e.0) && (int_le c f && int_le f c)
shows (Ne a b c) (In d lo hi) = false
shows (In a lo hi) (Eq d e f) = false
shows (In a lo hi) (Ne d e f) = false
shows (In a lo hi) (In d m k) = a.0 == d.0 && (int_le m lo && int_le hi k)

-- each node is itself and lies in its kind's range
abbrev pub of_kinds : Kinds → List Atom
of_kinds kinds = flat_map (λ (k : NodeId × Kind). Eq k.0 k.0 (pos 0) ∷ In k.0 (low_of k.1) (high_of k.1) ∷ []) kinds

-- what is known in a state of nodes that are not the same, where these atoms are known as well
abbrev pub knowing : State → List Atom → Test
knowing s more asked =
    list_any (λ known. shows known asked) (Eq null null (pos 0) ∷ In null (pos 0) (pos 0) ∷ (of_kinds s.kinds ++ more))

-- node 5 is one more than node 4, both ways, and not the least number
abbrev pub of_length : Test
of_length =
    knowing cell_and_length
    (Eq (node 5) (node 4) (pos 1) ∷ Eq (node 4) (node 5) (negsuc 0) ∷ In (node 5) (negsuc 2147483646) (pos 2147483647) ∷ [])

-- node 3 is null, both ways
abbrev pub of_fork : Test
of_fork = knowing fork_and_tree (Eq (node 3) null (pos 0) ∷ Eq null (node 3) (pos 0) ∷ In (node 3) (pos 0) (pos 0) ∷ [])

-- a segment to a list
abbrev pub long_way : Edge
long_way = Seg (node 1) [] list_id (node 2) []

-- the list where it ends
abbrev pub behind : Edge
behind = Ind (node 2) list_id []

-- a list where the segment begins as well: two ways to make a list there
abbrev pub two_ways : State
two_ways = state_of ((node 1, Ptr) ∷ (node 2, Ptr) ∷ []) (long_way ∷ Ind (node 1) list_id [] ∷ behind ∷ []) []

-- these edges are taken, and those are left
abbrev pub taking : List ℕ → Edges → Option Choice
taking ids left = Some (record { used = map (λ id. record { 0 = id }) ids; left = left })
