-- Symbolic states, and how rules change them.
use Rattle.std.specs.Prelude.{◌+◌, ℕ, zero, suc, List, [], ◌∷◌, ◌++◌, ℤ, Bool, true, Option, None, length, map, option_map, replicate, slice_index_or, slice_set}
use Rattle.mc_base.specs.declared.ids.NodeId.{NodeId}
use Rattle.mc_base.specs.declared.ids.StructId.{StructId}
use Rattle.mc_base.specs.declared.ids.VarId.{VarId}
use Rattle.mc_base.specs.declared.plain.Kind.{Kind}
use Rattle.mc_base.specs.declared.plain.Kind.TheVariants.{Int, Ptr}
use Rattle.mc_base.specs.declared.plain.Atom.{Atom}
use Rattle.mc_base.specs.declared.plain.Atom.TheVariants.{In}
use Rattle.mc_base.specs.Nodes.{moved}
use Rattle.mc_base.specs.Atoms.{moved_atom}
use Rattle.mc_state.specs.declared.graph.edge.Edge.{Edge}
use Rattle.mc_state.specs.declared.graph.edge.Edge.TheVariants.{Block}
use Rattle.mc_state.specs.Graph.Graph.{Graph, Edges, no_edges, with_only, with_new, block_starts, moved_graph}
use Rattle.mc_pure.specs.Pure.{Kinds, Pure}

-- a node for each variable, where it is known; the kind of each node but node 0; the edges; written atoms;
-- the least number that was no node yet; and whether the edges are all that is allocated
pub record State : Type 0 where
  pub env : List (Option NodeId)
  pub kinds : Kinds
  pub graph : Graph
  pub atoms : List Atom
  pub next : ℕ
  pub whole : Bool

-- no variable is known, and nothing is allocated
abbrev pub unknown : ℕ → State
unknown vars = record { env = replicate vars None; kinds = []; graph = no_edges; atoms = []; next = 1; whole = true }

-- what is known of the nodes' numbers
abbrev pub pure_of : State → Pure
pure_of s = record { kinds = s.kinds; written = s.atoms; starts = block_starts s.graph.edges }

-- the variable's node, where it is known
abbrev pub var_node : State → VarId → Option NodeId
var_node s x = slice_index_or s.env x.0 None

-- the variable has this node, or is unknown
abbrev pub with_var : State → VarId → Option NodeId → State
with_var s x node = record s { env = slice_set s.env x.0 node }

-- none of the variables is known
abbrev pub without_vars : State → List VarId → State
without_vars s [] = s
without_vars s (x ∷ xs) = without_vars (with_var s x None) xs

-- the node with the least number that was none yet
abbrev pub next_node : State → NodeId
next_node s = record { 0 = s.next }

-- nodes with numbers from one on, of these kinds
abbrev pub numbered_kinds : ℕ → List Kind → Kinds
numbered_kinds n [] = []
numbered_kinds n (kind ∷ kinds) = (record { 0 = n }, kind) ∷ numbered_kinds (suc n) kinds

-- so many nodes with numbers from one on
abbrev pub numbered_nodes : ℕ → ℕ → List NodeId
numbered_nodes n zero = []
numbered_nodes n (suc count) = record { 0 = n } ∷ numbered_nodes (suc n) count

-- new nodes of these kinds
abbrev pub with_nodes : State → List Kind → State
with_nodes s kinds = record s { kinds = s.kinds ++ numbered_kinds s.next kinds; next = s.next + length kinds }

-- atoms more
abbrev pub with_atoms : State → List Atom → State
with_atoms s atoms = record s { atoms = s.atoms ++ atoms }

-- new edges
abbrev pub with_edges : State → List Edge → State
with_edges s es = record s { graph = with_new s.graph es }

-- these edges alone
abbrev pub with_only_edges : State → Edges → State
with_only_edges s es = record s { graph = with_only s.graph es }

-- one atom more
abbrev pub with_atom : State → Atom → State
with_atom s a = with_atoms s (a ∷ [])

-- the next node is of kind Int and is this number
abbrev pub with_number : State → ℤ → State
with_number s c = with_atom (with_nodes s (Int ∷ [])) (In (next_node s) c c)

-- the next node is a pointer to a new block, of whose fields nothing is known
abbrev pub with_block : State → StructId → ℕ → State
with_block s shape fields = with_edges (with_nodes s (Ptr ∷ [])) (Block (next_node s) shape (replicate fields None) ∷ [])

-- other nodes in place of its own; the kinds of those and the least number that is none of them are given
abbrev pub renamed : (ℕ → ℕ) → Kinds → ℕ → State → State
renamed f kinds next s =
    record {
      env = map (option_map (moved f)) s.env;
      kinds = kinds;
      graph = moved_graph f s.graph;
      atoms = map (moved_atom f) s.atoms;
      next = next;
      whole = s.whole;
    }
