-- Joins that have come some way: their pairs, and which edges count at a pair.
use Rattle.std.specs.Prelude.{◌==◌, ◌&&◌, ◌||◌, ◌++◌, not, Bool, true, false, List, [], ◌∷◌, Option, Some, None, is_some}
use Rattle.std.specs.Prelude.{filter, find, fold, option_map, if◌then◌else◌}
use Rattle.std.specs.List.{list_all, list_any}
use Rattle.mc_base.specs.declared.ids.EdgeId.{EdgeId}
use Rattle.mc_base.specs.declared.ids.NodeId.{NodeId}
use Rattle.mc_base.specs.Nodes.{null}
use Rattle.mc_state.specs.declared.graph.edge.Edge.{Edge}
use Rattle.mc_state.specs.Graph.Edges.{start_of}
use Rattle.mc_state.specs.Graph.Graph.{Edges}
use Rattle.mc_pure_ops.specs.Join.Joint.{Pairs}
use Rattle.mc_state.specs.declared.line.Side.{Side}
use Rattle.mc_state.specs.declared.line.Side.TheVariants.{Left, Right}
use Rattle.mc_state.specs.State.{State}

-- a node of the left state and one of the right
abbrev pub Pair : Type 0
Pair = NodeId × NodeId

-- one of the two states, with the nodes that were named in it, and its edges that no step has used
pub record Half : Type 0 where
  pub state : State
  pub unused : Edges

-- a join that has come some way: its pairs, of which each is the node of the result with its place as number; the
-- edges of the result; and the pairs from which J6 has made a Seg, each with the side whose edges do not count there
-- any more
pub record Joining : Type 0 where
  pub left : Half
  pub right : Half
  pub pairs : Pairs
  pub edges : List Edge
  pub closed : List (Side × Pair)

-- ---- sides

-- the other side
abbrev pub across : Side → Side
across Left = Right
across Right = Left

-- two sides are one
abbrev pub same_side : Side → Side → Bool
same_side Left Left = true
same_side Left Right = false
same_side Right Left = false
same_side Right Right = true

-- what a side has
abbrev pub half : Joining → Side → Half
half j Left = j.left
half j Right = j.right

-- a pair's node of a side
abbrev pub of_side : Side → Pair → NodeId
of_side Left p = p.0
of_side Right p = p.1

-- ---- pairs

-- two pairs are one
abbrev pub same_pair : Pair → Pair → Bool
same_pair p q = p.0.0 == q.0.0 && p.1.0 == q.1.0

-- a pair is listed once
abbrev pub with_pair : Pairs → Pair → Pairs
with_pair pairs p = if list_any (same_pair p) pairs then pairs else pairs ++ p ∷ []

-- pairs are listed, one after the other
abbrev pub with_pairs : Pairs → Pairs → Pairs
with_pairs = fold with_pair

-- place by place, the nodes that are known on both sides
abbrev pub known_both : List (Option NodeId) → List (Option NodeId) → Pairs
known_both [] rs = []
known_both (l ∷ ls) [] = []
known_both (None ∷ ls) (r ∷ rs) = known_both ls rs
known_both (Some l ∷ ls) (None ∷ rs) = known_both ls rs
known_both (Some l ∷ ls) (Some r ∷ rs) = (l, r) ∷ known_both ls rs

-- nothing is joined yet; the pairs are node 0 of both sides and, in the order of variables, the nodes of those that
-- both know
abbrev pub begun : State → State → Joining
begun left right =
    record {
      left = record { state = left; unused = left.graph.edges };
      right = record { state = right; unused = right.graph.edges };
      pairs = with_pairs ((null, null) ∷ []) (known_both left.env right.env);
      edges = [];
      closed = [];
    }

-- the other node of the first pair in which a node of a side is
abbrev pub partner : Pairs → Side → NodeId → Option NodeId
partner pairs side n = option_map (of_side (across side)) (find (λ q. (of_side side q).0 == n.0) pairs)

-- ---- edges

-- a side's edges do not count at the pair any more
abbrev pub is_closed : Joining → Side → Pair → Bool
is_closed j side p = list_any (λ c. same_side c.0 side && same_pair c.1 p) j.closed

-- the edge of a side at a pair: the least unused one that starts at the pair's node there, where the side's edges
-- count
abbrev pub edge_at : Joining → Side → Pair → Option (EdgeId × Edge)
edge_at j side p = if is_closed j side p then None else find (λ e. (start_of e.1).0 == (of_side side p).0) (half j side).unused

-- an unused edge of either side counts at the pair
abbrev pub has_edge : Joining → Pair → Bool
has_edge j p = is_some (edge_at j Left p) || is_some (edge_at j Right p)

-- the step is at the first pair at which an unused edge of either side counts; there is none where the join is done
abbrev pub next_pair : Joining → Option Pair
next_pair j = find (has_edge j) j.pairs

-- a node is in no other pair than this one
abbrev pub is_alone : Pairs → Side → Pair → NodeId → Bool
is_alone pairs side p n = list_all (λ q. same_pair p q || not ((of_side side q).0 == n.0)) pairs

-- the unused edges of a side that a fold at the pair may use: each starts at a node that is in no other pair
abbrev pub free_edges : Joining → Side → Pair → Edges
free_edges j side p = filter (λ e. is_alone j.pairs side p (start_of e.1)) (half j side).unused
