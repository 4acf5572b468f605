-- Joins as code keeps them.
use Rattle.std.specs.Prelude.{◌&&◌, Bool}
use Rattle.mc_state.specs.declared.line.Side.{Side}
use Rattle.mc_cover.specs.Search.Setting.{free_edges}
use Rattle.mc_joins.specs.Joinings.{Half, Joining, Pair, same_side, same_pair}
use Rattle.mc_replay.specs.declared.joining.Half.{Half as KeptHalf}
use Rattle.mc_replay.specs.declared.joining.Joining.{Joining as Kept}

-- a side: the edges that are not used are left
abbrev pub seen_half : KeptHalf → Half
seen_half h = record { state = h.state; unused = free_edges h.state h.used.items }

-- the join
abbrev pub seen : Kept → Joining
seen j =
    record {
      left = seen_half j.left;
      right = seen_half j.right;
      pairs = j.pairs.items;
      edges = j.edges.items;
      closed = j.closed.items;
    }

-- the entry is of this side and this pair
abbrev pub is_this : Side → Pair → Side × Pair → Bool
is_this side p c = same_side c.0 side && same_pair c.1 p
