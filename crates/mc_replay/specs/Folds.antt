-- Folds as code keeps them: what is found, and what is made of it where nodes are named.
use Rattle.std.specs.Prelude.{◌≡◌, List, Option, Some, None, map, option_map, option_and_then}
use Rattle.mc_base.specs.declared.ids.EdgeId.{EdgeId}
use Rattle.mc_base.specs.declared.ids.NodeId.{NodeId}
use Rattle.mc_base.specs.declared.ids.PredId.{PredId}
use Rattle.mc_state.specs.declared.graph.edge.Edge.TheVariants.{Ind}
use Rattle.mc_state.specs.declared.line.Side.{Side}
use Rattle.mc_state.specs.declared.line.Side.TheVariants.{Left, Right}
use Rattle.mc_state.specs.declared.terms.Term.{Term}
use Rattle.mc_state.specs.Named.{IndParts}
use Rattle.mc_state.specs.State.{State}
use Rattle.mc_state.specs.Terms.{plain}
use Rattle.mc_cover.specs.First.{first_cover, first_seg_cover}
use Rattle.mc_joins.specs.Joinings.{Joining, Pair, across, half, of_side, free_edges}
use Rattle.mc_joins.specs.Parts.{Basis, Part, Named, nodes_of_args, standing_args, guessed, with_partners, ended_part}
use Rattle.mc_joins.specs.Steps.{four_args}
use Rattle.mc_replay.specs.declared.folds.Part.{Part as KeptPart}
use Rattle.mc_replay.specs.declared.folds.IndFold.{IndFold as KeptInd}
use Rattle.mc_replay.specs.declared.folds.SegFold.{SegFold as KeptSeg}
use Rattle.mc_replay.specs.declared.joining.Joining.{Joining as Kept}
use Rattle.mc_replay.specs.Covers.{edges_of}
use Rattle.mc_replay.specs.Good.{AreGood}
use Rattle.mc_replay.specs.Joined.{seen}
use Rattle.mc_replay.specs.Named.{TellsFrom}

-- what a side gives, with the side's state
abbrev pub seen_part : State → KeptPart → Part
seen_part s p = record { state = s; edge = p.edge; used = p.used.items }

-- ---- edges that are found

-- edges of a side that make an Ind: its arguments, and the edges
pub record IndFound : Type 0 where
  pub args : List Term
  pub used : List EdgeId

-- edges of a side that make a Seg: its arguments, where it ends, its arguments there, and the edges
pub record SegFound : Type 0 where
  pub args : List Term
  pub stop : NodeId
  pub ends : List Term
  pub used : List EdgeId

-- as code keeps them
abbrev pub seen_ind : KeptInd → IndFound
seen_ind f = record { args = f.args.items; used = f.used.items }

abbrev pub seen_seg : KeptSeg → SegFound
seen_seg f = record { args = f.args.items; stop = f.stop; ends = f.ends.items; used = f.used.items }

-- edges with arguments
abbrev pub ind_with : List Term → List EdgeId → IndFound
ind_with args used = record { args = args; used = used }

abbrev pub seg_with : List Term → NodeId → List Term → List EdgeId → SegFound
seg_with args stop ends used = record { args = args; stop = stop; ends = ends; used = used }

-- the free edges that make an Ind with these arguments
abbrev pub ind_fold : Basis → Joining → Side → Pair → PredId → List Term → Option IndFound
ind_fold w j side p pred args =
    option_map (ind_with args)
    (edges_of (first_cover (w.know (half j side).state) w.defs pred (plain (of_side side p)) args (free_edges j side p)))

-- with guessed arguments
abbrev pub guessed_ind_fold : Basis → Joining → Side → Pair → PredId → Option IndFound
guessed_ind_fold w j side p pred = ind_fold w j side p pred (guessed w (half j side) pred (of_side side p) None)

-- the other side's, for a side's Ind
abbrev pub ind_fold_for : Basis → Joining → Side → Pair → PredId → IndParts → Option IndFound
ind_fold_for w j side p pred i = ind_fold w j (across side) p pred (four_args w j p pred side i)

-- the free edges that make a Seg to a node with these arguments there
abbrev pub seg_fold_with : Basis → Joining → Side → Pair → PredId → List Term → NodeId → List Term → Option SegFound
seg_fold_with w j side p pred args stop ends =
    option_map (seg_with args stop ends)
    (edges_of (first_seg_cover (w.know (half j side).state) w.defs pred (plain (of_side side p)) args (plain stop) ends (free_edges j side p)))

-- the arguments are guessed with that end as stop
abbrev pub seg_fold : Basis → Joining → Side → Pair → PredId → NodeId → List Term → Option SegFound
seg_fold w j side p pred stop ends =
    seg_fold_with w j side p pred (guessed w (half j side) pred (of_side side p) (Some (plain stop, ends))) stop ends

-- the end arguments are those of an edge of the side at the end
abbrev pub standing_ends : Basis → Joining → Side → PredId → NodeId → List Term
standing_ends w j side pred stop = map plain (standing_args w (half j side) pred stop)

-- of those that are for an argument of the other side which is in a pair, its first partner
abbrev pub partner_ends : Basis → Joining → Side → PredId → NodeId → List NodeId → List Term
partner_ends w j side pred stop others = with_partners j.pairs (across side) others (standing_ends w j side pred stop)

-- ---- nodes that are named

-- the Ind of what was found, with nodes of its arguments
abbrev pub named_ind : Side → Pair → PredId → List EdgeId → Named → Part
named_ind side p pred used named = record { state = named.state; edge = Ind (of_side side p) pred named.nodes; used = used }

abbrev pub made_ind : Basis → Joining → Side → Pair → PredId → IndFound → Option Part
made_ind w j side p pred f = option_map (named_ind side p pred f.used) (nodes_of_args w pred (half j side).state f.args)

-- the Seg of what was found, with nodes of its arguments and its end arguments
abbrev pub made_seg : Basis → Joining → Side → Pair → PredId → SegFound → Option Part
made_seg w j side p pred f =
    option_and_then (ended_part w side p pred f.stop f.ends f.used) (nodes_of_args w pred (half j side).state f.args)

-- a join with another state of a side
abbrev pub with_state : Side → State → Joining → Joining
with_state Left s j = record j { left = record { state = s; unused = j.left.unused } }
with_state Right s j = record j { right = record { state = s; unused = j.right.unused } }

-- in a side's state nodes were named, and nothing else of a join has changed
pub record OnlyNames (side : Side) (old new : Kept) : Type 0 where
  pub good : AreGood new
  pub rest : seen new ≡ with_state side (half (seen new) side).state (seen old)
  pub graph : (half (seen new) side).state.graph ≡ (half (seen old) side).state.graph
  pub tells : (w : Basis) → TellsFrom w (half (seen old) side).state → TellsFrom w (half (seen new) side).state
