-- What the rules that unfold give at a state, or the first premise that is unmet.
use Rattle.std.specs.Prelude.{◌||◌, not, Bool, List, [], ◌∷◌, Option, Some, None, Ok, map, slice_get}
use Rattle.std.specs.List.{flat_map}
use Rattle.mc_base.specs.declared.ids.EdgeId.{EdgeId}
use Rattle.mc_base.specs.declared.ids.NodeId.{NodeId}
use Rattle.mc_base.specs.declared.ids.PredId.{PredId}
use Rattle.mc_base.specs.Nodes.{null}
use Rattle.mc_flow.specs.declared.defs.rules.Def.{Def}
use Rattle.mc_flow.specs.declared.defs.rules.Rule.{Rule}
use Rattle.mc_state.specs.declared.graph.edge.Edge.{Edge}
use Rattle.mc_state.specs.declared.graph.edge.Edge.TheVariants.{Block, Ind, Seg}
use Rattle.mc_state.specs.Graph.Graph.{edge_with}
use Rattle.mc_state.specs.Known.{Test, is_false, equal}
use Rattle.mc_state.specs.Named.{SegParts, seg_of}
use Rattle.mc_state.specs.Premises.{Judged, need, have}
use Rattle.mc_state.specs.State.{State}
use Rattle.mc_rules_logic.specs.Unfold.Unfolded.{unfolded, unfolded_at, emptied, own_places}

-- an Ind of whatever predicate, part by part
pub record AnyInd : Type 0 where
  pub at : NodeId
  pub pred : PredId
  pub args : List NodeId

-- the parts of an edge that is an Ind
abbrev pub any_ind_of : Option Edge → Option AnyInd
any_ind_of None = None
any_ind_of (Some (Block at shape fields)) = None
any_ind_of (Some (Ind at pred args)) = Some (record { at = at; pred = pred; args = args })
any_ind_of (Some (Seg at args pred «end» ends)) = None

-- the node is equal to null, or to the accessed node where there is one
abbrev pub may_unfold : Test → Option NodeId → NodeId → Bool
may_unfold know None at = equal know at null
may_unfold know (Some accessed) at = equal know at null || equal know at accessed

-- the rules of a definition, if there is one
abbrev pub rules_in : Option Def → List Rule
rules_in None = []
rules_in (Some def) = def.rules

-- the rules of a predicate
abbrev pub rules_of : List Def → PredId → List Rule
rules_of defs pred = rules_in (slice_get defs pred.0)

-- what an Ind becomes, by each of the rules
abbrev pub ind_successors : State → EdgeId → AnyInd → List Rule → List State
ind_successors s edge i rules = map (unfolded s edge i.at i.args) rules

-- what a Seg becomes: nothing, or what each of the rules makes of it, for each call of its predicate
abbrev pub seg_successors : State → EdgeId → SegParts → List Rule → List State
seg_successors s edge g rules =
    emptied s edge g.at g.args g.stop g.ends
    ∷ flat_map (λ rule. map (unfolded_at s edge g.at g.args g.stop g.ends rule) (own_places g.pred 0 rule.calls)) rules

-- L1: its successors
abbrev pub unfolding_ind : Test → List Def → Option NodeId → EdgeId → State → Judged (List State)
unfolding_ind know defs accessed edge s =
    need 2 (not (is_false know))
    (have 3 (any_ind_of (edge_with s.graph.edges edge)) (λ i.
    need 4 (may_unfold know accessed i.at)
    (Ok (ind_successors s edge i (rules_of defs i.pred)))))

-- L2: its successors
abbrev pub unfolding_seg : Test → List Def → Option NodeId → EdgeId → State → Judged (List State)
unfolding_seg know defs accessed edge s =
    need 2 (not (is_false know))
    (have 3 (seg_of (edge_with s.graph.edges edge)) (λ g.
    need 4 (may_unfold know accessed g.at)
    (Ok (seg_successors s edge g (rules_of defs g.pred)))))
