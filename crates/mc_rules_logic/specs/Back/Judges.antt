-- What the rule that unfolds a segment from its end gives at a state, or the first premise that is unmet.
use Rattle.std.specs.Prelude.{◌&&◌, ◌||◌, not, ℕ, suc, Bool, false, List, [], ◌∷◌, Option, Ok}
use Rattle.mc_base.specs.declared.ids.EdgeId.{EdgeId}
use Rattle.mc_base.specs.declared.ids.NodeId.{NodeId}
use Rattle.mc_base.specs.declared.ids.PredId.{PredId}
use Rattle.mc_flow.specs.declared.defs.rules.Def.{Def}
use Rattle.mc_state.specs.Graph.Graph.{edge_with}
use Rattle.mc_state.specs.Back.{is_back}
use Rattle.mc_state.specs.Known.{Test, is_false, equal}
use Rattle.mc_state.specs.Lists.{on_some}
use Rattle.mc_state.specs.Named.{SegParts, seg_of}
use Rattle.mc_state.specs.Premises.{Judged, need, have}
use Rattle.mc_state.specs.State.{State}
use Rattle.mc_rules_logic.specs.Unfold.Judges.{rules_of}
use Rattle.mc_rules_logic.specs.Back.Unfolded.{back_successors}

-- one of the end arguments, given from a position on, stands at a back position and is equal to the node
abbrev pub ends_back_at : Test → List Def → PredId → NodeId → ℕ → List NodeId → Bool
ends_back_at know defs pred node position [] = false
ends_back_at know defs pred node position (e ∷ ends) =
    (is_back defs pred position && equal know e node) || ends_back_at know defs pred node (suc position) ends

-- there is an accessed node, and a segment has an end argument equal to it at a back position
abbrev pub is_reached_back : Test → List Def → Option NodeId → SegParts → Bool
is_reached_back know defs accessed g = on_some (λ node. ends_back_at know defs g.pred node 0 g.ends) accessed

-- L15: its successors
abbrev pub unfolding_back : Test → List Def → Option NodeId → EdgeId → State → Judged (List State)
unfolding_back know defs accessed edge s =
    need 2 (not (is_false know))
    (have 3 (seg_of (edge_with s.graph.edges edge)) (λ g.
    need 4 (is_reached_back know defs accessed g)
    (Ok (back_successors s edge g.at g.args g.pred g.stop g.ends (rules_of defs g.pred)))))
