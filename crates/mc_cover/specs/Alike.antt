-- Edges that do the same in any cover.
use Rattle.std.specs.Prelude.{◌≡◌, ◌==◌, ◌&&◌, List, Bool, true, false, Some}
use Rattle.mc_base.specs.declared.ids.EdgeId.{EdgeId}
use Rattle.mc_base.specs.declared.ids.NodeId.{NodeId}
use Rattle.mc_base.specs.declared.ids.PredId.{PredId}
use Rattle.mc_state.specs.declared.graph.edge.Edge.{Edge}
use Rattle.mc_state.specs.declared.graph.edge.Edge.TheVariants.{Block, Ind, Seg}
use Rattle.mc_state.specs.Graph.Graph.{Edges, edge_with}
use Rattle.mc_state.specs.Known.{Test, equal, all_equal}
use Rattle.mc_state.specs.Lists.{all_both}
use Rattle.mc_cover.specs.Goals.{Mark, AtEnd, ByInd, BySeg, ByRule, ByCall}

-- two summaries are of one predicate, at equal nodes with equal arguments
abbrev pub start_alike : Test → PredId → NodeId → List NodeId → PredId → NodeId → List NodeId → Bool
start_alike know p a as' q b bs = p.0 == q.0 && (equal know a b && all_equal know as' bs)

-- the nodes are one
abbrev pub same_node : NodeId → NodeId → Bool
same_node a b = a.0 == b.0

-- both are Ind or both Seg, and alike where they start; segments have one end, with the same arguments
abbrev pub are_alike : Test → Edge → Edge → Bool
are_alike know (Block a shape fields) other = false
are_alike know (Ind a p as') (Block b shape fields) = false
are_alike know (Ind a p as') (Ind b q bs) = start_alike know p a as' q b bs
are_alike know (Ind a p as') (Seg b bs q «end» ends) = false
are_alike know (Seg a as' p «end» ends) (Block b shape fields) = false
are_alike know (Seg a as' p «end» ends) (Ind b q bs) = false
are_alike know (Seg a as' p «end» ends) (Seg b bs q last lasts) =
    start_alike know p a as' q b bs && (same_node end last && all_both same_node ends lasts)

-- two of these edges are there, and alike
pub record AreAlike (know : Test) (es : Edges) (a b : EdgeId) : Type 0 where
  pub left : Edge
  pub right : Edge
  pub left_there : edge_with es a ≡ Some left
  pub right_there : edge_with es b ≡ Some right
  pub alike : are_alike know left right ≡ true

-- two marks take edges that are alike, both as an Ind or both as a Seg
abbrev pub MarksAlike : Test → Edges → Mark → Mark → Type 0
MarksAlike know es AtEnd m = ⊥
MarksAlike know es (ByInd a) AtEnd = ⊥
MarksAlike know es (ByInd a) (ByInd b) = AreAlike know es a b
MarksAlike know es (ByInd a) (BySeg b) = ⊥
MarksAlike know es (ByInd a) (ByRule place block) = ⊥
MarksAlike know es (ByInd a) (ByCall place block call) = ⊥
MarksAlike know es (BySeg a) AtEnd = ⊥
MarksAlike know es (BySeg a) (ByInd b) = ⊥
MarksAlike know es (BySeg a) (BySeg b) = AreAlike know es a b
MarksAlike know es (BySeg a) (ByRule place block) = ⊥
MarksAlike know es (BySeg a) (ByCall place block call) = ⊥
MarksAlike know es (ByRule place block) m = ⊥
MarksAlike know es (ByCall place block call) m = ⊥
