-- What is to be made of edges, and whether a block or a summary lies where it is looked for.
use Rattle.std.specs.Prelude.{◌==◌, ◌&&◌, ℕ, List, [], ◌∷◌, Bool, false, Option, Some, None, map, option_map, option_and_then, if◌then◌else◌}
use Rattle.mc_base.specs.declared.ids.EdgeId.{EdgeId}
use Rattle.mc_base.specs.declared.ids.NodeId.{NodeId}
use Rattle.mc_base.specs.declared.ids.PredId.{PredId}
use Rattle.mc_base.specs.declared.ids.StructId.{StructId}
use Rattle.mc_flow.specs.declared.defs.rules.Def.{Def}
use Rattle.mc_state.specs.declared.graph.edge.Edge.{Edge}
use Rattle.mc_state.specs.declared.graph.edge.Edge.TheVariants.{Block, Ind, Seg}
use Rattle.mc_state.specs.Graph.Graph.{Edges, edge_with}
use Rattle.mc_state.specs.declared.terms.Term.{Term}
use Rattle.mc_state.specs.Terms.{plain}
use Rattle.mc_state.specs.Known.{Test}
pub use Rattle.mc_cover.specs.declared.goals.Goal.{Goal}
pub use Rattle.mc_cover.specs.declared.goals.Mark.{Mark}
pub use Rattle.mc_cover.specs.declared.goals.Mark.TheVariants.{AtEnd, ByInd, BySeg, ByRule, ByCall}
use Rattle.mc_cover.specs.Terms.{equal_terms, all_equal_terms}

-- where a segment ends: at a term, with arguments
abbrev pub Stop : Type 0
Stop = Term × List Term

-- what a search reads: what is known, the definitions, and the edges that may be taken
pub record Setting : Type 0 where
  pub know : Test
  pub defs : List Def
  pub edges : Edges

-- all the nodes, where each is known
abbrev pub all_there : List (Option NodeId) → Option (List NodeId)
all_there [] = Some []
all_there (None ∷ ns) = None
all_there (Some n ∷ ns) = option_map (λ known. n ∷ known) (all_there ns)

-- the nodes of the fields of a block of the struct at an equal node, where all are known
abbrev pub whole_block : Test → Term → StructId → Edge → Option (List NodeId)
whole_block know at shape (Block b own fields) =
    if own.0 == shape.0 && equal_terms know at (plain b) then all_there fields else None
whole_block know at shape (Ind b pred args) = None
whole_block know at shape (Seg b args pred «end» ends) = None

-- the edge is an Ind of the goal's predicate at an equal node with equal arguments
abbrev pub is_ind : Test → Goal → Option Edge → Bool
is_ind know g None = false
is_ind know g (Some (Block b shape fields)) = false
is_ind know g (Some (Ind b pred args)) =
    pred.0 == g.pred.0 && (equal_terms know g.at (plain b) && all_equal_terms know g.args (map plain args))
is_ind know g (Some (Seg b args pred «end» ends)) = false

-- the edge is a Seg of the goal's predicate there
abbrev pub is_seg : Test → Goal → Option Edge → Bool
is_seg know g None = false
is_seg know g (Some (Block b shape fields)) = false
is_seg know g (Some (Ind b pred args)) = false
is_seg know g (Some (Seg b args pred «end» ends)) =
    pred.0 == g.pred.0 && (equal_terms know g.at (plain b) && all_equal_terms know g.args (map plain args))

-- what is left to be made after a Seg: the same from its end on
abbrev pub behind_seg : Goal → Option Edge → List Goal
behind_seg g None = []
behind_seg g (Some (Block b shape fields)) = []
behind_seg g (Some (Ind b pred args)) = []
behind_seg g (Some (Seg b args pred «end» ends)) =
    record { pred = g.pred; at = plain end; args = map plain ends; stop = g.stop } ∷ []

-- the nodes that a rule's contents are: those of the block's fields, none without a block
abbrev pub contents_by : Test → Edges → Term → Option StructId → Option EdgeId → Option (List NodeId)
contents_by know es at None None = Some []
contents_by know es at None (Some id) = None
contents_by know es at (Some shape) None = None
contents_by know es at (Some shape) (Some id) = option_and_then (whole_block know at shape) (edge_with es id)
