-- Lists of nodes up to order.
use Rattle.std.specs.Prelude.{◌≡◌, ℕ, suc, Bool, List, [], ◌∷◌, Option, Some, None, if◌then◌else◌}
use Rattle.mc_base.specs.declared.ids.NodeId.{NodeId}
use Rattle.mc_state.specs.declared.graph.edge.Edge.{Edge}
use Rattle.mc_state.specs.declared.graph.edge.Edge.TheVariants.{Block, Ind, Seg}

-- how many of the nodes meet a test
abbrev pub how_many : (NodeId → Bool) → List NodeId → ℕ
how_many test [] = 0
how_many test (x ∷ xs) = if test x then suc (how_many test xs) else how_many test xs

-- the lists have the same nodes, each as often: as many of both meet any test
abbrev pub HaveSameNodes : List NodeId → List NodeId → Type 0
HaveSameNodes xs ys = (test : NodeId → Bool) → how_many test xs ≡ how_many test ys

-- the node at which a block starts
abbrev pub block_start : Edge → Option NodeId
block_start (Block at shape fields) = Some at
block_start (Ind at pred args) = None
block_start (Seg at args pred «end» ends) = None
