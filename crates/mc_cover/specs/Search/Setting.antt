-- What a search in a state reads.
use Rattle.std.specs.Prelude.{not, Bool, List}
use Rattle.std.specs.List.{filter}
use Rattle.mc_base.specs.declared.ids.EdgeId.{EdgeId}
use Rattle.mc_flow.specs.declared.defs.rules.Def.{Def}
use Rattle.mc_state.specs.declared.graph.edge.Edge.{Edge}
use Rattle.mc_state.specs.Graph.Graph.{Edges}
use Rattle.mc_state.specs.State.{State}
use Rattle.mc_state.specs.Known.{Test}
use Rattle.mc_state.specs.Named.{others, is_among}
use Rattle.mc_cover.specs.Goals.{Setting}

-- the edges that may be taken: those of the state but for the used ones
abbrev pub free_edges : State → List EdgeId → Edges
free_edges s used = others s.graph.edges used

-- the setting of a search in a state, where some edges are used
abbrev pub setting : Test → List Def → State → List EdgeId → Setting
setting know defs s used = record { know = know; defs = defs; edges = free_edges s used }

-- the edge is none of the used ones
abbrev pub is_unused : List EdgeId → EdgeId × Edge → Bool
is_unused used e = not (is_among e.0 used)
