-- What covers take, and arguments.
use Rattle.std.specs.Prelude.{List, [], Option, length, option_map, replicate, slice_get, unwrap_or}
use Rattle.mc_base.specs.declared.ids.EdgeId.{EdgeId}
use Rattle.mc_base.specs.declared.ids.NodeId.{NodeId}
use Rattle.mc_base.specs.declared.ids.PredId.{PredId}
use Rattle.mc_base.specs.Nodes.{null}
use Rattle.mc_flow.specs.declared.defs.rules.Def.{Def}
use Rattle.mc_cover.specs.First.{Choice}

-- the edges that are used
abbrev pub edges_of : Option Choice → Option (List EdgeId)
edges_of found = option_map (λ c. c.used) found

-- zero for each parameter
abbrev pub zeros_of : List Def → PredId → List NodeId
zeros_of defs pred = unwrap_or (option_map (λ def. replicate (length def.params) null) (slice_get defs pred.0)) []
