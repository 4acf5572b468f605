use Rattle.std.proofs.Common.{◌≡◌, take, map, option_map}
use Rattle.mc_base.specs.Nodes.{moved}
use Rattle.mc_state.specs.Facts.{instead}
use Rattle.mc_symbolic.proofs.edges.graph.moved_fields.Given as goal

abbrev pub invariant-loop-field : goal.invariant-loop-field
invariant-loop-field l = l.list.items ≡ map (option_map (moved (instead l.keep.0 l.gone.0))) (take l.field-index l.fields)
