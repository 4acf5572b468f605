use Rattle.std.proofs.Common.{◌≡◌, take, map, option_map}
use Rattle.mc_base.specs.Nodes.{moved}
use Rattle.mc_pure_ops.specs.Renaming.Images.{image}
use Rattle.mc_joins.proofs.anew.edges.moved_fields.Given as goal

abbrev pub invariant-loop-field : goal.invariant-loop-field
invariant-loop-field l = l.list.items ≡ map (option_map (moved (image l.renaming))) (take l.field-index l.fields)
