use Rattle.std.proofs.Common.{◌≡◌, ◌++◌, take, drop, map, option_map}
use Rattle.mc_base.specs.Nodes.{moved}
use Rattle.mc_pure_ops.specs.Renaming.Images.{image}
use Rattle.mc_joins.proofs.anew.numbered.put_vars.Given as goal

abbrev pub invariant-loop-place : goal.invariant-loop-place
invariant-loop-place l = l.fresh ≡ record l.fn.fresh { env = map (option_map (moved (image l.renaming))) (take l.place l.env) ++ drop l.place l.fn.fresh.env }
