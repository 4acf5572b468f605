use Rattle.std.proofs.Common.{◌≡◌, take, map, option_map}
use Rattle.mc_base.specs.Nodes.{moved}
use Rattle.mc_state.specs.Facts.{instead}
use Rattle.mc_symbolic.proofs.state.moved_vars.Given as goal

abbrev pub invariant-loop-var : goal.invariant-loop-var
invariant-loop-var l = l.list.items ≡ map (option_map (moved (instead l.keep.0 l.gone.0))) (take l.var-index l.env)
