use Rattle.std.proofs.Common.{◌≡◌, ◌++◌, drop, map}
use Rattle.mc_base.specs.Nodes.{moved}
use Rattle.mc_state.specs.Facts.{instead}
use Rattle.mc_check_line.proofs.logic.instead_all.Given as goal

abbrev pub invariant-loop-node : goal.invariant-loop-node
invariant-loop-node l =
    l.args ++ map (moved (instead l.keep.0 l.gone.0)) (drop l.node-index l.nodes) ≡ map (moved (instead l.keep.0 l.gone.0)) l.nodes
