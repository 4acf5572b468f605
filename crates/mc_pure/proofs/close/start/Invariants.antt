use Rattle.std.proofs.Common.{◌≡◌, ◌∷◌, take, map, pos}
use Rattle.mc_base.specs.Nodes.{null}
use Rattle.mc_pure.specs.Rows.{lone_row}
use Rattle.mc_pure.specs.Steps.{kind_row}
use Rattle.mc_pure.proofs.close.start.Given as goal

abbrev pub invariant-loop-node : goal.invariant-loop-node
invariant-loop-node l = l.rows.items ≡ lone_row null (pos 0) (pos 0) ∷ map kind_row (take l.node-index l.known.nodes)
