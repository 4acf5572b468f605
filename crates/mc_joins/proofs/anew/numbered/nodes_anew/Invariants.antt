use Rattle.std.proofs.Common.{length}
use Rattle.mc_joins.proofs.AnewLemmas.Numbering.{Numbering}
use Rattle.mc_joins.proofs.anew.numbered.nodes_anew.Given as goal

abbrev pub invariant-loop-node : goal.invariant-loop-node
invariant-loop-node l = Numbering (length l.state.env) l.state.kinds l.node-index l.fresh l.renaming
