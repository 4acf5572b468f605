use Rattle.std.proofs.Common.{◌≡◌, drop}
use Rattle.mc_joins.specs.Joinings.{partner}
use Rattle.mc_replay.proofs.pairs.partner.Given as goal

abbrev pub invariant-loop-pair : goal.invariant-loop-pair
invariant-loop-pair l = partner l.pairs l.side l.node ≡ partner (drop l.pair-index l.pairs) l.side l.node
