use Rattle.mc_joins.proofs.AlikeLemmas.Links.{Linked}
use Rattle.mc_joins.proofs.alike.same.linked.Given as goal

abbrev pub invariant-loop-i : goal.invariant-loop-i
invariant-loop-i l = Linked l.from l.to l.i l.links
