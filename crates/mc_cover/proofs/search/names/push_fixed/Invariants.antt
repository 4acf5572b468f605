use Rattle.std.proofs.Common.{◌≡◌, drop}
use Rattle.mc_cover.specs.Terms.{with_fixed}
use Rattle.mc_cover.proofs.search.names.push_fixed.Given as goal

abbrev pub invariant-loop-atom : goal.invariant-loop-atom
invariant-loop-atom l = with_fixed l.fn.names.items l.atoms ≡ with_fixed l.names.items (drop l.atom-index l.atoms)
