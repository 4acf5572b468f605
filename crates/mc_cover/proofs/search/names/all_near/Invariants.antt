use Rattle.std.proofs.Common.{◌≡◌, drop}
use Rattle.mc_cover.specs.Search.Terms.{all_near}
use Rattle.mc_cover.proofs.search.names.all_near.Given as goal

abbrev pub invariant-loop-term : goal.invariant-loop-term
invariant-loop-term l = all_near l.terms ≡ all_near (drop l.term-index l.terms)
