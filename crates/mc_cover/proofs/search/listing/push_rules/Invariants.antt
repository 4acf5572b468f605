use Rattle.std.proofs.Common.{◌≡◌, ◌++◌, take}
use Rattle.mc_cover.specs.Marks.{marks_of_rules}
use Rattle.mc_cover.proofs.search.listing.push_rules.Given as goal

abbrev pub invariant-loop-place : goal.invariant-loop-place
invariant-loop-place l = l.all.items ≡ l.fn.all.items ++ marks_of_rules l.ids 0 (take l.place l.rules)
