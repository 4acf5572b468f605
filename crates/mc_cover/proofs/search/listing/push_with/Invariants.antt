use Rattle.std.proofs.Common.{◌≡◌, ◌++◌, ◌∷◌, map}
use Rattle.mc_cover.specs.declared.goals.Mark.TheVariants.{ByRule, ByCall}
use Rattle.mc_flow.specs.Defs.Conditions.{numbers_from}
use Rattle.mc_cover.proofs.search.listing.push_with.Given as goal

abbrev pub invariant-loop-call : goal.invariant-loop-call
invariant-loop-call l = l.all.items ≡ l.fn.all.items ++ (ByRule l.place l.block ∷ map (ByCall l.place l.block) (numbers_from 0 l.call))
