use Rattle.std.proofs.Common.{◌≡◌, ◌∷◌, take}
use Rattle.mc_cover.proofs.search.names.front_names.Given as goal

abbrev pub invariant-loop-arg : goal.invariant-loop-arg
invariant-loop-arg l = l.names.items ≡ l.goal.at ∷ take l.arg-index l.goal.args
