use Rattle.std.proofs.Common.{◌≡◌}
use Rattle.mc_c_syntax.specs.Ast.Views.{condition_of}
use Rattle.mc_semantics.specs.Moves.{condition_place}
use Rattle.mc_resolve.proofs.condition.condition_place.Given as goal

abbrev pub invariant-loop-current : goal.invariant-loop-current
invariant-loop-current l = condition_place (condition_of l.current) ≡ condition_place (condition_of l.condition)
