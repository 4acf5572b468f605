use Rattle.std.proofs.Common.{◌≡◌}
use Rattle.mc_c_syntax.specs.Ast.Views.{expression_of}
use Rattle.mc_c_types.specs.Faults.{first_place}
use Rattle.mc_c_types.proofs.expressions.first_place.Given as goal

abbrev pub invariant-loop-current : goal.invariant-loop-current
invariant-loop-current l = first_place (expression_of l.current) ≡ first_place (expression_of l.expression)
