use Rattle.std.proofs.Common.{◌≡◌, ◌++◌, drop}
use Rattle.std.specs.Prelude.{filter}
use Rattle.mc_c_syntax.specs.Ast.Views.{function_of}
use Rattle.mc_c_types.specs.Tables.{is_defined}
use Rattle.mc_c_types.proofs.functions.Functions.of.Given as goal

abbrev pub invariant-loop-function : goal.invariant-loop-function
invariant-loop-function l = l.defined ++ filter (λ g. is_defined (function_of g.now)) (drop l.function-index l.fn.all) ≡ filter (λ g. is_defined (function_of g.now)) l.fn.all
