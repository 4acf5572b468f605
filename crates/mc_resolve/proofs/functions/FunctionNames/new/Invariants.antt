use Rattle.std.proofs.Common.{◌≡◌, map, take}
use Rattle.std.specs.Prelude.{filter}
use Rattle.mc_c_syntax.specs.Ast.Views.{function_of}
use Rattle.mc_c_types.specs.Tables.{is_defined}
use Rattle.mc_resolve.proofs.functions.FunctionNames.new.Given as goal

abbrev pub invariant-loop-function : goal.invariant-loop-function
invariant-loop-function l = l.names ≡ map (λ f. f.now.name.text) (filter (λ f. is_defined (function_of f.now)) (take l.function-index l.tables.functions))
