use Rattle.std.proofs.Common.{◌≡◌, map, take}
use Rattle.std.specs.Prelude.{filter}
use Rattle.mc_c_syntax.specs.Ast.Views.{function_of as named_function}
use Rattle.mc_semantics.specs.Resolved.Resolving.{resolved_function}
use Rattle.mc_semantics.specs.Resolved.Views.{function_of}
use Rattle.mc_c_types.specs.Held.{tables_held}
use Rattle.mc_c_types.specs.Tables.{is_defined}
use Rattle.mc_resolve.proofs.program.resolve_functions.Given as goal

abbrev pub invariant-loop-function : goal.invariant-loop-function
invariant-loop-function l =
    map function_of l.made.items ≡ map (resolved_function (tables_held l.tables) l.defs) (filter is_defined (map (λ f. named_function f.now) (take l.function-index l.tables.functions)))
