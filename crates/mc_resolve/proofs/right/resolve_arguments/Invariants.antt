use Rattle.std.proofs.Common.{◌≡◌, map, take}
use Rattle.mc_c_syntax.specs.Ast.Views.{expression_of as named_expression}
use Rattle.mc_semantics.specs.Resolved.Resolving.{resolved_expression}
use Rattle.mc_semantics.specs.Resolved.Views.{expression_of}
use Rattle.mc_resolve.specs.Named.{naming_at, visible_at}
use Rattle.mc_resolve.proofs.right.resolve_arguments.Given as goal

abbrev pub invariant-loop-argument : goal.invariant-loop-argument
invariant-loop-argument l =
    map expression_of l.made.items ≡ map (resolved_expression (naming_at l.names) (visible_at l.names)) (map named_expression (take l.argument-index l.arguments))
