use Rattle.std.proofs.Common.{◌≡◌, [], ◌∷◌, map}
use Rattle.mc_c_syntax.specs.Ast.Views.{expression_of as named_expression}
use Rattle.mc_semantics.specs.Resolved.Resolving.{resolved_expression}
use Rattle.mc_semantics.specs.Resolved.Views.{expression_of}
use Rattle.mc_resolve.specs.Builds.{built, work_steps}
use Rattle.mc_resolve.specs.Named.{naming_at, visible_at}
use Rattle.mc_resolve.proofs.expression.resolve_expression.Given as goal

abbrev pub invariant-loop-next : goal.invariant-loop-next
invariant-loop-next l =
    built (naming_at l.names) (visible_at l.names) l.work (map expression_of l.made) ≡ resolved_expression (naming_at l.names) (visible_at l.names) (named_expression l.expression) ∷ []

abbrev pub decreases-loop-next : goal.decreases-loop-next
decreases-loop-next l = work_steps l.work
