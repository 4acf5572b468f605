use Rattle.std.proofs.Common.{◌≡◌, [], ◌∷◌, map}
use Rattle.mc_c_syntax.specs.Ast.Views.{condition_of as named_condition}
use Rattle.mc_semantics.specs.Resolved.Resolving.{resolved_condition}
use Rattle.mc_semantics.specs.Resolved.Views.{condition_of}
use Rattle.mc_resolve.specs.Conditions.{tested, part_steps}
use Rattle.mc_resolve.specs.Named.{naming_at, visible_at}
use Rattle.mc_resolve.proofs.condition.resolve_condition.Given as goal

abbrev pub invariant-loop-next : goal.invariant-loop-next
invariant-loop-next l =
    tested (naming_at l.names) (visible_at l.names) l.parts (map condition_of l.made) ≡ resolved_condition (naming_at l.names) (visible_at l.names) (named_condition l.condition) ∷ []

abbrev pub decreases-loop-next : goal.decreases-loop-next
decreases-loop-next l = part_steps l.parts
