use Rattle.std.proofs.Common.{◌≡◌, []}
use Rattle.mc_c_syntax.specs.Ast.Views.{statement_of as named_statement}
use Rattle.mc_semantics.specs.Resolved.Resolving.{resolved_statement}
use Rattle.mc_c_types.specs.Scopes.{behind}
use Rattle.mc_resolve.specs.Frames.{finished, left_steps, plugged}
use Rattle.mc_resolve.specs.Named.{naming_held}
use Rattle.mc_resolve.proofs.statements.resolve_statement.Given as goal

abbrev pub invariant-loop-next : goal.invariant-loop-next
invariant-loop-next l =
    finished (naming_held l.naming) l.scope l.frames l.next
    ≡ plugged (naming_held l.naming) (behind (naming_held l.naming).tables l.initial.scope (named_statement l.fn.statement)) [] (resolved_statement (naming_held l.naming) l.initial.scope (named_statement l.fn.statement))

abbrev pub decreases-loop-next : goal.decreases-loop-next
decreases-loop-next l = left_steps l.frames l.next
