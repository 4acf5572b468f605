use Rattle.std.proofs.Common.{ap, List, ◌∙◌}
use Rattle.std.specs.Prelude.{box_value}
use Rattle.mc_c_syntax.specs.Ast.Views.{head_of as named_head}
use Rattle.mc_semantics.specs.Resolved.Resolving.{resolved_statement}
use Rattle.mc_semantics.specs.Resolved.Views.{head_of}
use Rattle.mc_c_types.specs.Held.{tables_held}
use Rattle.mc_c_types.specs.Scopes.{behind}
use Rattle.mc_resolve.specs.Frames.{plugged}
use Rattle.mc_resolve.specs.Named.{naming_held}
use Rattle.mc_resolve.specs.declared.statements.Frame.{Frame}
use Rattle.mc_resolve.proofs.Frames.{for_left}
use Rattle.mc_resolve.proofs.statements.enter_for.Goals as goal

pub returns-clause-finished : goal.returns-clause-finished
returns-clause-finished c = λ a.
    let n = naming_held c.args.naming in
    let start = c.resolve_head.new.scope in
    ap (λ (frames : List Frame). plugged n (behind n.tables start a) frames (resolved_statement n start a)) c.in_ok-push.ensures
    ∙ for_left n c.args.scope.now start (named_head c.args.head.now) a c.marks-kept.result.heads c.args.frames.now (head_of (box_value c.in_ok-new.field-0))
    c.in_ok-head.ensures.scope (ap head_of c.in_ok-new.ensures.ok ∙ c.in_ok-head.ensures.head) c.marks-kept.ensures.heads
