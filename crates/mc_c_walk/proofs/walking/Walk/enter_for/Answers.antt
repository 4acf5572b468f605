use Rattle.std.proofs.Common.{List, ◌∷◌, ◌++◌, true, ap, ◌∙◌}
use Rattle.std.specs.Option.{option_map}
use Rattle.mc_c_syntax.specs.Ast.Views.{head_of, simple_of, start_of, statement_of}
use Rattle.mc_c_types.specs.Scopes.{behind_start}
use Rattle.mc_c_walk.specs.Tasks.{pending, rest}
use Rattle.mc_c_walk.specs.Visits.{maybe_performed}
use Rattle.mc_c_walk.specs.declared.tasks.Task.{Task}
use Rattle.mc_c_walk.proofs.Pending.{for_pending}
use Rattle.mc_c_walk.proofs.walking.Walk.enter_for.Goals as goal

pub returns-clause-pending : goal.returns-clause-pending
returns-clause-pending c t =
    let start = behind_start t c.args.self.now.scope (start_of c.args.head.now.start) in
    for_pending t c.args.self.now.scope (head_of c.args.head.now) (statement_of c.args.part.now.value) c.marks.result.heads c.args.self.now.tasks (rest t c.enter_start.new.self) (pending t start c.push_condition.new.tasks) (pending t start c.push_simple.new.tasks) (c.in_ok-enter_start.ensures.pending t) (c.in_ok-push_condition.ensures.pending t start) (c.in_ok-push_simple.ensures.pending t start ∙ ap (λ (tasks : List Task). maybe_performed start (option_map simple_of c.args.head.now.last) ++ pending t start tasks) (c.in_ok-push-2.ensures ∙ ap (λ (tasks : List Task). Task.Whole c.args.part true ∷ tasks) c.in_ok-push.ensures)) c.marks.ensures.heads
