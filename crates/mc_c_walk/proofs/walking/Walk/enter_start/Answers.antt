use Rattle.mc_c_syntax.specs.Ast.Views.{declaration_of}
use Rattle.mc_c_walk.proofs.Pending.{start_pending}
use Rattle.mc_c_walk.proofs.walking.Walk.enter_start.Goals as goal

pub returns-in_ok-push-in-Declaration-2-clause-pending : goal.returns-in_ok-push-in-Declaration-2-clause-pending
returns-in_ok-push-in-Declaration-2-clause-pending c t =
    rw c.in-Declaration.is
    (rw c.enter.ensures
    (rw c.in_ok-push-in-Declaration-2.ensures
    (rw c.in_ok-push-in-Declaration.ensures
    (rw c.as_slice.ensures.value
    (start_pending t c.args.self.now.scope (declaration_of c.in-Declaration.declaration) c.marks-marks.result c.args.self.now.tasks c.marks-marks.ensures.heads c.marks-marks.ensures.own)))))
