use Rattle.std.proofs.Common.{map}
use Rattle.mc_c_syntax.specs.Ast.Trees.{stmts_of}
use Rattle.mc_c_syntax.specs.Ast.Views.{statement_of}
use Rattle.mc_c_walk.proofs.Pending.{block_pending}
use Rattle.mc_c_walk.proofs.walking.Walk.enter_block.Goals as goal

pub returns-clause-pending : goal.returns-clause-pending
returns-clause-pending c t =
    rw c.enter.ensures
    (rw c.in_ok-push-2.ensures
    (rw c.in_ok-push.ensures
    (block_pending t c.args.in_loop c.args.self.now.scope (stmts_of (map statement_of c.args.several.now)) c.marks-marks.result c.args.self.now.tasks c.marks-marks.ensures.heads c.marks-marks.ensures.own)))
