use Rattle.std.proofs.Common.{subst}
use Rattle.std.specs.Prelude.{◌↔◌, IsTrue}
use Rattle.mc_check_line.specs.Judging.{path}
use Rattle.mc_state.specs.Facts.{IsFalse}
use Rattle.mc_state.specs.State.{State}
use Rattle.mc_follow.proofs.AlarmsLemmas.SideLines.{side_is}
use Rattle.mc_follow.proofs.alarms.walk.Walk.is_false.Goals as goal

pub returns-in-Some : goal.returns-in-Some
returns-in-Some c = λ goal s others side.
    let e = (side_is c.args.self.now.proof (path c.in-Some.branch.now) goal s others c.in-Some.ensures side).1 in
    subst (λ (t : State). IsTrue c.is_false.result ↔ IsFalse t) e c.is_false.ensures.derived
