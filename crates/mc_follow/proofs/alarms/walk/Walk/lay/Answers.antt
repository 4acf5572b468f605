use Rattle.std.proofs.Common.{◌≡◌, ◌+◌, ◌≤◌, arith, not, refl}
use Rattle.mc_follow.specs.Alarms.Walks.{ending}
use Rattle.mc_follow.proofs.AlarmsLemmas.SideLines.{told_sound}
use Rattle.mc_follow.proofs.alarms.walk.Walk.lay.Goals as goal

pub returns-clause-sound : goal.returns-clause-sound
returns-clause-sound c = told_sound c.turn.new.self.proof c.is_false.result (not c.is_false.result) c.is_false.ensures refl

pub returns-clause-follows : goal.returns-clause-follows
returns-clause-follows c =
    let old = c.args.self.now in
    let few : old.ended ≤ 65536 = c.requires.followed.within in
    let none : ending c.args.line ≡ 0 = c.requires.lasts in
    let count : c.turn.new.self.ended ≡ old.ended + ending c.args.line = c.in_ok-turn.ensures.counted in
    c.in_ok-turn.ensures.follows.0 (omega (arith, few, none, count))
