use Rattle.std.proofs.Common.{reverse}
use Rattle.mc_check_line.specs.Judging.{path}
use Rattle.mc_follow.proofs.AlarmsLemmas.SideLines.{cover_found, mets_found, own_side}
use Rattle.mc_follow.proofs.alarms.walk.Walk.met_now.Goals as goal

pub mets_of-requires : goal.mets_of-requires
mets_of-requires c =
    let branch = c.in-Some.branch.now in
    let side = own_side c.args.self.now.proof (path branch) c.in-Some-goal.goal c.in-Some.ensures c.in-Some-goal.is in
    record { sound = c.requires.sound c.in-Some-goal.goal branch.state side.0 side.1 }

pub unreachable-requires-in-None : goal.unreachable-requires-in-None
unreachable-requires-in-None c =
    let old = c.args.self.now in
    let branch = c.in-Some.branch.now in
    let side = own_side old.proof (path branch) c.in-Some-goal.goal c.in-Some.ensures c.in-Some-goal.is in
    let none = rw c.in-None.is at c.in_ok-mets.ensures in
    cover_found c.documents_are_followed.ensures c.args.flow.now c.args.defs.now old.lines.items old.proof old.text.items old.ended old.tracks c.requires.followed c.in-Some-goal.goal branch.state side.0 side.1
    c.requires.here (c.requires.sound c.in-Some-goal.goal branch.state side.0 side.1) c.none_is_missed.ensures.cover none

pub returns : goal.returns
returns c =
    let some = rw c.in-Some-2.is at c.in_ok-mets.ensures in
    mets_found c.args.defs.now c.args.self.now.proof (path c.in-Some.branch.now) c.in-Some-goal.goal c.in-Some.ensures c.in-Some-goal.is (reverse c.in-Some-2.mets.items) some
