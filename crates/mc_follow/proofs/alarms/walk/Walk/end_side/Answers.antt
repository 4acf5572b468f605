use Rattle.std.proofs.Common.{subst}
use Rattle.mc_follow.specs.Alarms.Sides.{HasMet}
use Rattle.mc_follow.proofs.AlarmsLemmas.SideLines.{false_end, false_line, met_end, met_line, on_ok}
use Rattle.mc_follow.proofs.alarms.walk.Walk.end_side.Goals as goal

pub turn-requires-clause-sure : goal.turn-requires-clause-sure
turn-requires-clause-sure c =
    let old = c.args.self.now.proof in
    let mid = c.met_by.new.self.proof in
    met_line c.args.flow.now c.args.defs.now old mid c.requires.here c.in-Some.edge (subst (HasMet old mid) c.in-Some.is c.in_ok-edge.ensures.met)

pub turn-requires-in-None-clause-sure : goal.turn-requires-in-None-clause-sure
turn-requires-in-None-clause-sure c =
    let old = c.args.self.now.proof in
    let mid = c.met_by.new.self.proof in
    false_line c.args.flow.now c.args.defs.now old mid c.requires.here (subst (HasMet old mid) c.in-None.is c.in_ok-edge.ensures.met) c.in_ok-edge.ensures.follows.open_are

pub returns-in-Some-clause-ended : goal.returns-in-Some-clause-ended
returns-in-Some-clause-ended c =
    let old = c.args.self.now.proof in
    let mid = c.met_by.new.self.proof in
    on_ok c.turn.result (met_end c.args.flow.now c.args.defs.now old mid c.requires.here c.in-Some.edge (subst (HasMet old mid) c.in-Some.is c.in_ok-edge.ensures.met) c.turn.new.self.proof) c.turn.ensures.turned

pub returns-in-None-clause-ended : goal.returns-in-None-clause-ended
returns-in-None-clause-ended c =
    let old = c.args.self.now.proof in
    let mid = c.met_by.new.self.proof in
    on_ok c.turn-in-None.result (false_end c.args.flow.now c.args.defs.now old mid c.requires.here (subst (HasMet old mid) c.in-None.is c.in_ok-edge.ensures.met) c.turn-in-None.new.self.proof)
    c.turn-in-None.ensures.turned
