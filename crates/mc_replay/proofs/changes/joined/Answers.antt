use Rattle.mc_replay.proofs.ChangesLemmas.Replays.{whole_open, whole_none, wrong_none}
use Rattle.mc_replay.proofs.changes.joined.Goals as goal

pub returns-in-Done : goal.returns-in-Done
returns-in-Done c w e tells = rw c.in-Done.is at (c.in_ok-state.ensures w e tells)

pub returns-in-Open : goal.returns-in-Open
returns-in-Open c w e tells =
    let r = rw c.in-Open.is at (c.in_ok-state.ensures w e tells) in
    whole_open w c.args.left.now c.args.own.now c.args.steps.now r.last r.reached r.more

pub returns : goal.returns
returns c w e tells =
    let r = rw c.in-Wrong.is at (c.in_ok-state.ensures w e tells) in
    whole_none w c.args.left.now c.args.own.now c.args.steps.now (wrong_none w c.args.left.now c.args.own.now c.args.steps.now c.in-Wrong.field-0 r)
