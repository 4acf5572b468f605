use Rattle.mc_replay.proofs.ChangesLemmas.Replays.{stuck_open, stuck_done, stuck_none, wrong_none}
use Rattle.mc_replay.proofs.changes.gets_stuck.Goals as goal

pub returns-in-Done : goal.returns-in-Done
returns-in-Done c w e tells =
    let r = rw c.in-Done.is at (c.in_ok-replay.ensures w e tells) in
    stuck_done w c.args.left.now c.args.own.now c.args.steps.now r.last r.reached r.done

pub returns-in-Open : goal.returns-in-Open
returns-in-Open c w e tells =
    let r = rw c.in-Open.is at (c.in_ok-replay.ensures w e tells) in
    stuck_open w c.args.left.now c.args.own.now c.args.steps.now _ c.in-Open.stuck r

pub returns : goal.returns
returns c w e tells =
    let r = rw c.in-Wrong.is at (c.in_ok-replay.ensures w e tells) in
    stuck_none w c.args.left.now c.args.own.now c.args.steps.now (wrong_none w c.args.left.now c.args.own.now c.args.steps.now c.in-Wrong.field-0 r)
