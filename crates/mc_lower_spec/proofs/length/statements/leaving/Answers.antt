use Rattle.std.proofs.Common.{sym, arith}
use Rattle.mc_lower_spec.proofs.LengthLemmas.Stepping.{none_left}
use Rattle.mc_lower_spec.proofs.length.statements.leaving.Goals as goal

pub returns : goal.returns
returns c =
    let above = c.loop-at-test.false in
    let end = c.loop-at.auto.at-end in
    sym (none_left c.args.numbers.now c.args.made.now c.loop-at.at (omega arith) c.loop-at.invariant)
