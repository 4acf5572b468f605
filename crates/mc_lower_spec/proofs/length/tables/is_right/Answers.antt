use Rattle.std.proofs.Common.{arith}
use Rattle.mc_lower_spec.proofs.LengthLemmas.Tabling.{all_right}
use Rattle.mc_lower_spec.proofs.length.tables.is_right.Goals as goal

pub returns : goal.returns
returns c =
    let above = c.loop-at-test.false in
    let end = c.loop-at.auto.at-end in
    λ yes. all_right c.args.table.now c.args.functions.now c.loop-at.at (omega arith) c.loop-at.invariant
