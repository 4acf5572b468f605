use Rattle.mc_pure_ops.proofs.JoinLemmas.Pairing.{there_of}
use Rattle.mc_pure_ops.proofs.JoinLemmas.Whole.{joined}
use Rattle.mc_pure_ops.proofs.join.join.Goals as goal

pub put_ranges-requires-clause-there : goal.put_ranges-requires-clause-there
put_ranges-requires-clause-there c = there_of c.args.left.now c.args.right.now c.args.pairs.now c.requires.joinable

pub put_equalities-requires-clause-there : goal.put_equalities-requires-clause-there
put_equalities-requires-clause-there c = there_of c.args.left.now c.args.right.now c.args.pairs.now c.requires.joinable

pub returns : goal.returns
returns c = joined c.args.left.now c.args.right.now c.args.pairs.now c.in_ok-left_list.left_list.items c.in_ok-right_list.right_list.items c.args.round c.args.thresholds.now
    c.requires.left_true c.requires.right_true c.in_ok-left_list.ensures c.in_ok-right_list.ensures c.requires.joinable
    c.in_ok-joint.joint c.put_ranges.new.joint c.put_equalities.new.joint c.put_differences.new.joint c.put_listed.new.joint c.put_listed-2.new.joint
    c.in_ok-joint.ensures c.in_ok-put_ranges.ensures c.in_ok-put_equalities.ensures c.in_ok-put_differences.ensures
    (rw c.as_slice.ensures.value at c.in_ok-put_listed.ensures)
    (rw (c.as_slice-2.ensures.value, c.as_slice-3.ensures.value, c.in_ok-back.ensures) at c.in_ok-put_listed-2.ensures)
