use Rattle.std.proofs.Common.{get_or}
use Rattle.std.proofs.lemmas.Option.{slice_get-get_or}
use Rattle.mc_base.specs.Nodes.{null}
use Rattle.mc_pure_ops.proofs.JoinLemmas.Follow.{range_full}
use Rattle.mc_pure_ops.proofs.JoinLemmas.Pairing.{there_at, one_kind_at, kind_once}
use Rattle.mc_pure_ops.proofs.JoinLemmas.Widening.{no_range, one_range, late_int}
use Rattle.mc_pure_ops.proofs.join.spans.range.Goals as goal

pub kind_of_pair-requires : goal.kind_of_pair-requires
kind_of_pair-requires c = one_kind_at c.args.left.now c.args.right.now c.args.pairs.now c.args.i (null, null) c.requires.joinable c.requires.first

pub returns-in_default : goal.returns-in_default
returns-in_default c = no_range c.args.left.now c.args.right.now c.requires.left_true c.requires.right_true c.args.pairs.now c.args.round c.args.thresholds.now c.requires.ints c.args.i (get_or c.args.pairs.now c.args.i (null, null)) (slice_get-get_or c.args.pairs.now c.args.i (null, null) c.requires.first) (rw c.in_default.is at c.kind_of_pair.ensures)

pub range-one-requires-clause-there : goal.range-one-requires-clause-there
range-one-requires-clause-there c = (there_at c.args.left.now c.args.right.now c.args.pairs.now c.args.i (null, null) c.requires.there c.requires.first).0

pub range-other-requires-clause-there : goal.range-other-requires-clause-there
range-other-requires-clause-there c = (there_at c.args.left.now c.args.right.now c.args.pairs.now c.args.i (null, null) c.requires.there c.requires.first).1

pub joint_range-both-requires-clause-one : goal.joint_range-both-requires-clause-one
joint_range-both-requires-clause-one c = range_full c.args.left.now c.requires.left_true _ _ _ c.range-one.ensures

pub joint_range-both-requires-clause-other : goal.joint_range-both-requires-clause-other
joint_range-both-requires-clause-other c = range_full c.args.right.now c.requires.right_true _ _ _ c.range-other.ensures

pub joint_range-both-requires-clause-one_int : goal.joint_range-both-requires-clause-one_int
joint_range-both-requires-clause-one_int c =
    let k = one_kind_at c.args.left.now c.args.right.now c.args.pairs.now c.args.i (null, null) c.requires.joinable c.requires.first in
    let m = rw c.in-Some.is at c.kind_of_pair.ensures in
    late_int c.args.left.now c.requires.left_true c.in-Some.kind k.0 c.args.round _ c.range-one.result (kind_once c.args.left.now c.args.right.now _ _ k c.in-Some.kind m.0) k.1 c.range-one.ensures

pub joint_range-both-requires-clause-other_int : goal.joint_range-both-requires-clause-other_int
joint_range-both-requires-clause-other_int c =
    let k = one_kind_at c.args.left.now c.args.right.now c.args.pairs.now c.args.i (null, null) c.requires.joinable c.requires.first in
    let m = rw c.in-Some.is at c.kind_of_pair.ensures in
    late_int c.args.right.now c.requires.right_true c.in-Some.kind k.0 c.args.round _ c.range-other.result (kind_once c.args.left.now c.args.right.now _ _ k c.in-Some.kind m.0) k.2 c.range-other.ensures

pub returns : goal.returns
returns c = rw (c.range_of.ensures, c.node_at.ensures) (one_range c.args.left.now c.args.right.now c.requires.left_true c.requires.right_true c.args.pairs.now c.args.round c.args.thresholds.now c.requires.ints c.args.i (get_or c.args.pairs.now c.args.i (null, null)) (slice_get-get_or c.args.pairs.now c.args.i (null, null) c.requires.first) c.in-Some.kind c.range-one.result c.range-other.result c.joint_range-both.result (rw c.in-Some.is at c.kind_of_pair.ensures) c.range-one.ensures c.range-other.ensures c.joint_range-both.ensures)
