use Rattle.std.proofs.Common.{get_or}
use Rattle.std.proofs.lemmas.Option.{slice_get-get_or}
use Rattle.mc_base.specs.Nodes.{null}
use Rattle.mc_pure_ops.proofs.JoinLemmas.Pairing.{one_kind_at, first_none, first_skip, first_more, first_all, fresh}
use Rattle.mc_pure_ops.proofs.join.nodes.numbered.Goals as goal

pub kind_of_pair-requires : goal.kind_of_pair-requires
kind_of_pair-requires c = one_kind_at c.args.left.now c.args.right.now c.args.pairs.now c.loop-i.i (null, null) c.requires c.loop-i-test.true

pub node-requires : goal.node-requires
node-requires c = rw c.node_at.ensures (fresh c.args.left.now c.args.right.now c.args.pairs.now c.loop-i.i (get_or c.args.pairs.now c.loop-i.i (null, null)) (slice_get-get_or c.args.pairs.now c.loop-i.i (null, null) c.loop-i-test.true) c.loop-i.joint c.loop-i.auto.i c.loop-i.invariant)

pub loop-i-init : goal.loop-i-init
loop-i-init c = first_none c.args.left.now c.args.right.now c.args.pairs.now _ c.in_ok-joint.ensures

pub loop-i-preserved-in_default : goal.loop-i-preserved-in_default
loop-i-preserved-in_default c = first_skip c.args.left.now c.args.right.now c.args.pairs.now c.loop-i.i (get_or c.args.pairs.now c.loop-i.i (null, null)) (slice_get-get_or c.args.pairs.now c.loop-i.i (null, null) c.loop-i-test.true) c.loop-i.joint (rw c.in_default.is at c.kind_of_pair.ensures) c.loop-i.invariant

pub loop-i-preserved : goal.loop-i-preserved
loop-i-preserved c = first_more c.args.left.now c.args.right.now c.args.pairs.now c.loop-i.i (get_or c.args.pairs.now c.loop-i.i (null, null)) (slice_get-get_or c.args.pairs.now c.loop-i.i (null, null) c.loop-i-test.true) c.loop-i.joint c.node.new.self c.in-Some.kind c.loop-i.auto.i (rw c.in-Some.is at c.kind_of_pair.ensures) (rw c.node_at.ensures at c.in_ok-node.ensures.ok) c.loop-i.invariant

pub returns : goal.returns
returns c = first_all c.args.left.now c.args.right.now c.args.pairs.now c.loop-i.i c.loop-i.joint c.loop-i-test.false c.loop-i.invariant
