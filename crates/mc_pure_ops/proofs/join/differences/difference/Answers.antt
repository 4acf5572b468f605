use Rattle.std.proofs.Common.{get_or}
use Rattle.std.proofs.lemmas.Option.{slice_get-get_or}
use Rattle.mc_base.specs.Nodes.{null}
use Rattle.mc_pure_ops.proofs.JoinLemmas.Follow.{says}
use Rattle.mc_pure_ops.proofs.JoinLemmas.Pairing.{one_difference}
use Rattle.mc_pure_ops.proofs.join.differences.difference.Goals as goal

pub returns : goal.returns
returns c =
    let a = says c.entails.result _ c.entails.ensures c.if-not-entails.false in
    let b = says c.entails-2.result _ c.entails-2.ensures c.if-not-entails-2.false in
    rw (c.differ_by-3.ensures, c.node_at.ensures, c.node_at-2.ensures) (one_difference c.args.left.now c.args.right.now c.args.pairs.now c.args.i c.args.j (get_or c.args.pairs.now c.args.i (null, null)) (get_or c.args.pairs.now c.args.j (null, null)) (slice_get-get_or c.args.pairs.now c.args.i (null, null) c.requires.first) (slice_get-get_or c.args.pairs.now c.args.j (null, null) c.requires.second) c.requires.left_true c.requires.right_true (rw c.differ_by.ensures at a) (rw c.differ_by-2.ensures at b))
