use Rattle.std.proofs.Common.{get_or}
use Rattle.std.proofs.lemmas.Option.{slice_get-get_or}
use Rattle.mc_base.specs.Nodes.{null}
use Rattle.mc_pure_ops.proofs.JoinLemmas.Follow.{says, denies}
use Rattle.mc_pure_ops.proofs.JoinLemmas.Pairing.{there_at, none_left, none_right, one_equality}
use Rattle.mc_pure_ops.proofs.join.equalities.equality.Goals as goal

pub distance-requires-clause-first : goal.distance-requires-clause-first
distance-requires-clause-first c = (there_at c.args.left.now c.args.right.now c.args.pairs.now c.args.i (null, null) c.requires.there c.requires.first).0

pub distance-requires-clause-second : goal.distance-requires-clause-second
distance-requires-clause-second c = (there_at c.args.left.now c.args.right.now c.args.pairs.now c.args.j (null, null) c.requires.there c.requires.second).0

pub returns-in_default : goal.returns-in_default
returns-in_default c = none_left c.args.left.now c.args.right.now c.args.pairs.now c.args.i c.args.j (get_or c.args.pairs.now c.args.i (null, null)) (get_or c.args.pairs.now c.args.j (null, null)) (slice_get-get_or c.args.pairs.now c.args.i (null, null) c.requires.first) (slice_get-get_or c.args.pairs.now c.args.j (null, null) c.requires.second) (rw c.in_default.is at c.distance.ensures)

pub returns-then-not-entails : goal.returns-then-not-entails
returns-then-not-entails c = none_right c.args.left.now c.args.right.now c.args.pairs.now c.args.i c.args.j (get_or c.args.pairs.now c.args.i (null, null)) (get_or c.args.pairs.now c.args.j (null, null)) (slice_get-get_or c.args.pairs.now c.args.i (null, null) c.requires.first) (slice_get-get_or c.args.pairs.now c.args.j (null, null) c.requires.second) c.in-Some.by (rw c.in-Some.is at c.distance.ensures) (rw c.equal_by.ensures at (denies c.entails.result _ c.entails.ensures c.if-not-entails.true))

pub returns : goal.returns
returns c = rw (c.equal_by-2.ensures, c.node_at.ensures, c.node_at-2.ensures) (one_equality c.args.left.now c.args.right.now c.args.pairs.now c.args.i c.args.j (get_or c.args.pairs.now c.args.i (null, null)) (get_or c.args.pairs.now c.args.j (null, null)) (slice_get-get_or c.args.pairs.now c.args.i (null, null) c.requires.first) (slice_get-get_or c.args.pairs.now c.args.j (null, null) c.requires.second) c.requires.right_true c.in-Some.by (rw c.in-Some.is at c.distance.ensures) (rw c.equal_by.ensures at (says c.entails.result _ c.entails.ensures c.if-not-entails.false)))
