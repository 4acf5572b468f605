use Rattle.std.proofs.Common.{subst}
use Rattle.mc_pure_ops.specs.Join.Joint.{Pairs, IsJoin}
use Rattle.mc_state.specs.State.{pure_of}
use Rattle.mc_replay.proofs.WholeLemmas.Moving.{join_meant}
use Rattle.mc_replay.proofs.whole.joint.Goals as goal

pub join-requires-clause-left_true : goal.join-requires-clause-left_true
join-requires-clause-left_true c = λ wrong. c.requires.left_true (c.known-left.ensures.is_false.0 wrong)

pub join-requires-clause-right_true : goal.join-requires-clause-right_true
join-requires-clause-right_true c = λ wrong. c.requires.right_true (c.known-right.ensures.is_false.0 wrong)

pub returns : goal.returns
returns c =
    let j = c.args.join.now in
    let l = c.known-left in
    let r = c.known-right in
    join_meant c.derived_grows.ensures.atoms c.derived_grows.ensures.false_stays l.result.now (pure_of j.left.state) r.result.now (pure_of j.right.state)
    (record { kinds = l.ensures.kinds; atoms = l.ensures.atoms; starts = l.ensures.starts }) (record { kinds = r.ensures.kinds; atoms = r.ensures.atoms; starts = r.ensures.starts })
    j.pairs.items c.args.round c.args.thresholds.now c.in_ok-both.both
    (subst (λ (ps : Pairs). IsJoin l.result.now r.result.now ps c.args.round c.args.thresholds.now c.in_ok-both.both) c.as_slice-pairs.ensures.value c.in_ok-both.ensures)
