use Rattle.std.proofs.Common.{refl, arith}
use Rattle.std.proofs.lemmas.Int.{ints}
use Rattle.mc_pure.proofs.Changing.{number}
use Rattle.mc_pure_ops.proofs.CanonLemmas.Nodes.{whole_place}
use Rattle.mc_pure_ops.proofs.CanonLemmas.Taken.{node_at}
use Rattle.mc_pure_ops.proofs.CanonLemmas.Moving.{start_class, start_yes, start_other, start_itself, start_no}
use Rattle.mc_pure_ops.proofs.canon.gaps.start_gives.Goals as goal
use Rattle.mc_pure_ops.proofs.canon.gaps.start_gives.Goals.{else-i-j-via-then-i-j+else-is_moved, else-i-j-via-else-i-j}
use Rattle.mc_pure.proofs.Clean.{fits_small, same_cast}

pub class_of-first-requires-clause-there : goal.class_of-first-requires-clause-there
class_of-first-requires-clause-there c = node_at c.args.pure.now c.args.starts.now c.args.i _ c.requires.starts c.requires.inside

pub returns-then-first-left-clause-no : goal.returns-then-first-left-clause-no
returns-then-first-left-clause-no c =
    λ _. start_class c.args.pure.now c.requires.not_false c.args.starts.now c.args.i (record { 0 = 0 }) c.args.gap.now c.class_of-first.result c.args.left.now c.args.right.now c.requires.inside (whole_place c.args.pure.now _ c.class_of-first.result c.class_of-first.ensures.least c.class_of-first.ensures.equal) c.requires.left c.requires.right (λ e. c.if-first-left.true (number e))

pub class_of-second-requires-clause-there : goal.class_of-second-requires-clause-there
class_of-second-requires-clause-there c = node_at c.args.pure.now c.args.starts.now c.loop-j.j _ c.requires.starts c.loop-j-test.true

pub returns-then-is_moved-clause-yes : goal.returns-then-is_moved-clause-yes
returns-then-is_moved-clause-yes c =
    let s = c.requires.short in
    let e = same_cast c.args.gap.now.by (fits_small c.args.gap.now.by (omega (arith, ints)) (omega (arith, ints))) in
    λ _. start_yes c.args.pure.now c.requires.not_false c.args.starts.now c.args.i (record { 0 = 0 }) c.args.gap.now c.class_of-first.result c.args.left.now c.args.right.now c.requires.inside (whole_place c.args.pure.now _ c.class_of-first.result c.class_of-first.ensures.least c.class_of-first.ensures.equal) c.requires.left c.requires.right c.loop-j.j c.class_of-second.result c.loop-j-test.true c.if-i-j.true (whole_place c.args.pure.now _ c.class_of-second.result c.class_of-second.ensures.least c.class_of-second.ensures.equal) (rw e at (c.if-is_moved.ensures.yes refl))

pub loop-j-preserved : goal.loop-j-preserved
loop-j-preserved c =
    let s = c.requires.short in
    let e = same_cast c.args.gap.now.by (fits_small c.args.gap.now.by (omega (arith, ints)) (omega (arith, ints))) in
    elim c.else-i-j.branch [
      | else-i-j-via-then-i-j+else-is_moved w ↦ start_other c.args.pure.now c.requires.not_false c.args.starts.now c.args.i (record { 0 = 0 }) c.args.gap.now c.class_of-first.result c.args.left.now c.args.right.now c.requires.inside (whole_place c.args.pure.now _ c.class_of-first.result c.class_of-first.ensures.least c.class_of-first.ensures.equal) c.requires.left c.requires.right c.loop-j.j c.class_of-second.result c.loop-j-test.true (whole_place c.args.pure.now _ c.class_of-second.result c.class_of-second.ensures.least c.class_of-second.ensures.equal) (rw e at (w.if-is_moved.ensures.no refl)) c.loop-j.invariant
      | else-i-j-via-else-i-j w ↦ start_itself c.args.pure.now c.requires.not_false c.args.starts.now c.args.i (record { 0 = 0 }) c.args.gap.now c.class_of-first.result c.args.left.now c.args.right.now c.requires.inside (whole_place c.args.pure.now _ c.class_of-first.result c.class_of-first.ensures.least c.class_of-first.ensures.equal) c.requires.left c.requires.right c.loop-j.j w.if-i-j.false c.loop-j.invariant
    ]

pub returns-clause-no : goal.returns-clause-no
returns-clause-no c =
    λ _. start_no c.args.pure.now c.requires.not_false c.args.starts.now c.args.i (record { 0 = 0 }) c.args.gap.now c.class_of-first.result c.args.left.now c.args.right.now c.requires.inside (whole_place c.args.pure.now _ c.class_of-first.result c.class_of-first.ensures.least c.class_of-first.ensures.equal) c.requires.left c.requires.right c.loop-j.j (omega arith) c.loop-j.invariant
