use Rattle.std.proofs.Common.{pos, get_or, w64, FitsSigned, ◌∙◌, rules, arith}
use Rattle.std.proofs.lemmas.Int.{ints, clamps, to_z-of_z}
use Rattle.mc_base.proofs.RangesLemmas.Nearest.{closer_below, passed_below}
use Rattle.mc_base.proofs.ranges.ends.nearest_below.Goals as goal
use Rattle.mc_base.proofs.ranges.ends.nearest_below.Goals.{then-threshold-number, else-threshold-number}

pub loop-threshold-preserved : goal.loop-threshold-preserved
loop-threshold-preserved c =
    let fits : FitsSigned w64 (get_or c.args.thresholds.now c.loop-threshold.threshold-index (pos 0)) = search rules in
    let read = to_z-of_z w64 (get_or c.args.thresholds.now c.loop-threshold.threshold-index (pos 0)) fits in
    let within = c.loop-threshold-test.true in
    elim c.if-threshold-number.branch [
      | then-threshold-number w ↦
          let test = w.if-threshold-number.true in
          let made = w.nearest-is ∙ to_z-of_z w64 w.max-nearest.result (record { sfits = w.max-nearest.type_inv }) ∙ w.max-nearest.ensures.value in
          let near = c.loop-threshold.invariant in
          let int = c.requires.int in
          (closer_below c.args.thresholds.now c.loop-threshold.threshold-index _ _ within _ _ read near.0 (omega (arith, ints)) made, (omega (arith, ints, clamps, near.1.0, near.1.1), omega (arith, ints, clamps, near.1.0, near.1.1)))
      | else-threshold-number w ↦
          let test = w.if-threshold-number.false in
          let is = w.nearest-is in
          rw is (passed_below c.args.thresholds.now c.loop-threshold.threshold-index _ _ within _ read c.loop-threshold.invariant.0 (omega (arith, ints)), c.loop-threshold.invariant.1)
    ]
