use Rattle.std.proofs.Common.{pos, get_or, w64, FitsSigned, ◌∙◌, rules, arith}
use Rattle.std.proofs.lemmas.Int.{ints, clamps, to_z-of_z}
use Rattle.mc_base.proofs.RangesLemmas.Nearest.{closer_above, passed_above}
use Rattle.mc_base.proofs.ranges.ends.nearest_above.Goals as goal
use Rattle.mc_base.proofs.ranges.ends.nearest_above.Goals.{then-number-threshold, else-number-threshold}

pub loop-threshold-preserved : goal.loop-threshold-preserved
loop-threshold-preserved c =
    let fits : FitsSigned w64 (get_or c.args.thresholds.now c.loop-threshold.threshold-index (pos 0)) = search rules in
    let read = to_z-of_z w64 (get_or c.args.thresholds.now c.loop-threshold.threshold-index (pos 0)) fits in
    let within = c.loop-threshold-test.true in
    elim c.if-number-threshold.branch [
      | then-number-threshold w ↦
          let test = w.if-number-threshold.true in
          let made = w.nearest-is ∙ to_z-of_z w64 w.min-nearest.result (record { sfits = w.min-nearest.type_inv }) ∙ w.min-nearest.ensures.value in
          let near = c.loop-threshold.invariant in
          let int = c.requires.int in
          (closer_above c.args.thresholds.now c.loop-threshold.threshold-index _ _ within _ _ read near.0 (omega (arith, ints)) made, (omega (arith, ints, clamps, near.1.0, near.1.1), omega (arith, ints, clamps, near.1.0, near.1.1)))
      | else-number-threshold w ↦
          let test = w.if-number-threshold.false in
          let is = w.nearest-is in
          rw is (passed_above c.args.thresholds.now c.loop-threshold.threshold-index _ _ within _ read c.loop-threshold.invariant.0 (omega (arith, ints)), c.loop-threshold.invariant.1)
    ]
