use Rattle.std.proofs.Common.{◌∙◌, arith}
use Rattle.std.proofs.lemmas.Int.{ints, clamps}
use Rattle.std.specs.Int.{int_max, int_min}
use Rattle.mc_base.proofs.RangesLemmas.Plain.{as_read, end_passed, on_both}
use Rattle.mc_base.proofs.RangesLemmas.Least.{least-hull, least-left}
use Rattle.mc_base.proofs.ranges.Range.hull.Goals as goal

pub returns-then-other-clause-least : goal.returns-then-other-clause-least
returns-then-other-clause-least c =
    let empty = c.if-other.true in
    least-left c.args.self c.args.other (grind (arith, ints))

pub invariant_of-result : goal.invariant_of-result
invariant_of-result c =
    let low = c.min.ensures.value in
    let high = c.max.ensures.value in
    record {
      low_end = (omega (arith, ints, clamps), omega (arith, ints, clamps));
      high_end = (omega (arith, ints, clamps), omega (arith, ints, clamps));
    }

pub returns-clause-least : goal.returns-clause-least
returns-clause-least c =
    let left = c.if-self.false in
    let right = c.if-other.false in
    least-hull c.args.self c.args.other _ (grind (arith, ints)) (grind (arith, ints))
    (as_read c.min.result (record { sfits = c.min.type_inv }) (c.min.ensures.value ∙ on_both int_min (end_passed c.args.self.lo c.args.self.low_end) (end_passed c.args.other.lo c.args.other.low_end)))
    (as_read c.max.result (record { sfits = c.max.type_inv }) (c.max.ensures.value ∙ on_both int_max (end_passed c.args.self.hi c.args.self.high_end) (end_passed c.args.other.hi c.args.other.high_end)))
