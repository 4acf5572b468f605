use Rattle.std.proofs.Common.{arith}
use Rattle.std.proofs.lemmas.Int.{ints, clamps}
use Rattle.mc_base.proofs.ranges.Range.meet.Goals as goal

pub invariant_of-result : goal.invariant_of-result
invariant_of-result c =
    let a = c.args.self.low_end in
    let b = c.args.self.high_end in
    let d = c.args.other.low_end in
    let e = c.args.other.high_end in
    record {
      low_end = (omega (arith, ints, clamps), omega (arith, ints, clamps));
      high_end = (omega (arith, ints, clamps), omega (arith, ints, clamps));
    }

pub returns-clause-exact : goal.returns-clause-exact
returns-clause-exact c = λ number. (
  (λ both. ((omega (arith, ints, clamps), omega (arith, ints, clamps)), (omega (arith, ints, clamps), omega (arith, ints, clamps)))),
  (λ both. (omega (arith, ints, clamps), omega (arith, ints, clamps))),
)
