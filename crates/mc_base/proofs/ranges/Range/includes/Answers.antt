use Rattle.std.proofs.Common.{arith}
use Rattle.std.proofs.lemmas.Int.{ints}
use Rattle.mc_base.proofs.ranges.Range.includes.Goals as goal

pub returns-then-self-other : goal.returns-then-self-other
returns-then-self-other c =
    let full = c.if-other.false in
    let low = c.if-self-other.true in (
      (λ test number there. (omega (arith, ints), grind (arith, ints))),
      (λ includes. let high = includes c.args.other.hi (grind (arith, ints), omega (arith, ints)) in grind (arith, ints)),
    )
