use Rattle.std.proofs.Common.{arith}
use Rattle.mc_lower.proofs.Measuring.{are_too_long, few_there}
use Rattle.mc_lower.proofs.lowering.lower.Goals as goal

pub returns-then-points-gt-MAX_POINTS-clause-long : goal.returns-then-points-gt-MAX_POINTS-clause-long
returns-then-points-gt-MAX_POINTS-clause-long c =
    let more = c.if-points-gt-MAX_POINTS.true in
    λ same. are_too_long c.args.program.now c.args.structs.now c.in-Ok.points c.in-Ok.ensures (omega arith)

pub returns-in-Ok-build-clause-short : goal.returns-in-Ok-build-clause-short
returns-in-Ok-build-clause-short c =
    let few = c.if-points-gt-MAX_POINTS.false in
    few_there c.args.program.now c.args.structs.now c.in-Ok.points c.in-Ok-build.lowered c.in-Ok.ensures (omega arith) c.in-Ok-build.ensures.flow
