use Rattle.std.proofs.Common.{◌≡◌, arith, rules}
use Rattle.std.proofs.lemmas.Int.{ints}
use mir.Syntax.{w64}
use mir.Val.{SFits}
use Rattle.mc_pure_ops.proofs.canon.gaps.gap_between.Goals as goal
use Rattle.mc_pure.proofs.Clean.{fits_small, same_cast}

pub returns-clause-by : goal.returns-clause-by
returns-clause-by c =
    let a = c.wide.ensures.long in
    let b = c.wide-2.ensures.long in
    let d = c.wide-3.ensures.long in
    let x = same_cast c.wide.result (fits_small c.wide.result (omega (arith, ints)) (omega (arith, ints))) in
    let y = same_cast c.wide-2.result (fits_small c.wide-2.result (omega (arith, ints)) (omega (arith, ints))) in
    let z = same_cast c.wide-3.result (fits_small c.wide-3.result (omega (arith, ints)) (omega (arith, ints))) in
    let e = rw (x, y, z) at c.moved_by.ensures.is in
    omega (arith, ints, e, c.wide.ensures.is, c.wide-2.ensures.is, c.wide-3.ensures.is)
