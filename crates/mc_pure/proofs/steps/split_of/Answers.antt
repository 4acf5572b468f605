use Rattle.std.proofs.Common.{refl, arith}
use Rattle.std.proofs.lemmas.Int.{ints}
use Rattle.mc_pure.proofs.Changing.{number}
use Rattle.mc_pure.proofs.Stepping.{without_at}
use Rattle.mc_pure.proofs.steps.split_of.Goals as goal

pub returns-then-is_single : goal.returns-then-is_single
returns-then-is_single c =
    let m = c.own_span-mine.ensures in
    let o = c.own_span-other.ensures in
    let k = c.class_span.ensures in
    let y = c.if-is_single.ensures.yes refl in
    ((λ e. c.if-left-right.false (number e)), omega (arith, ints, k.lo, k.hi, y), without_at c.own_span-mine.result c.without.result _ _ _ _ m.lo m.hi (omega (arith, ints)) c.without.ensures)

pub returns-then-is_single-2 : goal.returns-then-is_single-2
returns-then-is_single-2 c =
    let m = c.own_span-mine-then-is_single-2.ensures in
    let o = c.own_span-other-then-is_single-2.ensures in
    let k = c.class_span.ensures in
    let l = c.class_span-else-is_single.ensures in
    let n = c.if-is_single.ensures.no refl in
    let y = c.if-is_single-2.ensures.yes refl in
    ((λ e. c.if-left-right.false (number e)), (λ x. n (omega (arith, ints, k.lo, k.hi, x))), omega (arith, ints, l.lo, l.hi, y), without_at c.own_span-other-then-is_single-2.result c.without-then-is_single-2.result _ _ _ _ o.lo o.hi (omega (arith, ints)) c.without-then-is_single-2.ensures)
