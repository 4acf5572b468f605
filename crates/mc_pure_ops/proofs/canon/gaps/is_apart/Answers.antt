use Rattle.std.proofs.Common.{◌≡◌, arith}
use Rattle.std.proofs.lemmas.Int.{ints}
use Rattle.mc_pure_ops.proofs.CanonLemmas.Moving.{apart_to, apart_from, spans_to, spans_from, range_bounds, met_long}
use Rattle.mc_pure_ops.proofs.canon.gaps.is_apart.Goals as goal
use Rattle.mc_pure.proofs.Clean.{fits_small, same_cast}

pub returns-clause-yes : goal.returns-clause-yes
returns-clause-yes c =
    let s = c.requires.short in
    let e = same_cast c.args.gap.now.by (fits_small c.args.gap.now.by (omega (arith, ints)) (omega (arith, ints))) in
    λ t. apart_to c.args.pure.now c.args.gap.now c.range.result.lo c.range.result.hi c.range-2.result.lo c.range-2.result.hi c.range.ensures c.range-2.ensures (spans_to c.range.result.lo c.range.result.hi c.range-2.result.lo c.range-2.result.hi c.ends_of-left.result.lo c.ends_of-left.result.hi c.ends_of-right.result.lo c.ends_of-right.result.hi c.args.gap.now.by _ c.ends_of-left.ensures.lo c.ends_of-left.ensures.hi c.ends_of-right.ensures.lo c.ends_of-right.ensures.hi e (c.are_apart.ensures.yes t))

pub returns-clause-no : goal.returns-clause-no
returns-clause-no c =
    let s = c.requires.short in
    let e = same_cast c.args.gap.now.by (fits_small c.args.gap.now.by (omega (arith, ints)) (omega (arith, ints))) in
    λ t a. c.are_apart.ensures.no t (spans_from c.range.result.lo c.range.result.hi c.range-2.result.lo c.range-2.result.hi c.ends_of-left.result.lo c.ends_of-left.result.hi c.ends_of-right.result.lo c.ends_of-right.result.hi c.args.gap.now.by _ c.ends_of-left.ensures.lo c.ends_of-left.ensures.hi c.ends_of-right.ensures.lo c.ends_of-right.ensures.hi e (apart_from c.args.pure.now c.requires.not_false c.args.gap.now c.range.result.lo c.range.result.hi c.range-2.result.lo c.range-2.result.hi c.range.ensures c.range-2.ensures a))

pub returns-clause-long : goal.returns-clause-long
returns-clause-long c =
    let s = c.requires.short in
    let e = same_cast c.args.gap.now.by (fits_small c.args.gap.now.by (omega (arith, ints)) (omega (arith, ints))) in
    let x = range_bounds c.args.pure.now c.args.gap.now.left c.range.result.lo c.range.result.hi c.requires.left c.range.ensures in
    let y = range_bounds c.args.pure.now c.args.gap.now.right c.range-2.result.lo c.range-2.result.hi c.requires.right c.range-2.ensures in
    λ t. met_long c.range.result.lo c.range.result.hi c.range-2.result.lo c.range-2.result.hi c.args.gap.now.by x.0 x.1 y.0 y.1 (λ w. c.are_apart.ensures.no t (spans_from c.range.result.lo c.range.result.hi c.range-2.result.lo c.range-2.result.hi c.ends_of-left.result.lo c.ends_of-left.result.hi c.ends_of-right.result.lo c.ends_of-right.result.hi c.args.gap.now.by _ c.ends_of-left.ensures.lo c.ends_of-left.ensures.hi c.ends_of-right.ensures.lo c.ends_of-right.ensures.hi e w))
