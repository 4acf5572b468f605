use Rattle.std.proofs.Common.{refl, arith}
use Rattle.std.proofs.lemmas.Int.{ints}
use Rattle.mc_pure.specs.Known.{pure_of}
use Rattle.mc_pure.proofs.Clean.{same_cast, fits_small}
use Rattle.mc_pure.proofs.Asking.{starts_more, starts_all}
use Rattle.mc_pure.proofs.ask.starts_give.Goals as goal

pub returns-then-start_gives-clause-yes : goal.returns-then-start_gives-clause-yes
returns-then-start_gives-clause-yes c =
    let cs = c.requires.short in
    let g = same_cast c.args.c (fits_small c.args.c (omega (arith, ints)) (omega (arith, ints))) in
    λ _. (c.loop-i.i, rw g at (c.if-start_gives.ensures.yes refl))

pub loop-i-preserved : goal.loop-i-preserved
loop-i-preserved c = starts_more (pure_of c.args.known.now) c.args.rows.now c.loop-i.i c.args.left.now c.args.right.now _ c.loop-i.invariant (c.if-start_gives.ensures.no refl)

pub returns-clause-no : goal.returns-clause-no
returns-clause-no c =
    let cs = c.requires.short in
    let g = same_cast c.args.c (fits_small c.args.c (omega (arith, ints)) (omega (arith, ints))) in
    λ _. starts_all (pure_of c.args.known.now) c.args.rows.now c.loop-i.i c.args.left.now c.args.right.now c.args.c (omega (arith, c.loop-i-test.false, c.len-i-end.ensures)) (rw g at c.loop-i.invariant)
