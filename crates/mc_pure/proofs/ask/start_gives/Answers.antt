use Rattle.std.proofs.Common.{refl, arith}
use Rattle.std.proofs.lemmas.Int.{ints}
use Rattle.mc_pure.specs.Known.{pure_of}
use Rattle.mc_pure.proofs.Clean.{same_cast, fits_small}
use Rattle.mc_pure.proofs.Asking.{start_none, pairs_more, pairs_all}
use Rattle.mc_pure.proofs.ask.start_gives.Goals as goal

pub returns-then-not-is_in_class-clause-no : goal.returns-then-not-is_in_class-clause-no
returns-then-not-is_in_class-clause-no c = λ _. start_none (pure_of c.args.known.now) c.args.rows.now c.args.i c.args.left.now c.args.right.now c.args.c (c.is_in_class.ensures.no c.if-not-is_in_class.true)

pub returns-then-pair_gives-clause-yes : goal.returns-then-pair_gives-clause-yes
returns-then-pair_gives-clause-yes c =
    let cs = c.requires.short in
    let g = same_cast c.args.c (fits_small c.args.c (omega (arith, ints)) (omega (arith, ints))) in
    λ _. (c.loop-j.j, rw g at (c.if-pair_gives.ensures.yes refl))

pub loop-j-preserved : goal.loop-j-preserved
loop-j-preserved c = pairs_more (pure_of c.args.known.now) c.args.rows.now c.args.i c.loop-j.j c.args.left.now c.args.right.now _ c.loop-j.invariant (c.if-pair_gives.ensures.no refl)

pub returns-clause-no : goal.returns-clause-no
returns-clause-no c =
    let cs = c.requires.short in
    let g = same_cast c.args.c (fits_small c.args.c (omega (arith, ints)) (omega (arith, ints))) in
    λ _. pairs_all (pure_of c.args.known.now) c.args.rows.now c.args.i c.loop-j.j c.args.left.now c.args.right.now c.args.c (omega (arith, c.loop-j-test.false, c.len-j-end.ensures)) (rw g at c.loop-j.invariant)
