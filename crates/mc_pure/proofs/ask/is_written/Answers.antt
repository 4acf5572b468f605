use Rattle.std.proofs.Common.{refl, arith}
use Rattle.std.proofs.lemmas.Int.{ints}
use Rattle.mc_pure.specs.Known.{pure_of}
use Rattle.mc_pure.proofs.Clean.{same_cast, fits_small}
use Rattle.mc_pure.proofs.Looping.{apart_base}
use Rattle.mc_pure.proofs.Asking.{written_at, none_more, none_all}
use Rattle.mc_pure.proofs.ask.is_written.Goals as goal

pub gives-requires-clause-base : goal.gives-requires-clause-base
gives-requires-clause-base c = apart_base (pure_of c.args.known.now) c.apart-atom-items.result.now c.loop-atom.atom-index _ c.apart-atom-items.ensures c.loop-atom-test.true

pub returns-then-gives-clause-yes : goal.returns-then-gives-clause-yes
returns-then-gives-clause-yes c =
    let cs = c.requires.short in
    let g = same_cast c.args.c (fits_small c.args.c (omega (arith, ints)) (omega (arith, ints))) in
    λ _. written_at (pure_of c.args.known.now) c.args.rows.now c.apart-atom-items.result.now c.loop-atom.atom-index _ c.args.left.now c.args.right.now c.args.c c.apart-atom-items.ensures c.loop-atom-test.true (rw g at (c.if-gives.ensures.yes refl))

pub loop-atom-preserved : goal.loop-atom-preserved
loop-atom-preserved c = none_more (pure_of c.args.known.now) c.args.rows.now c.apart-atom-items.result.now c.loop-atom.atom-index _ c.args.left.now c.args.right.now _ c.apart-atom-items.ensures c.loop-atom-test.true c.loop-atom.invariant (c.if-gives.ensures.no refl)

pub returns-clause-no : goal.returns-clause-no
returns-clause-no c =
    let cs = c.requires.short in
    let g = same_cast c.args.c (fits_small c.args.c (omega (arith, ints)) (omega (arith, ints))) in
    λ _. none_all (pure_of c.args.known.now) c.args.rows.now c.apart-atom-items.result.now c.loop-atom.atom-index c.args.left.now c.args.right.now c.args.c c.apart-atom-items.ensures c.loop-atom-test.false (rw g at c.loop-atom.invariant)
