use Rattle.std.proofs.Common.{refl, inl, inr, arith}
use Rattle.std.proofs.lemmas.Int.{ints}
use Rattle.mc_pure.specs.Known.{pure_of}
use Rattle.mc_pure.proofs.Clean.{same_cast, fits_small}
use Rattle.mc_pure.proofs.Asking.{apart_to, apart_from, by_written, by_starts, not_given}
use Rattle.mc_pure.proofs.ask.differ.Goals as goal

pub returns-then-is_apart-clause-yes : goal.returns-then-is_apart-clause-yes
returns-then-is_apart-clause-yes c =
    let cs = c.requires.short in
    let g = same_cast c.args.c.now.by (fits_small c.args.c.now.by (omega (arith, ints)) (omega (arith, ints))) in
    let m = c.own_span-mine.ensures in
    let o = c.own_span-other.ensures in
    λ _. inl (apart_to c.args.left.now c.args.right.now c.own_span-mine.result c.own_span-other.result c.args.c.now.by m.lo m.hi o.lo o.hi (rw g at (c.if-is_apart.ensures.yes refl)))

pub returns-then-is_written-clause-yes : goal.returns-then-is_written-clause-yes
returns-then-is_written-clause-yes c =
    let cs = c.requires.short in
    let g = same_cast c.args.c.now.by (fits_small c.args.c.now.by (omega (arith, ints)) (omega (arith, ints))) in
    λ _. inr (by_written (pure_of c.args.known.now) c.args.rows.now c.args.left.now c.args.right.now c.args.c.now.by (rw g at (c.if-is_written.ensures.yes refl)))

pub returns-clause-yes : goal.returns-clause-yes
returns-clause-yes c =
    let cs = c.requires.short in
    let g = same_cast c.args.c.now.by (fits_small c.args.c.now.by (omega (arith, ints)) (omega (arith, ints))) in
    λ t. inr (by_starts (pure_of c.args.known.now) c.args.rows.now c.args.left.now c.args.right.now c.args.c.now.by (rw g at (c.starts_give.ensures.yes t)))

pub returns-clause-no : goal.returns-clause-no
returns-clause-no c =
    let cs = c.requires.short in
    let g = same_cast c.args.c.now.by (fits_small c.args.c.now.by (omega (arith, ints)) (omega (arith, ints))) in
    let m = c.own_span-mine.ensures in
    let o = c.own_span-other.ensures in
    let na = rw g at (c.if-is_apart.ensures.no refl) in
    let nw = rw g at (c.if-is_written.ensures.no refl) in
    λ t d. elim d [ inl x ↦ na (apart_from c.args.left.now c.args.right.now c.own_span-mine.result c.own_span-other.result c.args.c.now.by m.lo m.hi o.lo o.hi x) | inr x ↦ not_given (pure_of c.args.known.now) c.args.rows.now c.args.left.now c.args.right.now c.args.c.now.by nw (rw g at (c.starts_give.ensures.no t)) x ]
