use Rattle.std.proofs.Common.{refl, arith}
use Rattle.std.proofs.lemmas.Int.{ints}
use Rattle.mc_base.specs.declared.plain.Atom.TheVariants.{Ne, In}
use Rattle.mc_pure.specs.Rows.{Settled}
use Rattle.mc_pure.proofs.Clean.{same_cast, fits_small}
use Rattle.mc_pure.proofs.Looping.{stepped_map}
use Rattle.mc_pure.proofs.Stepping.{tame, part_nothing, part_clash, left_in, left_done, left_small, right_in, right_done, right_small}
use Rattle.mc_pure.specs.Known.{pure_of}
use Rattle.mc_pure.proofs.close.part.Goals as goal

pub split_of-requires-clause-left : goal.split_of-requires-clause-left
split_of-requires-clause-left c = tame (pure_of c.args.known.now) c.args.rows.now c.args.a c.row_of-left.result c.requires.sound c.requires.left c.row_of-left.ensures.is

pub split_of-requires-clause-right : goal.split_of-requires-clause-right
split_of-requires-clause-right c = tame (pure_of c.args.known.now) c.args.rows.now c.args.b c.row_of-right.result c.requires.sound c.requires.right c.row_of-right.ensures.is

pub restrict-requires-clause-derived : goal.restrict-requires-clause-derived
restrict-requires-clause-derived c =
    let short = c.requires.short in
    let e = same_cast c.args.c (fits_small c.args.c (omega (arith, ints)) (omega (arith, ints))) in
    left_in (pure_of c.args.known.now) c.args.rows.now c.args.a c.args.b c.args.c c.row_of-left.result c.row_of-right.result c.requires.sound c.requires.derived c.requires.left c.requires.right c.row_of-left.ensures.is c.row_of-right.ensures.is c.in-Left.span (rw e at c.in-Left.ensures)

pub restrict-requires-clause-lo : goal.restrict-requires-clause-lo
restrict-requires-clause-lo c =
    let short = c.requires.short in
    let e = same_cast c.args.c (fits_small c.args.c (omega (arith, ints)) (omega (arith, ints))) in
    (left_small (pure_of c.args.known.now) c.args.rows.now c.args.a c.args.b c.args.c c.row_of-left.result c.row_of-right.result c.requires.sound c.requires.derived c.requires.left c.requires.right c.row_of-left.ensures.is c.row_of-right.ensures.is c.in-Left.span (rw e at c.in-Left.ensures)).0

pub restrict-requires-clause-hi : goal.restrict-requires-clause-hi
restrict-requires-clause-hi c =
    let short = c.requires.short in
    let e = same_cast c.args.c (fits_small c.args.c (omega (arith, ints)) (omega (arith, ints))) in
    (left_small (pure_of c.args.known.now) c.args.rows.now c.args.a c.args.b c.args.c c.row_of-left.result c.row_of-right.result c.requires.sound c.requires.derived c.requires.left c.requires.right c.row_of-left.ensures.is c.row_of-right.ensures.is c.in-Left.span (rw e at c.in-Left.ensures)).1

pub restrict-requires-in-Right-clause-derived : goal.restrict-requires-in-Right-clause-derived
restrict-requires-in-Right-clause-derived c =
    let short = c.requires.short in
    let e = same_cast c.args.c (fits_small c.args.c (omega (arith, ints)) (omega (arith, ints))) in
    right_in (pure_of c.args.known.now) c.args.rows.now c.args.a c.args.b c.args.c c.row_of-left.result c.row_of-right.result c.requires.sound c.requires.derived c.requires.left c.requires.right c.row_of-left.ensures.is c.row_of-right.ensures.is c.in-Right.span (rw e at c.in-Right.ensures)

pub restrict-requires-in-Right-clause-lo : goal.restrict-requires-in-Right-clause-lo
restrict-requires-in-Right-clause-lo c =
    let short = c.requires.short in
    let e = same_cast c.args.c (fits_small c.args.c (omega (arith, ints)) (omega (arith, ints))) in
    (right_small (pure_of c.args.known.now) c.args.rows.now c.args.a c.args.b c.args.c c.row_of-left.result c.row_of-right.result c.requires.sound c.requires.derived c.requires.left c.requires.right c.row_of-left.ensures.is c.row_of-right.ensures.is c.in-Right.span (rw e at c.in-Right.ensures)).0

pub restrict-requires-in-Right-clause-hi : goal.restrict-requires-in-Right-clause-hi
restrict-requires-in-Right-clause-hi c =
    let short = c.requires.short in
    let e = same_cast c.args.c (fits_small c.args.c (omega (arith, ints)) (omega (arith, ints))) in
    (right_small (pure_of c.args.known.now) c.args.rows.now c.args.a c.args.b c.args.c c.row_of-left.result c.row_of-right.result c.requires.sound c.requires.derived c.requires.left c.requires.right c.row_of-left.ensures.is c.row_of-right.ensures.is c.in-Right.span (rw e at c.in-Right.ensures)).1

pub returns-in-Nothing : goal.returns-in-Nothing
returns-in-Nothing c =
    let short = c.requires.short in
    let e = same_cast c.args.c (fits_small c.args.c (omega (arith, ints)) (omega (arith, ints))) in
    (refl, part_nothing (pure_of c.args.known.now) c.args.rows.now c.args.a c.args.b c.args.c c.row_of-left.result c.row_of-right.result c.requires.sound c.requires.derived c.requires.left c.requires.right c.row_of-left.ensures.is c.row_of-right.ensures.is (rw e at c.in-Nothing.ensures))

pub returns-in-Clash : goal.returns-in-Clash
returns-in-Clash c =
    let short = c.requires.short in
    let e = same_cast c.args.c (fits_small c.args.c (omega (arith, ints)) (omega (arith, ints))) in
    part_clash (pure_of c.args.known.now) c.args.rows.now c.args.a c.args.b c.args.c c.row_of-left.result c.row_of-right.result c.requires.sound c.requires.derived c.requires.left c.requires.right c.row_of-left.ensures.is c.row_of-right.ensures.is (rw e at c.in-Clash.ensures)

pub returns-in-Left : goal.returns-in-Left
returns-in-Left c =
    let short = c.requires.short in
    let e = same_cast c.args.c (fits_small c.args.c (omega (arith, ints)) (omega (arith, ints))) in
    stepped_map (pure_of c.args.known.now) c.args.rows.now c.restrict.new.rows (Settled (pure_of c.args.known.now) c.args.rows.now (In c.args.a c.in-Left.span.lo c.in-Left.span.hi)) (Settled (pure_of c.args.known.now) c.args.rows.now (Ne c.args.a c.args.b c.args.c)) c.restrict.result (left_done (pure_of c.args.known.now) c.args.rows.now c.args.a c.args.b c.args.c c.row_of-left.result c.row_of-right.result c.requires.sound c.requires.derived c.requires.left c.requires.right c.row_of-left.ensures.is c.row_of-right.ensures.is c.in-Left.span (rw e at c.in-Left.ensures)) c.restrict.ensures

pub returns-in-Right : goal.returns-in-Right
returns-in-Right c =
    let short = c.requires.short in
    let e = same_cast c.args.c (fits_small c.args.c (omega (arith, ints)) (omega (arith, ints))) in
    stepped_map (pure_of c.args.known.now) c.args.rows.now c.restrict-in-Right.new.rows (Settled (pure_of c.args.known.now) c.args.rows.now (In c.args.b c.in-Right.span.lo c.in-Right.span.hi)) (Settled (pure_of c.args.known.now) c.args.rows.now (Ne c.args.a c.args.b c.args.c)) c.restrict-in-Right.result (right_done (pure_of c.args.known.now) c.args.rows.now c.args.a c.args.b c.args.c c.row_of-left.result c.row_of-right.result c.requires.sound c.requires.derived c.requires.left c.requires.right c.row_of-left.ensures.is c.row_of-right.ensures.is c.in-Right.span (rw e at c.in-Right.ensures)) c.restrict-in-Right.ensures
