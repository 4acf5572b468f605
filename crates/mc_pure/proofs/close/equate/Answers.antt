use Rattle.std.proofs.Common.{arith}
use Rattle.std.proofs.lemmas.Int.{ints}
use Rattle.mc_pure.proofs.Clean.{same_cast, fits_small}
use Rattle.mc_pure.proofs.Stepping.{tame, small_link, node_zero, link_downward, link_done, link_long}
use Rattle.mc_pure.specs.Known.{pure_of}
use Rattle.mc_pure.proofs.close.equate.Goals as goal

pub link-step-requires-clause-left : goal.link-step-requires-clause-left
link-step-requires-clause-left c = tame (pure_of c.args.known.now) c.args.rows.now c.args.a c.row_of-left.result c.requires.sound c.requires.left c.row_of-left.ensures.is

pub link-step-requires-clause-right : goal.link-step-requires-clause-right
link-step-requires-clause-right c = tame (pure_of c.args.known.now) c.args.rows.now c.args.b c.row_of-right.result c.requires.sound c.requires.right c.row_of-right.ensures.is

pub act-requires-clause-long : goal.act-requires-clause-long
act-requires-clause-long c =
    let short = c.requires.short in
    let e = same_cast c.args.c (fits_small c.args.c (omega (arith, ints)) (omega (arith, ints))) in
    link_long (pure_of c.args.known.now) c.args.rows.now c.args.rows.now c.args.a c.args.b c.args.c c.row_of-left.result c.row_of-right.result c.requires.sound c.requires.derived c.requires.left c.requires.right c.row_of-left.ensures.is c.row_of-right.ensures.is
    c.link-step.result (rw e at c.link-step.ensures)

pub act-requires-clause-by : goal.act-requires-clause-by
act-requires-clause-by c =
    let short = c.requires.short in
    let e = same_cast c.args.c (fits_small c.args.c (omega (arith, ints)) (omega (arith, ints))) in
    small_link c.row_of-left.result c.row_of-right.result c.args.c c.link-step.result
    (tame (pure_of c.args.known.now) c.args.rows.now c.args.a c.row_of-left.result c.requires.sound c.requires.left c.row_of-left.ensures.is)
    (tame (pure_of c.args.known.now) c.args.rows.now c.args.b c.row_of-right.result c.requires.sound c.requires.right c.row_of-right.ensures.is)
    short (rw e at c.link-step.ensures)

pub act-requires-clause-order : goal.act-requires-clause-order
act-requires-clause-order c = link_downward c.row_of-left.result c.row_of-right.result _ c.link-step.result
    (node_zero (pure_of c.args.known.now) c.args.rows.now c.args.a c.row_of-left.result c.requires.sound c.requires.left c.row_of-left.ensures.is)
    (node_zero (pure_of c.args.known.now) c.args.rows.now c.args.b c.row_of-right.result c.requires.sound c.requires.right c.row_of-right.ensures.is)
    c.link-step.ensures

pub returns : goal.returns
returns c =
    let short = c.requires.short in
    let e = same_cast c.args.c (fits_small c.args.c (omega (arith, ints)) (omega (arith, ints))) in
    link_done (pure_of c.args.known.now) c.args.rows.now c.act.new.rows c.args.a c.args.b c.args.c c.row_of-left.result c.row_of-right.result c.requires.sound c.requires.derived c.requires.left c.requires.right c.row_of-left.ensures.is c.row_of-right.ensures.is
    c.link-step.result c.act.result (rw e at c.link-step.ensures) c.act.ensures
