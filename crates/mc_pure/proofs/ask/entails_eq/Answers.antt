use Rattle.std.proofs.Common.{arith}
use Rattle.std.proofs.lemmas.Int.{ints}
use Rattle.mc_pure.specs.Known.{pure_of}
use Rattle.mc_pure.proofs.Clean.{same_cast, fits_small}
use Rattle.mc_pure.proofs.Asking.{eq_yes, eq_no, no_left, no_right}
use Rattle.mc_pure.proofs.ask.entails_eq.Goals as goal

pub returns-in_default-clause-no : goal.returns-in_default-clause-no
returns-in_default-clause-no c = λ _. (no_left (pure_of c.args.known.now) c.args.rows.now c.requires.sound c.requires.stable c.args.a c.args.b c.args.c.now.by c.in_default.ensures.none).0

pub returns-in_default-find-clause-no : goal.returns-in_default-find-clause-no
returns-in_default-find-clause-no c = λ _. (no_right (pure_of c.args.known.now) c.args.rows.now c.requires.sound c.requires.stable c.args.a c.args.b c.args.c.now.by c.in_default-find.ensures.none).0

pub returns-clause-yes : goal.returns-clause-yes
returns-clause-yes c =
    let cs = c.requires.short in
    let g = same_cast c.args.c.now.by (fits_small c.args.c.now.by (omega (arith, ints)) (omega (arith, ints))) in
    λ t. eq_yes (pure_of c.args.known.now) c.args.rows.now c.requires.sound c.requires.stable c.args.a c.args.b c.args.c.now.by c.in-Some.left c.in-Some-find.right c.in-Some.ensures.none c.in-Some-find.ensures.none c.in-Some.ensures.row.0 c.in-Some-find.ensures.row.0 (rw g at (c.is_linked.ensures.yes t))

pub returns-clause-no : goal.returns-clause-no
returns-clause-no c =
    let cs = c.requires.short in
    let g = same_cast c.args.c.now.by (fits_small c.args.c.now.by (omega (arith, ints)) (omega (arith, ints))) in
    λ t. eq_no (pure_of c.args.known.now) c.args.rows.now c.requires.sound c.requires.stable c.args.a c.args.b c.args.c.now.by c.in-Some.left c.in-Some-find.right c.in-Some.ensures.row.0 c.in-Some-find.ensures.row.0 (rw g at (c.is_linked.ensures.no t))
