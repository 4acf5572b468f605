use Rattle.mc_pure.specs.Known.{pure_of}
use Rattle.mc_pure.proofs.Asking.{ne_yes, ne_no, no_left, no_right}
use Rattle.mc_pure.proofs.ask.entails_ne.Goals as goal

pub returns-in_default-clause-no : goal.returns-in_default-clause-no
returns-in_default-clause-no c = λ _. (no_left (pure_of c.args.known.now) c.args.rows.now c.requires.sound c.requires.stable c.args.a c.args.b c.args.c.now.by c.in_default.ensures.none).1

pub returns-in_default-find-clause-no : goal.returns-in_default-find-clause-no
returns-in_default-find-clause-no c = λ _. (no_right (pure_of c.args.known.now) c.args.rows.now c.requires.sound c.requires.stable c.args.a c.args.b c.args.c.now.by c.in_default-find.ensures.none).1

pub returns-clause-yes : goal.returns-clause-yes
returns-clause-yes c = λ t. ne_yes (pure_of c.args.known.now) c.args.rows.now c.requires.sound c.requires.stable c.args.a c.args.b c.args.c.now.by c.in-Some.left c.in-Some-find.right c.in-Some.ensures.none c.in-Some-find.ensures.none c.in-Some.ensures.row.0 c.in-Some-find.ensures.row.0 (c.differ.ensures.yes t)

pub returns-clause-no : goal.returns-clause-no
returns-clause-no c = λ t. ne_no (pure_of c.args.known.now) c.args.rows.now c.requires.sound c.requires.stable c.args.a c.args.b c.args.c.now.by c.in-Some.left c.in-Some-find.right c.in-Some.ensures.row.0 c.in-Some-find.ensures.row.0 (c.differ.ensures.no t)
