use Rattle.mc_pure.specs.Known.{pure_of}
use Rattle.mc_pure.proofs.Asking.{in_yes, in_no, no_node}
use Rattle.mc_pure.proofs.ask.entails_in.Goals as goal

pub returns-in_default-clause-no : goal.returns-in_default-clause-no
returns-in_default-clause-no c = λ _. no_node (pure_of c.args.known.now) c.args.rows.now c.requires.sound c.requires.stable c.args.a c.args.span.now.lo c.args.span.now.hi c.in_default.ensures.none

pub returns-clause-yes : goal.returns-clause-yes
returns-clause-yes c = λ t. in_yes (pure_of c.args.known.now) c.args.rows.now c.requires.sound c.requires.stable c.args.a c.args.span.now.lo c.args.span.now.hi c.in-Some.row c.own_span-mine.result c.in-Some.ensures.none c.in-Some.ensures.row.0 c.own_span-mine.ensures.lo c.own_span-mine.ensures.hi (c.holds.ensures.yes t)

pub returns-clause-no : goal.returns-clause-no
returns-clause-no c = λ t. in_no (pure_of c.args.known.now) c.args.rows.now c.requires.sound c.requires.stable c.args.a c.args.span.now.lo c.args.span.now.hi c.in-Some.row c.own_span-mine.result c.in-Some.ensures.row.0 c.own_span-mine.ensures.lo c.own_span-mine.ensures.hi (c.holds.ensures.no t)
