use Rattle.mc_pure.specs.Known.{pure_of}
use Rattle.mc_pure.proofs.Looping.{all_settled, class_but}
use Rattle.mc_pure.proofs.close.include.Goals as goal

pub include_within-requires-clause-rest : goal.include_within-requires-clause-rest
include_within-requires-clause-rest c = class_but (pure_of c.args.known.now) c.args.rows.now c.apply.new.rows c.args.atom.now c.in-Changed.class c.requires.sound c.requires.rest c.in-Changed.ensures

pub returns-in-Same : goal.returns-in-Same
returns-in-Same c = all_settled (pure_of c.args.known.now) c.args.rows.now c.apply.new.rows c.args.atom.now c.requires.sound c.requires.rest c.in-Same.ensures
