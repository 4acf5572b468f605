use Rattle.mc_pure.specs.Known.{pure_of}
use Rattle.mc_pure.proofs.Looping.{base_at, tie_more, ties_all}
use Rattle.mc_pure.proofs.close.enforce_written.Goals as goal

pub enforce-requires-clause-base : goal.enforce-requires-clause-base
enforce-requires-clause-base c = base_at (pure_of c.args.known.now) c.all-atom-items.result.now c.loop-atom.atom-index _ c.all-atom-items.ensures c.loop-atom-test.true

pub loop-atom-preserved : goal.loop-atom-preserved
loop-atom-preserved c = tie_more (pure_of c.args.known.now) c.args.rows.now c.loop-atom.rows c.enforce.new.rows c.all-atom-items.result.now c.loop-atom.atom-index _ c.all-atom-items.ensures c.loop-atom-test.true c.loop-atom.invariant (c.enforce.ensures.yes c.if-not-enforce.false)

pub returns-clause-yes : goal.returns-clause-yes
returns-clause-yes c = λ _. ties_all (pure_of c.args.known.now) c.args.rows.now c.loop-atom.rows c.all-atom-items.result.now c.loop-atom.atom-index c.all-atom-items.ensures c.loop-atom-test.false c.loop-atom.invariant
