use Rattle.mc_pure.specs.Known.{pure_of}
use Rattle.mc_pure.proofs.Looping.{address_base, address_more, addresses_all}
use Rattle.mc_pure.proofs.close.enforce_starts.Goals as goal

pub loop-start-preserved : goal.loop-start-preserved
loop-start-preserved c = address_more (pure_of c.args.known.now) c.args.rows.now c.loop-start.rows c.enforce.new.rows c.as_slice-start-items.result.now c.loop-start.start-index _ c.address-atom.result c.as_slice-start-items.ensures.value c.loop-start-test.true c.address-atom.ensures c.loop-start.invariant (c.enforce.ensures.yes c.if-not-enforce.false)

pub returns-clause-yes : goal.returns-clause-yes
returns-clause-yes c = λ _. addresses_all (pure_of c.args.known.now) c.args.rows.now c.loop-start.rows c.as_slice-start-items.result.now c.loop-start.start-index c.as_slice-start-items.ensures.value c.loop-start-test.false c.loop-start.invariant

pub enforce-requires-clause-base : goal.enforce-requires-clause-base
enforce-requires-clause-base c = address_base (pure_of c.args.known.now) c.as_slice-start-items.result.now c.loop-start.start-index _ c.address-atom.result c.as_slice-start-items.ensures.value c.loop-start-test.true c.address-atom.ensures
