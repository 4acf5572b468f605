use Rattle.mc_pure.specs.Known.{pure_of}
use Rattle.mc_pure.proofs.Looping.{apart_base, written_more, written_all}
use Rattle.mc_pure.proofs.close.recheck_written.Goals as goal

pub recheck-requires-clause-base : goal.recheck-requires-clause-base
recheck-requires-clause-base c = apart_base (pure_of c.args.known.now) c.apart-atom-items.result.now c.loop-atom.atom-index _ c.apart-atom-items.ensures c.loop-atom-test.true

pub loop-atom-preserved : goal.loop-atom-preserved
loop-atom-preserved c = written_more (pure_of c.args.known.now) c.args.rows.now c.loop-atom.rows c.recheck.new.rows c.apart-atom-items.result.now c.loop-atom.atom-index _ c.apart-atom-items.ensures c.loop-atom-test.true c.loop-atom.invariant c.in-Same.ensures

pub returns : goal.returns
returns c = written_all (pure_of c.args.known.now) c.args.rows.now c.loop-atom.rows c.apart-atom-items.result.now c.loop-atom.atom-index c.apart-atom-items.ensures c.loop-atom-test.false c.loop-atom.invariant
