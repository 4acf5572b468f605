use Rattle.std.proofs.Common.{◌≡◌}
use Rattle.mc_pure_ops.specs.Canon.Gaps.{AtomGives}
use Rattle.mc_pure_ops.proofs.CanonLemmas.Lists.{below_none, upto_more, some_added}
use Rattle.mc_pure_ops.proofs.CanonLemmas.Taken.{known_at, written_all}
use Rattle.mc_pure_ops.proofs.canon.gaps.put_written.Goals as goal

pub atom_gives-requires-clause-known : goal.atom_gives-requires-clause-known
atom_gives-requires-clause-known c = known_at c.args.pure.now c.requires.form c.written-atom-items.result.now c.loop-atom.atom-index _ c.written-atom-items.ensures c.loop-atom-test.true

pub loop-atom-init : goal.loop-atom-init
loop-atom-init c = below_none _ _

pub loop-atom-preserved : goal.loop-atom-preserved
loop-atom-preserved c = upto_more (AtomGives c.args.pure.now c.args.left.now.lost c.args.starts.now c.args.inside) c.written-atom-items.result.now c.loop-atom.atom-index _ _ _ _ c.loop-atom-test.true c.loop-atom.invariant (some_added _ c.atom_gives.result _ _ c.atom_gives.ensures c.in_ok-put_some.ensures)

pub returns : goal.returns
returns c = written_all c.args.pure.now c.args.left.now.lost c.args.starts.now c.args.inside c.written-atom-items.result.now c.written-atom-items.ensures c.loop-atom.atom-index _ _ c.loop-atom-test.false c.loop-atom.invariant
