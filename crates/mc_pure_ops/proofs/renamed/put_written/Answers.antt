use Rattle.std.proofs.Common.{ap}
use Rattle.mc_pure.specs.Pure.{Pure}
use Rattle.mc_pure_ops.specs.Renaming.Images.{image}
use Rattle.mc_pure_ops.proofs.RenamedLemmas.Gathering.{atom_moved, written_at, images_of}
use Rattle.mc_pure_ops.proofs.renamed.put_written.Goals as goal

pub assume-requires : goal.assume-requires
assume-requires c = rw c.atom_of.ensures (
    atom_moved (image c.args.renaming.now) c.args.pure.now.kinds c.loop-atom.renamed.kinds c.requires.null
    (images_of (image c.args.renaming.now) c.args.pure.now.kinds c.loop-atom.renamed.kinds c.args.renamed.now.kinds (ap (λ (z : Pure). z.kinds) c.loop-atom.invariant) c.requires.images)
    _ (written_at c.args.pure.now c.requires.fit c.written-atom-items.result.now c.loop-atom.atom-index _ c.written-atom-items.ensures c.loop-atom-test.true))
