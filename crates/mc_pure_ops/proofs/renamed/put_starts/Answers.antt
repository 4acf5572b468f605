use Rattle.std.proofs.Common.{ap}
use Rattle.mc_pure.specs.Pure.{Pure}
use Rattle.mc_pure_ops.specs.Renaming.Images.{image}
use Rattle.mc_pure_ops.proofs.RenamedLemmas.Gathering.{node_moved, start_at, images_of}
use Rattle.mc_pure_ops.proofs.renamed.put_starts.Goals as goal

pub block-requires : goal.block-requires
block-requires c = rw c.image.ensures (
    node_moved (image c.args.renaming.now) c.args.pure.now.kinds c.loop-at.renamed.kinds c.requires.null
    (images_of (image c.args.renaming.now) c.args.pure.now.kinds c.loop-at.renamed.kinds c.args.renamed.now.kinds (ap (λ (z : Pure). z.kinds) c.loop-at.invariant) c.requires.images)
    _ (start_at c.args.pure.now c.requires.fit c.starts-at-items.result.now c.loop-at.at-index _ c.starts-at-items.ensures c.loop-at-test.true))
