use Rattle.std.proofs.Common.{sym, ◌∙◌}
use Rattle.mc_pure_ops.specs.Renaming.Images.{image}
use Rattle.mc_pure_ops.proofs.RenamedLemmas.Gathering.{first_skip, no_other, first_more, first_all}
use Rattle.mc_pure_ops.proofs.renamed.images.Goals as goal

pub loop-node-preserved-in_default : goal.loop-node-preserved-in_default
loop-node-preserved-in_default c = first_skip (image c.args.renaming.now) c.args.pure.now.kinds c.nodes-node-items.result.now c.loop-node.node-index _ c.loop-node.renamed c.loop-node-test.true (sym c.kind.ensures ∙ c.in_default.is) c.loop-node.invariant

pub loop-node-preserved : goal.loop-node-preserved
loop-node-preserved c =
    let f = image c.args.renaming.now in
    let kinds = c.args.pure.now.kinds in
    let ns = c.nodes-node-items.result.now in
    let has = sym c.kind.ensures ∙ c.in-Some.is in
    first_more f kinds ns c.loop-node.node-index _ c.loop-node-test.true c.in-Some.kind has c.loop-node.renamed c.put_node.new.renamed
    (no_other f kinds ns c.loop-node.node-index _ c.loop-node-test.true c.in-Some.kind has c.requires c.loop-node.renamed c.loop-node.invariant) c.loop-node.invariant (rw c.image.ensures at c.in_ok-put_node.ensures)

pub returns : goal.returns
returns c = first_all (image c.args.renaming.now) c.args.pure.now.kinds c.nodes-node-items.result.now c.loop-node.node-index c.loop-node.renamed c.nodes-node-items.ensures c.loop-node-test.false c.loop-node.invariant
