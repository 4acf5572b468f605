use Rattle.std.proofs.Common.{sym, ◌∙◌}
use Rattle.mc_pure_ops.specs.Renaming.Images.{image}
use Rattle.mc_pure_ops.proofs.RenamedLemmas.Gathering.{first_skip, no_other, first_more, first_all, all_one_kind}
use Rattle.mc_pure_ops.proofs.renamed.have_one_kind.Goals as goal

pub loop-node-preserved-in_default : goal.loop-node-preserved-in_default
loop-node-preserved-in_default c = first_skip (image c.args.renaming.now) c.args.pure.now.kinds c.nodes-node-items.result.now c.loop-node.node-index _ c.loop-node.images c.loop-node-test.true (sym c.kind.ensures ∙ c.in_default.is) c.loop-node.invariant

pub returns-then-not-has_no_other-clause-no : goal.returns-then-not-has_no_other-clause-no
returns-then-not-has_no_other-clause-no c = λ e one.
    let f = image c.args.renaming.now in
    let has = sym c.kind.ensures ∙ c.in-Some.is in
    let alike = no_other f c.args.pure.now.kinds c.nodes-node-items.result.now c.loop-node.node-index _ c.loop-node-test.true c.in-Some.kind has one c.loop-node.images c.loop-node.invariant in
    c.has_no_other.ensures.no c.if-not-has_no_other.true (rw (← c.image-image.ensures) at alike)

pub loop-node-preserved : goal.loop-node-preserved
loop-node-preserved c =
    let f = image c.args.renaming.now in
    let has = sym c.kind.ensures ∙ c.in-Some.is in
    let alike = c.has_no_other.ensures.yes c.if-not-has_no_other.false in
    first_more f c.args.pure.now.kinds c.nodes-node-items.result.now c.loop-node.node-index _ c.loop-node-test.true c.in-Some.kind has c.loop-node.images c.put_node.new.renamed
    (rw c.image-image.ensures at alike) c.loop-node.invariant (rw c.image-image.ensures at c.in_ok-put_node.ensures)

pub returns-clause-yes : goal.returns-clause-yes
returns-clause-yes c = λ e. all_one_kind (image c.args.renaming.now) c.args.pure.now.kinds c.loop-node.images (first_all (image c.args.renaming.now) c.args.pure.now.kinds c.nodes-node-items.result.now c.loop-node.node-index c.loop-node.images c.nodes-node-items.ensures c.loop-node-test.false c.loop-node.invariant)
