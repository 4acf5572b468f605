use Rattle.std.proofs.Common.{sym, ◌∙◌}
use Rattle.std.proofs.lemmas.List.{at_drop_all}
use Rattle.std.specs.List.{list_all}
use Rattle.mc_apply_fold.proofs.FoldLemmas.Lists.{all_later, not_all}
use Rattle.mc_check_line.specs.Jump.Fitting.{has_kind_image}
use Rattle.mc_check_line.proofs.jump.images.have_kind_images.Goals as goal

pub loop-node-preserved : goal.loop-node-preserved
loop-node-preserved c = λ know t.
    c.loop-node.invariant know t
    ∙ all_later (has_kind_image know c.args.s.now.kinds c.args.images.now c.args.target.now.kinds) c.args.nodes.now c.loop-node.node-index _ c.loop-node-test.true (c.if-not-has_kind_image.ensures know t)

pub returns-then-not-has_kind_image : goal.returns-then-not-has_kind_image
returns-then-not-has_kind_image c = λ know t. sym (
    c.loop-node.invariant know t
    ∙ not_all (has_kind_image know c.args.s.now.kinds c.args.images.now c.args.target.now.kinds) c.args.nodes.now c.loop-node.node-index _ c.loop-node-test.true (c.if-not-has_kind_image.ensures know t)
    )

pub returns : goal.returns
returns c = λ know t. sym (
    c.loop-node.invariant know t
    ∙ at_drop_all (list_all (has_kind_image know c.args.s.now.kinds c.args.images.now c.args.target.now.kinds)) c.args.nodes.now c.loop-node.node-index c.loop-node-test.false
    )
