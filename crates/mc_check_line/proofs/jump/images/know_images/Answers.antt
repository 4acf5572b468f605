use Rattle.std.proofs.Common.{sym, ◌∙◌}
use Rattle.std.proofs.lemmas.List.{at_drop_all}
use Rattle.std.specs.List.{list_all}
use Rattle.mc_kernel.specs.Judges.{knows_image}
use Rattle.mc_apply_fold.proofs.FoldLemmas.Lists.{all_later, not_all}
use Rattle.mc_check_line.proofs.jump.images.know_images.Goals as goal

pub loop-atom-preserved : goal.loop-atom-preserved
loop-atom-preserved c = λ know t.
    c.loop-atom.invariant know t
    ∙ all_later (knows_image know c.args.images.now) c.args.atoms.now c.loop-atom.atom-index _ c.loop-atom-test.true (c.if-not-knows_image.ensures know t)

pub returns-then-not-knows_image : goal.returns-then-not-knows_image
returns-then-not-knows_image c = λ know t. sym (
    c.loop-atom.invariant know t
    ∙ not_all (knows_image know c.args.images.now) c.args.atoms.now c.loop-atom.atom-index _ c.loop-atom-test.true (c.if-not-knows_image.ensures know t)
    )

pub returns : goal.returns
returns c = λ know t. sym (
    c.loop-atom.invariant know t
    ∙ at_drop_all (list_all (knows_image know c.args.images.now)) c.args.atoms.now c.loop-atom.atom-index c.loop-atom-test.false
    )
