use Rattle.std.proofs.Common.{◌∙◌}
use Rattle.mc_document.specs.Places.{cuts_of}
use Rattle.mc_find.proofs.AcceptedLemmas.{all_told, moved, rest_told, some_missing}
use Rattle.mc_find.proofs.accepted.has_cuts.Goals as goal

pub returns-then-not-are_cuts : goal.returns-then-not-are_cuts
returns-then-not-are_cuts c =
    some_missing c.args.flow.now c.args.merge c.args.lines.now c.are_cuts.result c.if-not-are_cuts.true
    (moved _ (cuts_of c.args.lines.now) _ c.args.flow.now.heads _ (c.as_slice.ensures.value ∙ c.in_ok-cuts.ensures) c.as_slice-2.ensures c.are_cuts.ensures)

pub returns-then-merge : goal.returns-then-merge
returns-then-merge c =
    rest_told c.args.flow.now c.args.merge c.args.lines.now c.if-merge.true c.are_cuts.result c.are_cuts-then-merge.result c.if-not-are_cuts.false
    (moved _ (cuts_of c.args.lines.now) _ c.args.flow.now.heads _ (c.as_slice.ensures.value ∙ c.in_ok-cuts.ensures) c.as_slice-2.ensures c.are_cuts.ensures)
    (moved _ (cuts_of c.args.lines.now) _ c.args.flow.now.merges _ (c.as_slice-then-merge.ensures.value ∙ c.in_ok-cuts.ensures) c.as_slice-then-merge-2.ensures c.are_cuts-then-merge.ensures)

pub returns : goal.returns
returns c =
    all_told c.args.flow.now c.args.merge c.args.lines.now c.if-merge.false c.are_cuts.result c.if-not-are_cuts.false
    (moved _ (cuts_of c.args.lines.now) _ c.args.flow.now.heads _ (c.as_slice.ensures.value ∙ c.in_ok-cuts.ensures) c.as_slice-2.ensures c.are_cuts.ensures)
