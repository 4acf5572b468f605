use Rattle.std.proofs.Common.{◌∙◌, ap, ap₂, List}
use Rattle.mc_pure_ops.specs.Join.Joint.{Pairs}
use Rattle.mc_state.specs.declared.line.Side.{Side}
use Rattle.mc_state.specs.declared.terms.Term.{Term}
use Rattle.mc_joins.specs.Joinings.{across}
use Rattle.mc_joins.specs.Parts.{with_partners}
use Rattle.mc_replay.specs.Folds.{seg_fold}
use Rattle.mc_replay.specs.Joined.{seen}
use Rattle.mc_replay.proofs.FoldLemmas.{if_ok}
use Rattle.mc_replay.proofs.folds.seg_for.Goals as goal

pub returns : goal.returns
returns c =
    let j = seen c.args.join.now in
    let others = c.args.others.now in
    if_ok c.seg_fold.result
    (λ fold is w same t.
    is w same t
    ∙ ap (λ (z : List Term). seg_fold w j c.args.side c.args.pair.now c.args.pred c.args.end z)
    (c.in_ok-ends.ensures
    ∙ (ap₂ (λ (ps : Pairs) (x : Side). with_partners ps x others c.as_slice-2.result.now) c.as_slice.ensures.value c.across.ensures
    ∙ ap (λ (ts : List Term). with_partners j.pairs (across c.args.side) others ts) (c.as_slice-2.ensures.value ∙ c.in_ok-found.ensures w same t))))
    c.seg_fold.ensures
