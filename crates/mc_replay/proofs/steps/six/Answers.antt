use Rattle.std.proofs.Common.{◌≡◌, ℕ, true, Some, sym, ap, subst, ◌∙◌}
use Rattle.std.specs.Prelude.{◌==◌, option_map, slice_get}
use Rattle.mc_base.specs.declared.ids.NodeId.{NodeId}
use Rattle.mc_state.specs.State.{State}
use Rattle.mc_joins.specs.Joinings.{Half, of_side}
use Rattle.mc_joins.specs.Parts.{Part}
use Rattle.mc_replay.specs.declared.folds.SegFold.{SegFold as KeptSeg}
use Rattle.mc_replay.specs.declared.folds.Part.{Part as KeptPart}
use Rattle.mc_replay.specs.declared.steps.SegStep.TheVariants.{Six}
use Rattle.mc_replay.specs.Folds.{seen_seg, seg_fold, standing_ends}
use Rattle.mc_replay.specs.Joined.{seen}
use Rattle.mc_replay.specs.Named.{TellsFrom}
use Rattle.mc_replay.specs.Steps.{seen_ending, closed_by, is_seg}
use Rattle.mc_replay.proofs.StepLemmas.{six_none, six_empty, six_some, seg_with, empty_made, tells_side, same_some}
use Rattle.mc_replay.proofs.steps.six.Goals as goal

pub returns-in_default-2-clause-joins : goal.returns-in_default-2-clause-joins
returns-in_default-2-clause-joins c = λ w same t.
    let j = seen c.args.join.now in
    let e = seen_ending c.args.ending in
    let there : slice_get j.pairs e.place ≡ Some c.in-Some.end = sym c.pair_at.ensures ∙ c.in-Some.is in
    let found : option_map seen_seg c.in_ok-fold.field-0 ≡ seg_fold w j e.side c.args.pair.now e.pred (of_side e.side c.in-Some.end)
    (standing_ends w j e.side e.pred (of_side e.side c.in-Some.end)) =
    c.in_ok-fold.ensures w same (tells_side w c.args.join.now c.args.ending.side t)
    ∙ ap (λ (n : NodeId). seg_fold w j e.side c.args.pair.now e.pred n (standing_ends w j e.side e.pred n)) c.of_side-stop.ensures in
    six_none w j e c.args.pair.now c.in-Some.end there (sym c.may_end.ensures ∙ c.if-not-may_end.false)
    (sym found ∙ ap (option_map seen_seg) c.in_default-2.is)

pub returns-then-is_empty-clause-joins : goal.returns-then-is_empty-clause-joins
returns-then-is_empty-clause-joins c = λ w same t.
    let j = seen c.args.join.now in
    let e = seen_ending c.args.ending in
    let there : slice_get j.pairs e.place ≡ Some c.in-Some.end = sym c.pair_at.ensures ∙ c.in-Some.is in
    let found : option_map seen_seg c.in_ok-fold.field-0 ≡ seg_fold w j e.side c.args.pair.now e.pred (of_side e.side c.in-Some.end)
    (standing_ends w j e.side e.pred (of_side e.side c.in-Some.end)) =
    c.in_ok-fold.ensures w same (tells_side w c.args.join.now c.args.ending.side t)
    ∙ ap (λ (n : NodeId). seg_fold w j e.side c.args.pair.now e.pred n (standing_ends w j e.side e.pred n)) c.of_side-stop.ensures in
    six_empty w j e c.args.pair.now c.in-Some.end there (sym c.may_end.ensures ∙ c.if-not-may_end.false) (seen_seg c.in-Some-2.fold)
    (sym found ∙ ap (option_map seen_seg) c.in-Some-2.is) (ap (λ (n : ℕ). n == 0) (sym c.in-Some-2.fold.used.ok.0) ∙ (sym c.is_empty.ensures
    ∙ c.if-is_empty.true))

pub returns-clause-joins : goal.returns-clause-joins
returns-clause-joins c = λ w same t.
    let j = seen c.args.join.now in
    let e = seen_ending c.args.ending in
    let there : slice_get j.pairs e.place ≡ Some c.in-Some.end = sym c.pair_at.ensures ∙ c.in-Some.is in
    let found : option_map seen_seg c.in_ok-fold.field-0 ≡ seg_fold w j e.side c.args.pair.now e.pred (of_side e.side c.in-Some.end)
    (standing_ends w j e.side e.pred (of_side e.side c.in-Some.end)) =
    c.in_ok-fold.ensures w same (tells_side w c.args.join.now c.args.ending.side t)
    ∙ ap (λ (n : NodeId). seg_fold w j e.side c.args.pair.now e.pred n (standing_ends w j e.side e.pred n)) c.of_side-stop.ensures in
    let other_tells = subst (λ (s : State). TellsFrom w s) (ap (λ (h : Half). h.state) (sym c.half.ensures.is))
    (tells_side w c.args.join.now c.across-other.result t) in
    six_some w j e c.args.pair.now c.in-Some.end there (sym c.may_end.ensures ∙ c.if-not-may_end.false) (seen_seg c.in-Some-2.fold)
    (sym found ∙ ap (option_map seen_seg) c.in-Some-2.is) (ap (λ (n : ℕ). n == 0) (sym c.in-Some-2.fold.used.ok.0) ∙ (sym c.is_empty.ensures
    ∙ c.if-is_empty.false))
    ∙ ap (λ (m : Part). option_map (closed_by Six e.side c.args.pair.now) (seg_with w j e c.args.pair.now m (seen_seg c.in-Some-2.fold)))
    (sym (empty_made w j e c.args.pair.now c.half.result.now c.across-other.result c.of_side.result c.in_ok-theirs.theirs c.across-other.ensures c.half.ensures.is c.of_side.ensures
    (c.in_ok-theirs.ensures w same other_tells)))

pub returns-clause-seg : goal.returns-clause-seg
returns-clause-seg c = λ w same t f is.
    let other_tells = subst (λ (s : State). TellsFrom w s) (ap (λ (h : Half). h.state) (sym c.half.ensures.is))
    (tells_side w c.args.join.now c.across-other.result t) in
    subst (λ (z : KeptSeg × KeptPart). is_seg z.1.edge ≡ true) (same_some is) (ap (λ (x : Part). is_seg x.edge) (c.in_ok-theirs.ensures w same other_tells))
