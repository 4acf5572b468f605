use Rattle.std.proofs.Common.{sym, ap, subst, ◌∙◌}
use Rattle.std.specs.Prelude.{is_some}
use Rattle.mc_state.specs.State.{State}
use Rattle.mc_joins.specs.Joinings.{Half}
use Rattle.mc_replay.specs.Joined.{seen}
use Rattle.mc_replay.specs.Named.{TellsFrom, nodes_of_both}
use Rattle.mc_replay.specs.Steps.{seen_ending}
use Rattle.mc_replay.proofs.FoldLemmas.{if_ok}
use Rattle.mc_replay.proofs.StepLemmas.{tells_side, seg_has}
use Rattle.mc_replay.proofs.steps.has_seg.Goals as goal

pub returns-in-Some : goal.returns-in-Some
returns-in-Some c =
    if_ok c.seg_has_nodes.result (λ has h w same t.
    let j = seen c.args.join.now in
    let e = seen_ending c.args.ending in
    let state = ap (λ (x : Half). x.state) c.half.ensures.is in
    h w same (subst (λ (s : State). TellsFrom w s) (sym state) (tells_side w c.args.join.now c.args.ending.side t))
    ∙ (ap (λ (s : State). is_some (nodes_of_both w e.pred s c.in-Some.found.0.args.items c.in-Some.found.0.ends.items)) state
    ∙ sym (seg_has c.args.step w j e c.args.pair.now c.in_ok-found.field-0 c.in-Some.found c.in-Some.is (c.in_ok-found.ensures.seg w same t)
    (c.in_ok-found.ensures.joins w same t))))
    c.seg_has_nodes.ensures
