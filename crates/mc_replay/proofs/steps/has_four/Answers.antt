use Rattle.std.proofs.Common.{sym, ap, subst, ◌∙◌}
use Rattle.std.specs.Prelude.{is_some}
use Rattle.mc_state.specs.declared.line.Side.{Side}
use Rattle.mc_state.specs.State.{State}
use Rattle.mc_joins.specs.Joinings.{Half, across, half}
use Rattle.mc_joins.specs.Parts.{nodes_of_args}
use Rattle.mc_replay.specs.Joined.{seen}
use Rattle.mc_replay.specs.Named.{TellsFrom}
use Rattle.mc_replay.proofs.FoldLemmas.{if_ok}
use Rattle.mc_replay.proofs.StepLemmas.{tells_side, four_has}
use Rattle.mc_replay.proofs.steps.has_four.Goals as goal

pub returns-in-Some : goal.returns-in-Some
returns-in-Some c =
    if_ok c.ind_has_nodes.result (λ has h w same t.
    let j = seen c.args.join.now in
    let f = c.in-Some.found in
    let state = ap (λ (x : Half). x.state) c.half.ensures.is ∙ ap (λ (s : Side). (half j s).state) c.across.ensures in
    h w same (subst (λ (s : State). TellsFrom w s) (sym state) (tells_side w c.args.join.now (across f.side) t))
    ∙ (ap (λ (s : State). is_some (nodes_of_args w c.args.pred s f.fold.args.items)) state
    ∙ sym (four_has w j c.args.pair.now c.args.pred c.in_ok-found.field-0 f c.in-Some.is c.in_ok-found.ensures.ind (c.in_ok-found.ensures.joins w same t))))
    c.ind_has_nodes.ensures
