use Rattle.std.proofs.Common.{◌≡◌, true, List, Option, Some, Bor, sym, ap, subst, ◌∙◌}
use Rattle.std.specs.Prelude.{is_some, option_map}
use Rattle.std.specs.Option.{option_copied}
use Rattle.mc_base.specs.declared.ids.EdgeId.{EdgeId}
use Rattle.mc_base.specs.declared.ids.NodeId.{NodeId}
use Rattle.mc_state.specs.declared.graph.edge.Edge.{Edge}
use Rattle.mc_state.specs.Named.{ind_of}
use Rattle.mc_state.specs.declared.line.Side.{Side}
use Rattle.mc_joins.specs.Joinings.{across, half}
use Rattle.mc_joins.specs.Parts.{Part}
use Rattle.mc_joins.specs.Steps.{edge_there, is_ind}
use Rattle.mc_replay.specs.declared.steps.OtherFold.{OtherFold}
use Rattle.mc_replay.specs.Folds.{seen_ind}
use Rattle.mc_replay.specs.Joined.{seen}
use Rattle.mc_replay.proofs.StepLemmas.{four_at, tells_side, ind_with, same_some, gives_ind}
use Rattle.mc_replay.proofs.steps.four.Goals as goal

pub returns-clause-joins : goal.returns-clause-joins
returns-clause-joins c = λ w same t.
    let j = seen c.args.join.now in
    four_at w j c.args.pair.now c.args.pred c.args.side c.in-Some.entry.now
    (sym c.edge_at.ensures ∙ ap (λ (o : Option (Bor (EdgeId × Edge))). option_copied o) c.in-Some.is) c.in-Some-ind_args.args.now
    (sym c.ind_args.ensures ∙ ap (λ (o : Option (Bor (List NodeId))). option_copied o) c.in-Some-ind_args.is)
    (sym (c.has_ind.ensures ∙ ap (λ (s : Side). is_some (ind_of c.args.pred (edge_there j s c.args.pair.now))) c.across.ensures) ∙ c.if-has_ind.false)
    (Some (seen_ind c.in-Some-2.fold))
    (λ i a. sym (ap (option_map seen_ind) c.in-Some-2.is) ∙ c.in_ok-fold.ensures w i same (tells_side w c.args.join.now (across c.args.side) t) a)
    ∙ ap (λ (m : Part). ind_with w j c.args.pair.now c.args.pred c.args.side m (seen_ind c.in-Some-2.fold)) (sym (c.in_ok-mine.ensures (half j c.args.side)))

pub returns-clause-ind : goal.returns-clause-ind
returns-clause-ind c = λ f is.
    subst (λ (z : OtherFold). is_ind z.mine.edge ≡ true) (same_some is)
    (ap (λ (x : Part). is_ind x.edge) (c.in_ok-mine.ensures (half (seen c.args.join.now) c.args.side))
    ∙ gives_ind c.args.pred c.in-Some.entry.now.1 c.in-Some-ind_args.args.now
    (sym c.ind_args.ensures ∙ ap (λ (o : Option (Bor (List NodeId))). option_copied o) c.in-Some-ind_args.is))
