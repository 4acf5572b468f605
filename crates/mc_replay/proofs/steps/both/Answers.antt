use Rattle.std.proofs.Common.{Option, Bor, sym, ap, ap₂, ◌∙◌}
use Rattle.std.specs.Option.{option_copied}
use Rattle.mc_base.specs.declared.ids.EdgeId.{EdgeId}
use Rattle.mc_state.specs.declared.graph.edge.Edge.{Edge}
use Rattle.mc_joins.specs.Parts.{Part}
use Rattle.mc_joins.specs.Steps.{joined}
use Rattle.mc_replay.specs.Forms.{is_form}
use Rattle.mc_replay.specs.Joined.{seen}
use Rattle.mc_replay.proofs.StepLemmas.{both_at}
use Rattle.mc_replay.proofs.steps.both.Goals as goal

pub returns : goal.returns
returns c =
    let j = seen c.args.join.now in
    both_at (is_form c.args.form) j c.args.pair.now c.in-Some.left.now c.in-Some-edge_at.right.now
    (sym c.edge_at.ensures ∙ ap (λ (o : Option (Bor (EdgeId × Edge))). option_copied o) c.in-Some.is)
    (sym c.edge_at-2.ensures ∙ ap (λ (o : Option (Bor (EdgeId × Edge))). option_copied o) c.in-Some-edge_at.is)
    (sym c.is_form.ensures ∙ c.if-not-is_form.false)
    ∙ ap₂ (λ (l r : Part). joined j l r) (sym (c.in_ok-mine.ensures j.left)) (sym (c.in_ok-theirs.ensures j.right))
