use Rattle.std.proofs.Common.{◌≡◌, ◌∙◌, Option, Some, ap, ap₂, List}
use Rattle.mc_state.specs.Terms.{plain}
use Rattle.mc_state.specs.declared.terms.Term.{Term}
use Rattle.mc_cover.specs.Goals.{Stop}
use Rattle.mc_joins.specs.Parts.{guessed}
use Rattle.mc_replay.specs.Joined.{seen_half}
use Rattle.mc_replay.proofs.FoldLemmas.{if_ok, same_guess}
use Rattle.mc_replay.proofs.folds.guessed_to.Goals as goal

pub returns : goal.returns
returns c =
    let h = c.args.half.now in
    let stop : ◌≡◌ {A = Option Stop} (Some (c.plain.result, c.of.result)) (Some (plain c.args.end, c.args.ends.now)) =
    ap₂ (λ (n : Term) (ts : List Term). Some (n, ts)) c.plain.ensures (c.of.ensures ∙ c.in_ok-from_slice.ensures.items) in
    if_ok c.guess.result
    (λ terms is w same t.
    is (w.know h.state) (t.knows h.state t.made)
    ∙ (same_guess w h c.args.pred c.args.at (Some (c.plain.result, c.of.result)) c.args.defs.now c.plain-2.result c.as_slice.result.now
    same c.plain-2.ensures c.as_slice.ensures.value
    ∙ ap (λ (z : Option Stop). guessed w (seen_half h) c.args.pred c.args.at z) stop))
    c.guess.ensures
