use Rattle.std.proofs.Common.{◌∙◌, List, ◌∷◌, ap, subst}
use Rattle.std.specs.Prelude.{Some}
use Rattle.mc_flow.specs.declared.graph.Flow.{Flow}
use Rattle.mc_check_line.specs.Judging.{path}
use Rattle.mc_kernel.specs.Branches.{Head}
use Rattle.mc_replay.specs.Changes.{states_held}
use Rattle.mc_judge.specs.Passes.Places.{IsPlaceFor}
use Rattle.mc_judge.proofs.PassesLemmas.Put.{made_for, rejoined_as, rejoined_made, rejoined_put, rejoined_unmet}
use Rattle.mc_judge.proofs.passes.passes.Passes.rejoined_at.Goals as goal

pub rejoined-requires-clause-made : goal.rejoined-requires-clause-made
rejoined-requires-clause-made c =
    made_for c.args.self.now (c.args.branch.now.state ∷ states_held c.args.lefts.now) c.defs.result.now c.defs.ensures c.requires.made

pub returns-in-Ok-clause-put : goal.returns-in-Ok-clause-put
returns-in-Ok-clause-put c =
    let p = c.args.self.now in
    let b = path c.args.branch.now in
    let place = subst (λ (hs : List Head). IsPlaceFor hs b.point c.args.number (Some c.in-Some.place)) c.heads.ensures c.in-Some.ensures in
    rejoined_put p b (states_held c.args.lefts.now) c.requires c.changes_are_parted.ensures.joining c.args.number c.args.steps.now
    c.as_slice-2.result.now c.in-Some.place c.in-Ok.state (c.as_slice-2.ensures ∙ ap (λ (f : Flow). f.thresholds) c.flow.ensures)
    (rejoined_as p.round c.args.number c.as_slice-2.result.now (states_held c.args.lefts.now) c.args.branch.now.state _ _ _ _ _ _
    c.defs.ensures c.as_slice.ensures c.in-Ok.is c.in_ok-state.ensures)
    place.1

pub returns-in-Ok-clause-made : goal.returns-in-Ok-clause-made
returns-in-Ok-clause-made c =
    let p = c.args.self.now in
    rejoined_made p (path c.args.branch.now) (states_held c.args.lefts.now) c.requires c.args.number c.args.steps.now c.as_slice-2.result.now
    c.lores_are_there.ensures c.joins_make_well.ensures c.is_held.ensures.valid c.in-Ok.state
    (c.as_slice-2.ensures ∙ ap (λ (f : Flow). f.thresholds) c.flow.ensures)
    (rejoined_as p.round c.args.number c.as_slice-2.result.now (states_held c.args.lefts.now) c.args.branch.now.state _ _ _ _ _ _
    c.defs.ensures c.as_slice.ensures c.in-Ok.is c.in_ok-state.ensures)

pub returns-in-Err-clause-put : goal.returns-in-Err-clause-put
returns-in-Err-clause-put c =
    let p = c.args.self.now in
    rejoined_unmet p (path c.args.branch.now) (states_held c.args.lefts.now) c.requires c.changes_are_parted.ensures.joining c.args.number
    c.args.steps.now c.as_slice-2.result.now c.in-Err.unmet (c.as_slice-2.ensures ∙ ap (λ (f : Flow). f.thresholds) c.flow.ensures)
    (rejoined_as p.round c.args.number c.as_slice-2.result.now (states_held c.args.lefts.now) c.args.branch.now.state _ _ _ _ _ _
    c.defs.ensures c.as_slice.ensures c.in-Err.is c.in_ok-state.ensures)
