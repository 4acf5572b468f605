use Rattle.std.proofs.Common.{subst}
use Rattle.std.proofs.Common.{List, ◌∷◌}
use Rattle.mc_check_line.specs.Judging.{path}
use Rattle.mc_kernel.specs.Branches.{Head}
use Rattle.mc_replay.specs.Changes.{states_held}
use Rattle.mc_judge.specs.Passes.Places.{IsPlaceAt}
use Rattle.mc_judge.proofs.PassesLemmas.Put.{made_for, opened_as, opened_made, opened_put, opened_unmet}
use Rattle.mc_judge.proofs.passes.passes.Passes.opened_at.Goals as goal

pub opened-requires : goal.opened-requires
opened-requires c = made_for c.args.self.now (c.args.branch.now.state ∷ states_held c.args.lefts.now) c.defs.result.now c.defs.ensures c.requires.made

pub returns-in-Ok-clause-put : goal.returns-in-Ok-clause-put
returns-in-Ok-clause-put c =
    let b = path c.args.branch.now in
    opened_put c.args.self.now b (states_held c.args.lefts.now) c.requires c.changes_are_parted.ensures.opening c.args.tries.now
    c.place_at.result c.in-Ok.state
    (opened_as (states_held c.args.lefts.now) c.args.branch.now.state _ _ _ _ _ _ c.defs.ensures c.as_slice.ensures c.in-Ok.is c.in_ok-state.ensures)
    (subst (λ (hs : List Head). IsPlaceAt hs b.point c.place_at.result) c.heads.ensures c.place_at.ensures)

pub returns-in-Ok-clause-made : goal.returns-in-Ok-clause-made
returns-in-Ok-clause-made c =
    opened_made c.args.self.now (path c.args.branch.now) (states_held c.args.lefts.now) c.requires c.args.tries.now c.lores_are_there.ensures
    c.numbering_makes_well.ensures c.is_held.ensures.valid c.in-Ok.state
    (opened_as (states_held c.args.lefts.now) c.args.branch.now.state _ _ _ _ _ _ c.defs.ensures c.as_slice.ensures c.in-Ok.is c.in_ok-state.ensures)

pub returns-in-Err-clause-put : goal.returns-in-Err-clause-put
returns-in-Err-clause-put c =
    opened_unmet c.args.self.now (path c.args.branch.now) (states_held c.args.lefts.now) c.requires c.changes_are_parted.ensures.opening
    c.args.tries.now c.in-Err.premise
    (opened_as (states_held c.args.lefts.now) c.args.branch.now.state _ _ _ _ _ _ c.defs.ensures c.as_slice.ensures c.in-Err.is c.in_ok-state.ensures)
