-- Points of the small flow graph that are unmet.
use Rattle.std.proofs.Common.{◌≡◌, false, true, refl, inl}
use Rattle.mc_flow.specs.Defs.Examples.{defs, cell_id}
use Rattle.mc_pure.specs.Examples.{node}
use Rattle.mc_state.specs.Laws.{NoneStandsForFalse}
use Rattle.mc_rules_steps.specs.declared.gap.Gap.TheVariants.{Uninit, NoBlock, Reached, UninitField, NotEmpty}
use Rattle.mc_rules_steps.specs.Operands.{HasBlock}
use Rattle.mc_rules_steps.specs.Unmet.{IsUnmet, LacksBlock}
use Rattle.mc_rules_steps.specs.Examples as ex
use Rattle.mc_rules_steps.proofs.ExampleSteps.{here, one_cell_sound, no_cell_sound, not_whole_sound}

-- where there are no edges there is no block
lacks : LacksBlock defs ex.no_cell (node 1) cell_id
lacks =
    record {
      block = λ (b : HasBlock ex.no_cell (node 1) cell_id). let clash = b.there in cc;
      start = λ place id e there s equal. cc;
      back = λ place id at stop args ends pred i other there is at_end equal. cc;
    }

module _ (law : NoneStandsForFalse) where
  pub uninit : IsUnmet ex.flow defs (ex.at 19) ex.one_cell (Uninit ex.z)
  uninit = record { consistent = one_cell_sound law; code = _; at = refl; lacks = inl (refl, refl) }

  pub no_block : IsUnmet ex.flow defs (ex.at 7) ex.no_cell (NoBlock (node 1))
  no_block = record { consistent = no_cell_sound law; code = _; at = refl; lacks = (((node 1, refl), tt), (refl, lacks)) }

  pub reached : IsUnmet ex.flow defs (ex.at 20) ex.one_cell Reached
  reached = record { consistent = one_cell_sound law; code = _; at = refl; lacks = (tt, tt) }

  pub uninit_field : IsUnmet ex.flow defs (ex.at 18) ex.one_cell (UninitField (node 1) 0)
  uninit_field = record { consistent = one_cell_sound law; code = _; at = refl; lacks = (((node 1, refl), tt), (refl, refl, (here, refl))) }

  pub not_empty : IsUnmet ex.flow defs (ex.at 16) ex.not_whole (NotEmpty false)
  not_empty = record { consistent = not_whole_sound law; code = _; at = refl; lacks = (tt, (refl, inl (λ (e : false ≡ true). cc))) }
