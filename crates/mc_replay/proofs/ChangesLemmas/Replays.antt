-- What the answer of a replay says of prefixes and of whole joins.
use Rattle.std.proofs.Common.{◌≡◌, ◌≢◌, ℕ, List, [], ◌∷◌, ◌++◌, Bool, true, false, Option, Some, None, refl, ap, sym, ◌∙◌}
use Rattle.std.specs.Prelude.{◌&&◌, is_none, is_some, option_and_then, if◌then◌else◌}
use Rattle.std.specs.List.{list_all}
use Rattle.mc_state.specs.declared.line.JoinStep.{JoinStep}
use Rattle.mc_state.specs.State.{State}
use Rattle.mc_pure_ops.specs.Join.Joint.{Pairs}
use Rattle.mc_joins.specs.Joinings.{Joining, Pair, begun, next_pair}
use Rattle.mc_joins.specs.Parts.{Basis}
use Rattle.mc_joins.specs.Steps.{after_step, after_steps, all_steps, is_stuck}
use Rattle.mc_joins.specs.Chains.Judges.{whole_join, gets_stuck}
use Rattle.mc_replay.specs.Replayed.{IsOpen, IsWrong}

-- steps that lead to one that does not apply lead nowhere
past_none : (w : Basis) (j : Joining) (before : List JoinStep) (step : JoinStep) (after : List JoinStep) (mid : Joining) → after_steps w j before ≡ Some mid → after_step w mid step ≡ None
    → after_steps w j (before ++ step ∷ after) ≡ None
past_none w j [] step after mid reached refused =
    let same : j ≡ mid = cc reached in
    ap (option_and_then (λ next. after_steps w next after)) (ap (λ (z : Joining). after_step w z step) same ∙ refused)
past_none w j (s ∷ before) step after mid reached refused = at (λ next r. past_none w next before step after mid r refused) (after_step w j s) reached
  where
    at : ((next : Joining) → after_steps w next before ≡ Some mid → after_steps w next (before ++ step ∷ after) ≡ None) → (o : Option Joining)
        → option_and_then (λ next. after_steps w next before) o ≡ Some mid → option_and_then (λ next. after_steps w next (before ++ step ∷ after)) o ≡ None
    at rest None reached = refl
    at rest (Some next) reached = rest next reached

module _ (w : Basis) (left right : State) (steps : List JoinStep) where
  abbrev to_stuck : Joining → Option Joining
  to_stuck last = if is_stuck w last then Some last else None

  abbrev to_end : Joining → Option Joining
  to_end last = if is_none (next_pair last) then Some last else None

  pub wrong_none : (number : ℕ) → IsWrong w left right steps number → after_steps w (begun left right) steps ≡ None
  wrong_none number r = ap (after_steps w (begun left right)) r.steps_are ∙ past_none w (begun left right) r.before r.step r.after r.last r.reached r.refused

  -- ---- prefixes after which no step applies

  stuck_by : (last : Joining) → after_steps w (begun left right) steps ≡ Some last → (b : Bool) → is_stuck w last ≡ b → gets_stuck w right left steps ≡ b
  stuck_by last reached b e = ap (λ (o : Option Joining). is_some (option_and_then to_stuck o)) reached ∙ (ap (λ (c : Bool). is_some (if c then Some last else None)) e ∙ kept b)
    where
      kept : (b : Bool) → is_some (if b then Some last else None) ≡ b
      kept true = refl
      kept false = refl

  pub stuck_open : (pairs : Pairs) (stuck : Bool) → IsOpen w left right steps pairs stuck → stuck ≡ gets_stuck w right left steps
  stuck_open pairs stuck r = sym (stuck_by r.last r.reached stuck (sym r.stuck_is))

  pub stuck_done : (last : Joining) → after_steps w (begun left right) steps ≡ Some last → next_pair last ≡ None → false ≡ gets_stuck w right left steps
  stuck_done last reached done = sym (stuck_by last reached false (ap (λ (o : Option Pair). is_some o && list_all (λ step. is_none (after_step w last step)) (all_steps w last)) done))

  pub stuck_none : after_steps w (begun left right) steps ≡ None → false ≡ gets_stuck w right left steps
  stuck_none none = sym (ap (λ (o : Option Joining). is_some (option_and_then to_stuck o)) none)

  -- ---- whole joins

  pub whole_open : (last : Joining) → after_steps w (begun left right) steps ≡ Some last → next_pair last ≢ None → whole_join w left right steps ≡ None
  whole_open last reached more = ap (option_and_then to_end) reached ∙ at (next_pair last) more
    where
      at : (o : Option Pair) → o ≢ None → (if is_none o then Some last else None) ≡ None
      at None some = absurd (some refl)
      at (Some p) some = refl

  pub whole_none : after_steps w (begun left right) steps ≡ None → whole_join w left right steps ≡ None
  whole_none none = ap (option_and_then to_end) none

  pub whole_done : (last : Joining) → after_steps w (begun left right) steps ≡ Some last → next_pair last ≡ None → whole_join w left right steps ≡ Some last
  whole_done last reached done =
      ap (option_and_then to_end) reached ∙ ap (λ (o : Option Pair). if is_none o then Some last else None) done
