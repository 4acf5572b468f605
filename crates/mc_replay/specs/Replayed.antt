-- How far steps lead.
use Rattle.std.specs.Prelude.{◌≡◌, ◌≢◌, ◌++◌, ℕ, suc, ℤ, Bool, List, ◌∷◌, Some, None, length}
use Rattle.mc_pure_ops.specs.Join.Joint.{Pairs}
use Rattle.mc_state.specs.declared.line.JoinStep.{JoinStep}
use Rattle.mc_state.specs.State.{State}
use Rattle.mc_joins.specs.Joinings.{Joining, begun, next_pair}
use Rattle.mc_joins.specs.Parts.{Basis}
use Rattle.mc_joins.specs.Steps.{after_step, after_steps, is_stuck}
use Rattle.mc_joins.specs.Whole.{AreJointAtoms, Joins, result_of}
use Rattle.mc_replay.specs.declared.answers.Replayed.{Replayed}
use Rattle.mc_replay.specs.declared.answers.Replayed.TheVariants.{Done, Open, Wrong}

-- all of the steps apply, and lead to a join with these pairs that has a next pair; stuck or not
pub record IsOpen (w : Basis) (left right : State) (steps : List JoinStep) (pairs : Pairs) (stuck : Bool) : Type 0 where
  pub last : Joining
  pub reached : after_steps w (begun left right) steps ≡ Some last
  pub more : next_pair last ≢ None
  pub pairs_are : pairs ≡ last.pairs
  pub stuck_is : stuck ≡ is_stuck w last

-- the step with this number, counted from 1, is the first that does not apply
pub record IsWrong (w : Basis) (left right : State) (steps : List JoinStep) (number : ℕ) : Type 0 where
  pub before : List JoinStep
  pub step : JoinStep
  pub after : List JoinStep
  pub steps_are : steps ≡ before ++ (step ∷ after)
  pub number_is : number ≡ suc (length before)
  pub last : Joining
  pub reached : after_steps w (begun left right) before ≡ Some last
  pub refused : after_step w last step ≡ None

-- how far the steps lead
abbrev pub IsReplay : Basis → ℕ → List ℤ → State → State → List JoinStep → Replayed → Type 0
IsReplay w round thresholds left right steps (Done t) = Joins w round thresholds left right steps t
IsReplay w round thresholds left right steps (Open pairs stuck) = IsOpen w left right steps pairs.items stuck
IsReplay w round thresholds left right steps (Wrong number) = IsWrong w left right steps number

-- what is answered where the steps lead to this join
abbrev pub IsAnswer : Basis → ℕ → List ℤ → State → State → Joining → Replayed → Type 0
IsAnswer w round thresholds left right last (Done t) =
    (next_pair last ≡ None) × (t ≡ result_of left right last t.atoms) × AreJointAtoms round thresholds last t
IsAnswer w round thresholds left right last (Open pairs stuck) =
    (next_pair last ≢ None) × (pairs.items ≡ last.pairs) × (stuck ≡ is_stuck w last)
IsAnswer w round thresholds left right last (Wrong number) = ⊥
