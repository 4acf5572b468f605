-- Places of states among the states of cuts.
use Rattle.std.specs.Prelude.{◌≡◌, ◌<◌, ◌≤◌, ℕ, List, Option, Some, None, insert, length, slice_get, slice_set}
use Rattle.mc_base.specs.declared.ids.PointId.{PointId}
use Rattle.mc_kernel.specs.Branches.{Head, states_at}
use Rattle.mc_state.specs.State.{State}
use Rattle.mc_joins.specs.Chains.Opened.{with_state_at, with_state_for}

-- a state more at a point comes to this place
pub record IsPlaceAt (heads : List Head) (p : PointId) (place : ℕ) : Type 0 where
  pub within : place ≤ length heads
  pub puts : (s : State) → with_state_at p s heads ≡ insert heads place (p, s)

-- the state with a number at a point has this place; or there is none
abbrev pub IsPlaceFor : List Head → PointId → ℕ → Option ℕ → Type 0
IsPlaceFor heads p j None = slice_get (states_at p heads) j ≡ None
IsPlaceFor heads p j (Some place) =
    (place < length heads) × ((s : State) → with_state_for p j s heads ≡ slice_set heads place (p, s))
