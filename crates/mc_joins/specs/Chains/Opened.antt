-- The lines that change the states of cuts.
use Rattle.std.specs.Prelude.{◌≡◌, ◌==◌, ℕ, zero, suc, nat_lt, false, List, [], ◌∷◌, Some, length, slice_get, if◌then◌else◌, ℤ}
use Rattle.std.specs.List.{AllByRecursion, AllZip}
use Rattle.mc_base.specs.declared.ids.PointId.{PointId}
use Rattle.mc_state.specs.declared.line.JoinStep.{JoinStep}
use Rattle.mc_state.specs.Facts.{IsFalse, IsTidy}
use Rattle.mc_state.specs.State.{State}
use Rattle.mc_joins.specs.Same.Same.{AreSameUnder, anew}
use Rattle.mc_kernel.specs.Branches.{Head, Path, Setting, MayCut, IsChain, states_at}
use Rattle.mc_joins.specs.Parts.{Basis}
use Rattle.mc_joins.specs.Whole.{Joins, GetsStuck}

-- ---- lists of states

-- a state more at a point, after all that are at points up to it; the states of cuts stand in the order of their
-- points
abbrev pub with_state_at : PointId → State → List Head → List Head
with_state_at p s [] = (p, s) ∷ []
with_state_at p s (h ∷ heads) = if nat_lt p.0 h.0.0 then (p, s) ∷ h ∷ heads else h ∷ with_state_at p s heads

-- a state in place of the one with a number among those at a point
abbrev pub with_state_for : PointId → ℕ → State → List Head → List Head
with_state_for p j s [] = []
with_state_for p zero s (h ∷ heads) = if h.0.0 == p.0 then (p, s) ∷ heads else h ∷ with_state_for p zero s heads
with_state_for p (suc j) s (h ∷ heads) = if h.0.0 == p.0 then h ∷ with_state_for p j s heads else h ∷ with_state_for p (suc j) s heads

-- ---- places

-- a line that changes the states of a cut: in a chain where a jump may stand, but not on a closing branch
pub record MayChange (g : Setting) (b : Path) : Type 0 where
  pub chain : IsChain g
  pub cut : MayCut g b
  pub open_still : b.closing ≡ false

-- the states of the branch's cut, and its own, are tidy
pub record AreTidy (lefts : List State) (b : Path) : Type 0 where
  pub own : IsTidy b.state
  pub others : AllByRecursion IsTidy lefts

-- ---- lines

-- C2: the branch ends, and its state, numbered anew, is a state more of the cut; these are the states of cuts then
pub record OpensState (w : Basis) (g : Setting) (tries : List (List JoinStep)) (b : Path) (next : List Path)
    (heads : List Head) : Type 0 where
  -- 1
  pub may : MayChange g b
  -- 2
  pub consistent : IsFalse b.state → ⊥
  -- 3: a list of steps for each state of the cut
  pub count : length tries ≡ length (states_at b.point g.heads)
  -- 4: this state and those of the cut are tidy
  pub tidy : AreTidy (states_at b.point g.heads) b
  -- 5: each list is a legal prefix of a join of its state with this one, after which no step applies at the next pair
  pub stuck : AllZip (λ left steps. GetsStuck w left b.state steps) (states_at b.point g.heads) tries
  pub ends : next ≡ []
  pub gives : heads ≡ with_state_at b.point (anew b.state) g.heads

-- C3: the branch ends, and what a whole join of a state of the cut with its state gives takes that state's place
pub record JoinsState (w : Basis) (round : ℕ) (thresholds : List ℤ) (g : Setting) (j : ℕ) (steps : List JoinStep)
    (b : Path) (next : List Path)
    (heads : List Head) : Type 0 where
  -- 1
  pub may : MayChange g b
  -- 2
  pub consistent : IsFalse b.state → ⊥
  -- 3: the cut has this state
  pub left : State
  pub there : slice_get (states_at b.point g.heads) j ≡ Some left
  -- 4: both are tidy
  pub tidy : AreTidy (left ∷ []) b
  -- 5: the steps are a whole join
  pub result : State
  pub joins : Joins w round thresholds left b.state steps result
  -- 6: what it gives is not the same as that state under any renaming
  pub changes : (f back : ℕ → ℕ) → AreSameUnder f back result left → ⊥
  pub ends : next ≡ []
  pub gives : heads ≡ with_state_for b.point j result g.heads
