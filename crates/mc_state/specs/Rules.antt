-- What it means that a rule of logic is sound.
use Rattle.std.specs.Prelude.{◌≡◌, ◌⊎◌, ℕ, ℤ, List, ◌∷◌, Option, Some, None, map, slice_get}
use Rattle.mc_base.specs.declared.ids.NodeId.{NodeId}
use Rattle.mc_base.specs.Nodes.{Valuation, at_node, null}
use Rattle.mc_flow.specs.Heap.Heap.{Region, IsAtAddresses}
use Rattle.mc_flow.specs.declared.defs.rules.Def.{Def}
use Rattle.mc_flow.specs.Defs.Meaning.{HoldsSomewhere}
use Rattle.mc_state.specs.declared.goal.Goal.{Goal}
use Rattle.mc_state.specs.State.{State}
use Rattle.mc_state.specs.Facts.{AreEqual}
use Rattle.mc_state.specs.Fits.{AreNodes}
use Rattle.mc_state.specs.Stands.{StandsBy, AgreeBelow}

-- these variables' values and this region stand for one of the states, by a valuation that agrees on every number below one
abbrev pub StandsForSome : List Def → ℕ → Valuation → List (Option ℤ) → Region → List State → Type 0
StandsForSome defs n v values region states =
    (place : ℕ) × (t : State) × (w : Valuation) × (slice_get states place ≡ Some t) × AgreeBelow n v w × StandsBy defs w values region t

-- whatever stands for the state stands for one of its successors, by a valuation that agrees on every node that both have
abbrev pub IsSound : List Def → State → List State → Type 0
IsSound defs s next =
    (v : Valuation) (values : List (Option ℤ)) (region : Region)
    → IsAtAddresses region → StandsBy defs v values region s → StandsForSome defs s.next v values region next

-- an edge may be unfolded where its start is null or the node that is accessed
abbrev pub MayUnfold : State → Option NodeId → NodeId → Type 0
MayUnfold s None at = AreEqual s at null
MayUnfold s (Some accessed) at = AreEqual s at null ⊎ AreEqual s at accessed

-- the goal holds on some part of the memory
abbrev pub GoalHolds : List Def → Valuation → Region → Goal → Type 0
GoalHolds defs v region goal = HoldsSomewhere defs goal.pred (v goal.at.0) (map (at_node v) goal.args) region

-- the nodes of a side branch's goal are there
abbrev pub GoalIsThere : Option Goal → State → Type 0
GoalIsThere None s = Unit {0}
GoalIsThere (Some goal) s = AreNodes s.kinds (goal.at ∷ goal.args)
