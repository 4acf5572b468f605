-- Branches that one run follows exactly, with its answers of malloc.
use Rattle.std.specs.Prelude.{◌≡◌, ℕ, Option, Some, None, List, [], ◌∷◌, ◌++◌, length, slice_get}
use Rattle.mc_base.specs.declared.ids.NodeId.{NodeId}
use Rattle.mc_base.specs.declared.ids.PointId.{PointId}
use Rattle.mc_flow.specs.declared.graph.Flow.{Flow}
use Rattle.mc_state.specs.State.{State, unknown, next_node}
use Rattle.mc_rules_steps.specs.Next.{Next}
use Rattle.mc_rules_steps.specs.Steps.{S1Is, S2Is, S3Is, S5Is, S6Is, S7Is, S8Is, S9Is, S10Is, S11Is, S12Is, S13Is, S14Is, S18Is}

-- an instance of a rule of instructions by which a run goes on in one way, and is given nothing from outside
pub data IsSilent (flow : Flow) (p : PointId) (s : State) (next : List Next) : Type 0 where
  S1 : S1Is flow p s next → IsSilent flow p s next
  S2 : S2Is flow p s next → IsSilent flow p s next
  S3 : S3Is flow p s next → IsSilent flow p s next
  S5 : S5Is flow p s next → IsSilent flow p s next
  S6 : S6Is flow p s next → IsSilent flow p s next
  S7 : S7Is flow p s next → IsSilent flow p s next
  S8 : S8Is flow p s next → IsSilent flow p s next
  S9 : S9Is flow p s next → IsSilent flow p s next
  S11 : S11Is flow p s next → IsSilent flow p s next
  S12 : S12Is flow p s next → IsSilent flow p s next
  S13 : S13Is flow p s next → IsSilent flow p s next
  S14 : S14Is flow p s next → IsSilent flow p s next
  S18 : S18Is flow p s next → IsSilent flow p s next

-- what malloc answered, one after the other: null, or the start of a new block
abbrev pub Picks : Type 0
Picks = List (Option NodeId)

-- the entry's branch comes to this point and state by such rules and by allocations, at which malloc answered these
pub data IsExactBranch (flow : Flow) : PointId → State → Picks → Type 0 where
  entry : IsExactBranch flow (record { 0 = 0 }) (unknown (length flow.vars)) []
  silent : {p : PointId} {s : State} {picks : Picks} {ns : List Next} (n : Next) (place : ℕ)
      → IsExactBranch flow p s picks → IsSilent flow p s ns → slice_get ns place ≡ Some n
      → IsExactBranch flow n.point n.state picks
  failed : {p : PointId} {s : State} {picks : Picks} {ns : List Next} (n : Next)
      → IsExactBranch flow p s picks → S10Is flow p s ns → slice_get ns 0 ≡ Some n
      → IsExactBranch flow n.point n.state (picks ++ None ∷ [])
  made : {p : PointId} {s : State} {picks : Picks} {ns : List Next} (n : Next)
      → IsExactBranch flow p s picks → S10Is flow p s ns → slice_get ns 1 ≡ Some n
      → IsExactBranch flow n.point n.state (picks ++ Some (next_node s) ∷ [])
