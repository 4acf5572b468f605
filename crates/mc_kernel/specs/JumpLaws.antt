-- What holds of jumps.
use Rattle.std.specs.Prelude.{List, Option, ℤ}
use Rattle.mc_base.specs.declared.ids.EdgeId.{EdgeId}
use Rattle.mc_base.specs.declared.ids.NodeId.{NodeId}
use Rattle.mc_base.specs.Nodes.{Valuation}
use Rattle.mc_flow.specs.Heap.Heap.{Region, IsAtAddresses}
use Rattle.mc_flow.specs.declared.defs.rules.Def.{Def}
use Rattle.mc_state.specs.State.{State}
use Rattle.mc_state.specs.Stands.{StandsBy}
use Rattle.mc_kernel.specs.Jumps.{Jumps, image_of}

-- what stands for a state stands for one that it jumps to by a rule, where each node has the value of its image
abbrev pub IsLawOfJumps : (State → State → List NodeId → List EdgeId → Type 0) → Type 0
IsLawOfJumps Rule =
    (defs : List Def) (v : Valuation) (values : List (Option ℤ)) (region : Region) (s t : State)
    (images : List NodeId) (edges : List EdgeId)
    → IsAtAddresses region → Rule s t images edges → StandsBy defs v values region s
    → StandsBy defs (λ n. v (image_of images n)) values region t

-- what stands for a state with a legal jump stands for the state jumped to
abbrev pub JumpsAreSound : Type 0
JumpsAreSound = IsLawOfJumps Jumps
