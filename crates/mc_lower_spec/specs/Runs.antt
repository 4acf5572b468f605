-- What runs of a program and of its flow graph have in common.
use Rattle.std.specs.Prelude.{◌≡◌, ◌↔◌, ℕ, List, Option, Some, None, slice_get}
use Rattle.mc_base.specs.declared.plain.FaultKind.{FaultKind}
use Rattle.mc_base.specs.declared.text.place.Place.{Place}
use Rattle.mc_flow.specs.Runs.{Final, Outcome, next, last, ended, stopped, fault, Reaches}
use Rattle.mc_flow.specs.Heap.Choices.{Choice}
use Rattle.mc_flow.specs.Steps as flow
use Rattle.mc_semantics.specs.Resolved.Programs.{Function}
use Rattle.mc_semantics.specs.Resolved.Steps as resolved
use Rattle.mc_lower_spec.specs.Graphs.{Graph, Role, plain, head, merge, stop}

-- the run comes to this end
abbrev pub ComesTo : {C K : Type 0} → (C → List K → Outcome C K → Type 0) → C → List K → Final → Type 0
ComesTo Steps c choices f = (n : ℕ) × Reaches Steps n c choices f

-- an end at a point that is a stop counts as a stop
abbrev pub told : {C K : Type 0} → Option Role → Outcome C K → Outcome C K
told (Some stop) (last ended) = last stopped
told (Some stop) (last stopped) = last stopped
told (Some stop) (last (fault kind place)) = last (fault kind place)
told (Some stop) (next c choices) = next c choices
told (Some plain) r = r
told (Some head) r = r
told (Some merge) r = r
told None r = r

-- a step of the flow graph, which tells stops from ends
abbrev pub FlowStep : Graph → flow.Config → List Choice → flow.Result → Type 0
FlowStep g c choices r =
    (s : flow.Result) × flow.Step g.flow g.program.defs c choices s × (r ≡ told (slice_get g.roles c.point) s)

-- with the same choices the program comes to a fault, an end or a stop exactly where the flow graph comes to the same
-- one
abbrev pub RunsMatch : Graph → Function → Type 0
RunsMatch g entry =
    (choices : List Choice) (final : Final)
    → ComesTo (resolved.Step g.program) (resolved.start entry) choices final
    ↔ ComesTo (FlowStep g) (flow.start g.flow) choices final

-- every fault of the program is one of its flow graph, to which the run with the same choices comes
abbrev pub FaultsMatch : Graph → Function → Type 0
FaultsMatch g entry =
    (n : ℕ) (choices : List Choice) (kind : FaultKind) (place : Place)
    → Reaches (resolved.Step g.program) n (resolved.start entry) choices (fault kind place)
    → ComesTo (flow.Step g.flow g.program.defs) (flow.start g.flow) choices (fault kind place)
