-- Steps of flow graphs are determined by their choices.
use Rattle.std.proofs.Common.{◌≡◌, List, sym, ap, ◌∙◌}
use Rattle.std.specs.Prelude.{slice_get}
use Rattle.mc_flow.specs.Heap.Choices.{Choice}
use Rattle.mc_flow.specs.Steps.{Config, Result}
use Rattle.mc_lower_spec.specs.Graphs.{Graph}
use Rattle.mc_lower_spec.specs.Runs.{FlowStep, told}
use Rattle.mc_lower_spec.proofs.Simulating.{IsOnce}
use Rattle.mc_semantics.proofs.WaitingLemmas.Flows.{determined}

-- ---- a step is determined
-- ---- points of a flow graph
told_once : (g : Graph) (c : Config) (choices : List Choice) (r s : Result) → FlowStep g c choices r → FlowStep g c choices s → r ≡ s
told_once g c choices r s (x, is, e) (y, is', f) = e ∙ ap (told (slice_get g.roles c.point)) (determined g.flow g.program.defs c choices x y is is') ∙ sym f

pub flow_once : (g : Graph) → IsOnce (FlowStep g)
flow_once g c choices r s i j = told_once g c choices r s i j
