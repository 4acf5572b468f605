-- The tests name what is unmet.
use Rattle.std.specs.Prelude.{◌≡◌, ◌↔◌, List, Some}
use Rattle.mc_base.specs.declared.ids.PointId.{PointId}
use Rattle.mc_flow.specs.declared.defs.rules.Def.{Def}
use Rattle.mc_flow.specs.declared.graph.Flow.{Flow}
use Rattle.mc_flow.specs.Valid.{IsValid}
use Rattle.mc_state.specs.Known.{Test, Tells}
use Rattle.mc_state.specs.Fits.{IsBounded}
use Rattle.mc_state.specs.State.{State}
use Rattle.mc_rules_steps.specs.declared.gap.Gap.{Gap}
use Rattle.mc_rules_steps.specs.declared.gap.Gap.TheVariants.{Uninit, NoBlock, Reached, NoShape, UninitField, NotEmpty}
use Rattle.mc_rules_steps.specs.Unmet.{IsUnmet}
use Rattle.mc_gaps.specs.Unmet.Gaps.{gap_at}

-- the gap is no shape
abbrev pub IsNoShape : Gap → Type 0
IsNoShape (Uninit x) = Unit {0}
IsNoShape (NoBlock n) = Unit {0}
IsNoShape Reached = Unit {0}
IsNoShape (NoShape pred n) = ⊥
IsNoShape (UninitField n f) = Unit {0}
IsNoShape (NotEmpty flag) = Unit {0}

-- of a valid flow graph the instruction at a point is unmet, by another cause than a shape, exactly where the tests say so
abbrev pub GapsAreTold : Type 0
GapsAreTold =
    (know : Test) (flow : Flow) (defs : List Def) (p : PointId) (s : State) (gap : Gap)
    → IsValid flow defs → IsBounded s → Tells know s
    → (gap_at know defs flow p s ≡ Some gap) ↔ (IsUnmet flow defs p s gap × IsNoShape gap)
