-- Where runs match, so do faults.
use Rattle.std.proofs.Common.{◌≡◌, inl, inr, ℕ, zero, suc, List, Option, Some, None, sym, subst}
use Rattle.std.specs.Prelude.{slice_get}
use Rattle.mc_base.specs.declared.plain.FaultKind.{FaultKind}
use Rattle.mc_flow.specs.Runs.{next, last, ended, stopped, fault, Reaches}
use Rattle.mc_base.specs.declared.text.place.Place.{Place}
use Rattle.mc_flow.specs.Heap.Choices.{Choice}
use Rattle.mc_flow.specs.Steps as flow
use Rattle.mc_semantics.specs.Resolved.Programs.{Function}
use Rattle.mc_lower_spec.specs.Graphs.{Graph, Role, plain, head, merge, stop}
use Rattle.mc_lower_spec.specs.Runs.{FlowStep, told, FaultsMatch, RunsMatch}

-- the telling of stops changes neither steps nor faults
told_next : (role : Option Role) (s : flow.Result) (d : flow.Config) (rest : List Choice) → next d rest ≡ told role s → s ≡ next d rest
told_next (Some stop) (last ended) d rest e = absurd (cc)
told_next (Some stop) (last stopped) d rest e = absurd (cc)
told_next (Some stop) (last (fault kind place)) d rest e = absurd (cc)
told_next (Some stop) (next c choices) d rest e = sym e
told_next (Some plain) s d rest e = sym e
told_next (Some head) s d rest e = sym e
told_next (Some merge) s d rest e = sym e
told_next None s d rest e = sym e

told_fault : (role : Option Role) (s : flow.Result) (kind : FaultKind) (place : Place) → last (fault kind place) ≡ told role s → s ≡ last (fault kind place)
told_fault (Some stop) (last ended) kind place e = absurd (cc)
told_fault (Some stop) (last stopped) kind place e = absurd (cc)
told_fault (Some stop) (last (fault k p)) kind place e = sym e
told_fault (Some stop) (next c choices) kind place e = absurd (cc)
told_fault (Some plain) s kind place e = sym e
told_fault (Some head) s kind place e = sym e
told_fault (Some merge) s kind place e = sym e
told_fault None s kind place e = sym e

untold : (g : Graph) (n : ℕ) (c : flow.Config) (choices : List Choice) (kind : FaultKind) (place : Place) → Reaches (FlowStep g) n c choices (fault kind place)
    → Reaches (flow.Step g.flow g.program.defs) n c choices (fault kind place)
untold g zero c choices kind place run = run
untold g (suc n) c choices kind place (inl (s, step, e)) =
    inl (subst (λ z. flow.Step g.flow g.program.defs c choices z) (told_fault (slice_get g.roles c.point) s kind place e) step)
untold g (suc n) c choices kind place (inr (d, rest, (s, step, e), run)) =
    inr (d, rest, subst (λ z. flow.Step g.flow g.program.defs c choices z) (told_next (slice_get g.roles c.point) s d rest e) step, untold g n d rest kind place run)

pub faults_match : (g : Graph) (entry : Function) → RunsMatch g entry → FaultsMatch g entry
faults_match g entry match n choices kind place run =
    let there = (match choices (fault kind place)).0 (n, run) in
    (there.0, untold g there.0 (flow.start g.flow) choices kind place there.1)
