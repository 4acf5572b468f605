-- Runs that come to a kind of configuration before they fault.
use Rattle.std.proofs.Common.{ℕ, zero, suc, ◌≤◌, List, inl, inr, arith}
use Rattle.mc_base.specs.declared.plain.FaultKind.{FaultKind}
use Rattle.mc_base.specs.declared.text.place.Place.{Place}
use Rattle.mc_flow.specs.Runs.{Final, next, last, fault, Reaches}
use Rattle.mc_flow.specs.Heap.Choices.{Choice}
use Rattle.mc_flow.specs.declared.defs.rules.Def.{Def}
use Rattle.mc_flow.specs.declared.graph.Flow.{Flow}
use Rattle.mc_flow.specs.Steps.{Config, Result, Step}
use Rattle.mc_kernel.specs.Certificates.{Visits}

module _ (flow : Flow) (defs : List Def) (P : Config → Type 0) where
  -- each run of at most so many steps that faults comes to a configuration of the kind
  abbrev pub SafeUpTo : ℕ → Config → Type 0
  SafeUpTo n c =
      (m : ℕ) (choices : List Choice) (kind : FaultKind) (place : Place)
      → m ≤ n → Reaches (Step flow defs) m c choices (fault kind place) → Visits P flow defs m c choices (fault kind place)

  pub no_steps : (c : Config) → SafeUpTo 0 c
  no_steps c zero choices kind place le r = absurd r
  no_steps c (suc m) choices kind place le r = absurd (omega arith)

  pub shorter : (n : ℕ) (c : Config) → SafeUpTo (suc n) c → SafeUpTo n c
  shorter n c safe m choices kind place le r = safe m choices kind place (omega arith) r

  -- a step has no fault, and where it goes on, what comes of it is safe
  abbrev pub StepsSafely : ℕ → Result → Type 0
  StepsSafely n (next d rest) = SafeUpTo n d
  StepsSafely n (last (fault kind place)) = ⊥
  StepsSafely n (last Final.ended) = Unit {0}
  StepsSafely n (last Final.stopped) = Unit {0}

  pub safe_next : (n : ℕ) (c : Config) → ((choices : List Choice) (r : Result) → Step flow defs c choices r → StepsSafely n r) → SafeUpTo (suc n) c
  safe_next n c steps zero choices kind place le r = absurd r
  safe_next n c steps (suc m) choices kind place le r = elim r [
    | inl faults ↦ absurd (steps choices (last (fault kind place)) faults)
    | inr goes ↦
        let safe : SafeUpTo n goes.0 = steps choices (next goes.0 goes.1) goes.2 in
        inr (goes.0, goes.1, goes.2, safe m goes.1 kind place (omega arith) goes.3)
  ]

  -- a configuration of the kind is visited at once
  pub safe_here : (n : ℕ) (c : Config) → P c → SafeUpTo n c
  safe_here n c here zero choices kind place le r = absurd r
  safe_here n c here (suc m) choices kind place le r = inl (here, r)

  -- where no configuration is of the kind, none is visited
  pub none_visited : ((c : Config) → P c → ⊥) → (n : ℕ) (c : Config) (choices : List Choice) (f : Final) → Visits P flow defs n c choices f → ⊥
  none_visited none zero c choices f v = v
  none_visited none (suc n) c choices f v = elim v [
    | inl here ↦ none c here.0
    | inr later ↦ none_visited none n later.0 later.1 f later.3
  ]
