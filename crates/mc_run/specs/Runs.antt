-- What a run comes to with a script and fuel.
use Rattle.std.specs.Prelude.{◌≡◌, ◌++◌, ◌+◌, ◌<◌, ◌≤◌, ◌⊎◌, ℕ, List, [], Option, Some, None, length}
use Rattle.mc_flow.specs.Runs.{Final, ended, stopped, fault}
use Rattle.mc_flow.specs.Heap.Choices.{Choice}
use Rattle.mc_flow.specs.declared.defs.shapes.StructInfo.{StructInfo}
use Rattle.mc_semantics.specs.Waiting.Requests.{Request}
use Rattle.mc_semantics.specs.Waiting.Runs.{ComesTo, GoesOn, Leads, Machine}
use Rattle.mc_semantics.specs.Resolved.Programs.{Function, Program}
use Rattle.mc_semantics.specs.Resolved.Configs.{Config}
use Rattle.mc_semantics.specs.Resolved.Steps.{Step, start}
use Rattle.mc_run_values.specs.declared.values.refusal.Refusal.TheVariants.{Unreadable, NotAllowed}
use Rattle.mc_run_values.specs.Values.Taking.{Takes, IsRefused}
use Rattle.mc_run.specs.declared.outcome.Outcome.{Outcome}
use Rattle.mc_run.specs.declared.outcome.Outcome.TheVariants as outcomes
use Rattle.mc_run.specs.Asking.{Asks}
use Rattle.mc_run.specs.Steps.{HasNoStep}

-- the run takes these choices of the script, a line each, whatever choices stand after them, and then this is so
abbrev pub Taking : List StructInfo → List (List ℕ) → (List Choice → List (List ℕ) → Type 0) → Type 0
Taking structs script IsSo =
    (used : List Choice) × (left : List (List ℕ)) × Takes structs script used left × IsSo used left

-- what the steps of a machine ask for
abbrev pub Asking : Type 0 → Type 1
Asking C = C → List Choice → Request → List Choice → Type 0

-- within the fuel the run comes to this end
abbrev pub Finishes : {C : Type 0} → Machine C Choice → List StructInfo → C → List (List ℕ) → ℕ → Final → Type 0
Finishes Steps structs c script fuel f =
    Taking structs script (λ used left. (n : ℕ) × (n ≤ fuel) × ((rest : List Choice) → ComesTo Steps n c (used ++ rest) f))

-- n steps were made with these choices, and the next one asks for this when the rest is left
abbrev pub AsksAfter : {C : Type 0} → Machine C Choice → Asking C → ℕ → C → List Choice → Request → List Choice → Type 0
AsksAfter {C} Steps Asks n c choices request rest =
    (d : C) × (more : List Choice) × Leads Steps n c choices d more × Asks d more request rest

-- within the fuel the run asks for its next choice, of which the number is this, and the lines that are left refuse it so
abbrev pub AsksInVain : {C : Type 0} → Machine C Choice → Asking C → List StructInfo → C → List (List ℕ) → ℕ → ℕ
    → (Request → List (List ℕ) → Type 0) → Type 0
AsksInVain Steps Asks structs c script fuel number Refuse =
    Taking structs script (λ used left. (number ≡ length used + 1) × ((n : ℕ) × (n < fuel) × ((request : Request)
    × ((rest : List Choice) → AsksAfter Steps Asks n c (used ++ rest) request rest) × Refuse request left)))

-- the lines refuse a request: none is left, or the first one is no choice that is allowed
abbrev pub IsShort : Request → List (List ℕ) → Type 0
IsShort request left = left ≡ []

abbrev pub IsBad : List StructInfo → Request → List (List ℕ) → Type 0
IsBad structs request left =
    ((new : List (List ℕ)) × IsRefused structs request left Unreadable new)
    ⊎ ((new : List (List ℕ)) × IsRefused structs request left NotAllowed new)

-- within the fuel the run comes to where it has no step and waits for no choice
abbrev pub IsStuck : {C : Type 0} → Machine C Choice → Asking C → List StructInfo → C → List (List ℕ) → ℕ → Type 0
IsStuck {C} Steps Asks structs c script fuel =
    Taking structs script (λ used left. (n : ℕ) × (n < fuel) × ((rest : List Choice)
    → (d : C) × (more : List Choice) × Leads Steps n c (used ++ rest) d more
    × HasNoStep (λ r. Steps d more r) (λ request asked. Asks d more request asked)))

-- what the run of a machine from this configuration comes to with the script and the fuel
abbrev pub RunsTo : {C : Type 0} → Machine C Choice → Asking C → List StructInfo → C → List (List ℕ) → ℕ → Outcome → Type 0
RunsTo Steps Asks structs c script fuel outcomes.Ended = Finishes Steps structs c script fuel ended
RunsTo Steps Asks structs c script fuel outcomes.Stopped = Finishes Steps structs c script fuel stopped
RunsTo Steps Asks structs c script fuel (outcomes.Fault kind place) = Finishes Steps structs c script fuel (fault kind place)
RunsTo Steps Asks structs c script fuel outcomes.FuelSpent =
    Taking structs script (λ used left. (rest : List Choice) → GoesOn Steps fuel c (used ++ rest))
RunsTo Steps Asks structs c script fuel (outcomes.Short k) = AsksInVain Steps Asks structs c script fuel k IsShort
RunsTo Steps Asks structs c script fuel (outcomes.Bad k) = AsksInVain Steps Asks structs c script fuel k (IsBad structs)
RunsTo Steps Asks structs c script fuel outcomes.Stuck = IsStuck Steps Asks structs c script fuel

-- the same for a resolved program
abbrev pub Runs : Program → List StructInfo → Config → List (List ℕ) → ℕ → Outcome → Type 0
Runs p structs c script fuel outcome = RunsTo (Step p) (Asks p) structs c script fuel outcome

-- what the program comes to; without a function of its entry's number it is stuck
abbrev pub RunsFrom : Program → List StructInfo → List (List ℕ) → ℕ → Outcome → Option Function → Type 0
RunsFrom p structs script fuel outcome None = outcome ≡ outcomes.Stuck
RunsFrom p structs script fuel outcome (Some f) = Runs p structs (start f) script fuel outcome
