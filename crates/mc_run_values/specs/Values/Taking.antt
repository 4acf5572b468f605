-- Choices that are taken of the lines of a script.
use Rattle.std.specs.Prelude.{◌≡◌, ◌++◌, ℕ, List, [], ◌∷◌}
use Rattle.mc_flow.specs.Heap.Choices.{Choice}
use Rattle.mc_flow.specs.declared.defs.shapes.StructInfo.{StructInfo}
use Rattle.mc_semantics.specs.Waiting.Requests.{Request, IsAllowed}
use Rattle.mc_run_values.specs.Script.Scripts.{IsChoice, IsNoChoice}
use Rattle.mc_run_values.specs.declared.values.refusal.Refusal.{Refusal}
use Rattle.mc_run_values.specs.declared.values.refusal.Refusal.TheVariants.{Missing, Unreadable, NotAllowed}

-- the first of these lines mean these choices, a line each, and the other lines are left
abbrev pub Takes : List StructInfo → List (List ℕ) → List Choice → List (List ℕ) → Type 0
Takes structs lines [] left = left ≡ lines
Takes structs [] (c ∷ cs) left = ⊥
Takes structs (line ∷ lines) (c ∷ cs) left = IsChoice structs line c × Takes structs lines cs left

-- this is so with the choices that are taken on the way from these lines to those, whatever choices stand after them
abbrev pub WithTaken : List StructInfo → List (List ℕ) → List (List ℕ) → (List Choice → List Choice → Type 0) → Type 0
WithTaken structs old new IsSo = (used : List Choice) × Takes structs old used new × ((rest : List Choice) → IsSo (used ++ rest) rest)

-- for this reason the first of these lines is no answer to the request; it is gone then
abbrev pub IsRefused : List StructInfo → Request → List (List ℕ) → Refusal → List (List ℕ) → Type 0
IsRefused structs request [] Missing left = left ≡ []
IsRefused structs request [] Unreadable left = ⊥
IsRefused structs request [] NotAllowed left = ⊥
IsRefused structs request (line ∷ lines) Missing left = ⊥
IsRefused structs request (line ∷ lines) Unreadable left = IsNoChoice structs line × (left ≡ lines)
IsRefused structs request (line ∷ lines) NotAllowed left =
    ((c : Choice) × IsChoice structs line c × (IsAllowed request c → ⊥)) × (left ≡ lines)

-- with the choices that are taken before, this asks for another one, which the next line refuses
abbrev pub IsRefusedBehind : List StructInfo → Request → List (List ℕ) → Refusal → List (List ℕ)
    → (List Choice → List Choice → Type 0) → Type 0
IsRefusedBehind structs request old why new Asks =
    (next : List (List ℕ)) × WithTaken structs old next Asks × IsRefused structs request next why new
