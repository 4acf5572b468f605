-- What a request for memory comes to.
use Rattle.std.specs.Prelude.{◌≡◌, ℕ, zero, suc, List, [], ◌∷◌}
use Rattle.std.specs.FinMap as map
use Rattle.mc_flow.specs.Heap.Access.{fresh_block}
use Rattle.mc_flow.specs.Heap.Choices.{malloc}
use Rattle.mc_flow.specs.Heap.Heap.{Heap}
use Rattle.mc_flow.specs.declared.defs.shapes.StructInfo.{StructInfo}
use Rattle.mc_semantics.specs.Waiting.Requests.{IsAllowed, an_address}
use Rattle.mc_run_values.specs.declared.values.refusal.Allocated.{Allocated}
use Rattle.mc_run_values.specs.declared.values.refusal.Allocated.TheVariants.{Address, Unanswered}
use Rattle.mc_run_values.specs.declared.values.refusal.Refusal.TheVariants.{NotAllowed}
use Rattle.mc_run_values.specs.Values.Taking.{Takes, IsRefused}

-- the heap with a new block at an address; at null there is none
abbrev pub allocated : Heap → (shape fields : ℕ) → ℕ → Heap
allocated heap shape fields zero = heap
allocated heap shape fields (suc at) = map.insert heap (suc at) (fresh_block shape fields)

-- a block comes to an address that is allowed; at another one the heap stays as it is
abbrev pub IsAdded : (shape fields : ℕ) → Heap → ℕ → Allocated → Heap → Type 0
IsAdded shape fields before at (Address given) after =
    (given ≡ at) × IsAllowed (an_address before) (malloc at) × (after ≡ allocated before shape fields at)
IsAdded shape fields before at (Unanswered why) after =
    (why ≡ NotAllowed) × (¬ IsAllowed (an_address before) (malloc at)) × (after ≡ before)

-- the next line gives an address that is allowed, and a block comes there; or it is no answer, and the heap stays as it is
abbrev pub IsAllocated : List StructInfo → (shape fields : ℕ) → Heap → List (List ℕ) → Allocated → Heap → List (List ℕ) → Type 0
IsAllocated structs shape fields before old (Address at) after new =
    Takes structs old (malloc at ∷ []) new × IsAllowed (an_address before) (malloc at)
    × (after ≡ allocated before shape fields at)
IsAllocated structs shape fields before old (Unanswered why) after new =
    IsRefused structs (an_address before) old why new × (after ≡ before)
