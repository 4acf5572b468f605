-- A step that asks for an address.
use Rattle.std.proofs.Common.{◌≡◌, ◌<◌, ◌^◌, ℕ, zero, suc, ℤ, pos, List, [], ◌∷◌, refl, sym, subst, arith}
use Rattle.mc_flow.specs.Heap.Choices.{Choice, malloc}
use Rattle.mc_flow.specs.Heap.Heap.{Heap}
use Rattle.mc_flow.specs.declared.defs.shapes.StructInfo.{StructInfo}
use Rattle.mc_semantics.specs.Waiting.Requests.{Request, an_address, IsAllowed, IsUnanswered}
use Rattle.mc_semantics.specs.Resolved.Configs.{Config, Result}
use Rattle.mc_semantics.specs.Resolved.Steps.{Allocates}
use Rattle.mc_run_values.specs.declared.values.refusal.Refusal.{Refusal}
use Rattle.mc_run_values.specs.declared.values.refusal.Allocated.TheVariants.{Address, Unanswered}
use Rattle.mc_run_values.specs.Values.Memory.{allocated, IsAllocated}
use Rattle.mc_run.specs.declared.outcome.Stepped.{Stepped}
use Rattle.mc_run.specs.declared.outcome.Stepped.TheVariants as steps
use Rattle.mc_run.specs.Steps.{Comes, IsStep}
use Rattle.mc_run.proofs.Using.{unanswered_by}

pub small_address : (heap : Heap) (at : ℕ) → IsAllowed (an_address heap) (malloc at) → at < 2 ^ 62
small_address heap zero h = search arith
small_address heap (suc n) h = h.0.1

allocates_so : (before after : Heap) (shape fields at : ℕ) (go : ℤ → Heap → List Choice → Result → Type 0) (rest : List Choice) (r : Result) → IsAllowed (an_address before) (malloc at)
    → after ≡ allocated before shape fields at → go (pos at) after rest r → Allocates before shape fields (malloc at ∷ rest) go r
allocates_so before after shape fields zero go rest r allowed is h = (let P : Heap → Type 0 = λ m. go (pos 0) m rest r in subst P is h)
allocates_so before after shape fields (suc n) go rest r allowed is h = (allowed.0, allowed.1, (let P : Heap → Type 0 = λ m. go (pos (suc n)) m rest r in subst P is h))

allocates_back : (before after : Heap) (shape fields at : ℕ) (go : ℤ → Heap → List Choice → Result → Type 0) (rest : List Choice) (r : Result)
    → after ≡ allocated before shape fields at → Allocates before shape fields (malloc at ∷ rest) go r → go (pos at) after rest r
allocates_back before after shape fields zero go rest r is h = (let P : Heap → Type 0 = λ m. go (pos 0) m rest r in subst P (sym is) h)
allocates_back before after shape fields (suc n) go rest r is h = (let P : Heap → Type 0 = λ m. go (pos (suc n)) m rest r in subst P (sym is) h.2)

module _ (structs : List StructInfo) (before after : Heap) (shape fields : ℕ) (go : ℤ → Heap → List Choice → Result → Type 0) where
  abbrev Does : List Choice → Result → Type 0
  Does choices r = Allocates before shape fields choices go r

  abbrev Asks : List Choice → Request → List Choice → Type 0
  Asks choices request left = (request ≡ an_address before) × (left ≡ choices)

  pub block_refused : (why : Refusal) (c : Config) (old new : List (List ℕ)) → IsAllocated structs shape fields before old (Unanswered why) after new → IsStep structs Does Asks old (steps.Unanswered why) c new
  block_refused why c old new i = (an_address before, (old, ([], refl, λ rest. (refl, refl)), i.0))

  pub block_made : (at : ℕ) (stepped : Stepped) (c : Config) (old new : List (List ℕ)) → IsAllocated structs shape fields before old (Address at) after new
      → ((choices : List Choice) → Comes stepped c choices (λ r. go (pos at) after choices r)) → IsStep structs Does Asks old stepped c new
  block_made at steps.Goes c old new i f = (malloc at ∷ [], i.0, λ rest. allocates_so before after shape fields at go rest _ i.1 i.2 (f rest))
  block_made at (steps.Ends z) c old new i f = (malloc at ∷ [], i.0, λ rest. allocates_so before after shape fields at go rest _ i.1 i.2 (f rest))
  block_made at (steps.Unanswered why) c old new i f = absurd (f [])
  block_made at steps.Stuck c old new i f = (
    malloc at ∷ [],
    i.0,
    λ rest. (
      λ r does. f rest r (allocates_back before after shape fields at go rest r i.2 does),
      λ w. (
          let P : List Choice → Type 0 = λ left. IsUnanswered (an_address before) left in
          let never : IsUnanswered (an_address before) (malloc at ∷ rest) = subst P w.asks.1 (unanswered_by w.request (an_address before) w.left w.asks.0 w.unanswered) in
          never i.1),
    ),
  )
