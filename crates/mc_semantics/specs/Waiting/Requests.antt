-- What a step asks for, and the choices that answer it.
use Rattle.std.specs.Prelude.{◌≡◌, zero, suc, ℤ, None, List, [], ◌∷◌}
use Rattle.mc_base.specs.declared.ids.PredId.{PredId}
use Rattle.mc_base.specs.declared.plain.Kind.TheVariants.{Int}
use Rattle.mc_base.specs.Kinds.{InKind}
use Rattle.mc_flow.specs.Heap.Adding.{AreFree, part_of}
use Rattle.mc_flow.specs.Heap.Choices.{Choice, input, malloc, shape}
use Rattle.mc_flow.specs.Heap.Heap.{Heap, IsAddress, region_of}
use Rattle.mc_flow.specs.declared.defs.rules.Def.{Def}
use Rattle.mc_flow.specs.Defs.Meaning.{Sat}

-- an input; an answer of `malloc` in a heap; a value with blocks, of which a predicate holds with these arguments, for a
-- heap
pub data Request : Type 0 where
  an_input : Request
  an_address : Heap → Request
  a_shape : List Def → PredId → List ℤ → Heap → Request

-- the choice answers the request: any `int`; null, or an address that is not allocated; a value with blocks at free
-- addresses
abbrev pub IsAllowed : Request → Choice → Type 0
IsAllowed an_input (input v) = InKind Int v
IsAllowed an_input (malloc n) = ⊥
IsAllowed an_input (shape v blocks) = ⊥
IsAllowed (an_address heap) (input v) = ⊥
IsAllowed (an_address heap) (malloc zero) = Unit {0}
IsAllowed (an_address heap) (malloc (suc n)) = IsAddress (suc n) × (region_of heap (suc n) ≡ None)
IsAllowed (an_address heap) (shape v blocks) = ⊥
IsAllowed (a_shape defs predicate args heap) (input v) = ⊥
IsAllowed (a_shape defs predicate args heap) (malloc n) = ⊥
IsAllowed (a_shape defs predicate args heap) (shape v blocks) =
    AreFree heap blocks × Sat defs predicate v args (part_of blocks)

-- a choice is missing, or the next one is not allowed
abbrev pub IsUnanswered : Request → List Choice → Type 0
IsUnanswered request [] = Unit {0}
IsUnanswered request (choice ∷ choices) = ¬ IsAllowed request choice

-- a step that asks for this, with these choices left, waits for one of them
pub record Waits (Asks : Request → List Choice → Type 0) : Type 0 where
  pub request : Request
  pub left : List Choice
  pub asks : Asks request left
  pub unanswered : IsUnanswered request left
