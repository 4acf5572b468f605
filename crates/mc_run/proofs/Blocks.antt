-- Blocks of a script that come into a heap.
use Rattle.std.proofs.Common.{◌≡◌, ℕ, List, [], ◌∷◌, None, ap, sym, ◌∙◌, inl, inr, subst}
use Rattle.std.specs.FinMap as map
use Rattle.std.specs.FinMap.{get-empty}
use Rattle.std.specs.Ordering.{nat_cmp}
use Rattle.std.proofs.lemmas.Bool.{cases_eq}
use Rattle.mc_flow.specs.Heap.Heap.{Block, Heap, region_of}
use Rattle.mc_flow.specs.Heap.Adding.{AreFree, with_blocks}
use Rattle.mc_flow.proofs.HeapLemmas.Splits.{insert_changes}

-- what is free in a heap is free in one that has less
free_more : (heap other : Heap) (at : ℕ) (b : Block) → ((x : ℕ) → region_of heap x ≡ None → region_of other x ≡ None)
    → (x : ℕ) → region_of (map.insert heap at b) x ≡ None → region_of (map.insert other at b) x ≡ None
free_more heap other at b less x none =
    let w = insert_changes heap at b in
    let p = insert_changes other at b in
    elim (cases_eq x at) [
      | inl e ↦ (let s = ap (region_of (map.insert heap at b)) e ∙ w.here in cc)
      | inr ne ↦ p.others x ne ∙ less x (sym (w.others x ne) ∙ none)
    ]

free_in_less : (heap other : Heap) (entries : List (ℕ × Block)) → ((x : ℕ) → region_of heap x ≡ None → region_of other x ≡ None) → AreFree heap entries → AreFree other entries
free_in_less heap other [] less free = free
free_in_less heap other (entry ∷ entries) less free = (
  free.0,
  less entry.0 free.1,
  free_in_less (map.insert heap entry.0 entry.1) (map.insert other entry.0 entry.1) entries (free_more heap other entry.0 entry.1 less) free.2,
)

pub free_alone : (heap : Heap) (entries : List (ℕ × Block)) → AreFree heap entries → AreFree map.empty entries
free_alone heap entries free = free_in_less heap map.empty entries (λ x none. get-empty nat_cmp x) free

-- ---- one block after the other
-- blocks came into the heap, and these are left
abbrev pub Left : Heap → List (ℕ × Block) → Heap → List (ℕ × Block) → Type 0
Left heap entries now left =
    (AreFree heap entries → AreFree now left) × (AreFree now left → AreFree heap entries) × (with_blocks heap entries ≡ with_blocks now left)

pub one_more : (heap : Heap) (entries : List (ℕ × Block)) (now later : Heap) (entry : ℕ × Block) (left : List (ℕ × Block)) → Left heap entries now (entry ∷ left)
    → AreFree now (entry ∷ []) → later ≡ with_blocks now (entry ∷ []) → Left heap entries later left
one_more heap entries now later entry left h free is =
    let P : Heap → Type 0 = λ m. Left heap entries m left in
    subst P (sym is) ((λ all. (h.0 all).2), (λ more. h.1 (free.0, free.1, more)), h.2)

pub not_free : (heap : Heap) (entries : List (ℕ × Block)) (now : Heap) (entry : ℕ × Block) (left : List (ℕ × Block)) → Left heap entries now (entry ∷ left)
    → (AreFree now (entry ∷ []) → ⊥) → AreFree heap entries → ⊥
not_free heap entries now entry left h never all = never ((h.0 all).0, (h.0 all).1, tt)
