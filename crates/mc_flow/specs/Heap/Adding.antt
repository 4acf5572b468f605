-- Blocks that come into a heap together.
use Rattle.std.specs.Prelude.{◌≡◌, ℕ, None, List, [], ◌∷◌}
use Rattle.std.specs.FinMap as map
use Rattle.mc_flow.specs.Heap.Heap.{Block, Heap, Region, region_of, IsAddress, HasAddresses}
use Rattle.mc_flow.specs.Heap.Parts.{Split}

-- the heap with these blocks too, each at its address
abbrev pub with_blocks : Heap → List (ℕ × Block) → Heap
with_blocks heap [] = heap
with_blocks heap (entry ∷ entries) = with_blocks (map.insert heap entry.0 entry.1) entries

-- the region of these blocks alone
abbrev pub part_of : List (ℕ × Block) → Region
part_of entries = region_of (with_blocks map.empty entries)

-- each of them is at an address, nothing is allocated there, and no other of them is
abbrev pub AreFree : Heap → List (ℕ × Block) → Type 0
AreFree heap [] = Unit {0}
AreFree heap (entry ∷ entries) =
    IsAddress entry.0 × (region_of heap entry.0 ≡ None) × AreFree (map.insert heap entry.0 entry.1) entries

-- blocks at free addresses are a part more
abbrev pub BlocksAreAdded : Type 0
BlocksAreAdded =
    (heap : Heap) (entries : List (ℕ × Block))
    → AreFree heap entries → Split (region_of (with_blocks heap entries)) (part_of entries) (region_of heap)

-- and blocks stay at addresses
abbrev pub BlocksKeepAddresses : Type 0
BlocksKeepAddresses =
    (heap : Heap) (entries : List (ℕ × Block))
    → AreFree heap entries → HasAddresses heap → HasAddresses (with_blocks heap entries)
