-- What holds of parts and changes of regions.
use Rattle.std.specs.Prelude.{◌≡◌, ℕ, Some, None}
use Rattle.std.specs.FinMap as map
use Rattle.mc_flow.specs.Heap.Heap.{Block, Heap, Region, region_of, IsAddress, IsAtAddresses, HasAddresses}
use Rattle.mc_flow.specs.Heap.Parts.{Split, IsEmpty, IsCell, Changes}

-- two parts in either order
abbrev pub SplitCommutes : Type 0
SplitCommutes = (whole left right : Region) → Split whole left right → Split whole right left

-- a part of the right part goes to the left
abbrev pub SplitRegroupsLeft : Type 0
SplitRegroupsLeft =
    (whole left rest middle right : Region)
    → Split whole left rest → Split rest middle right
    → (both : Region) × Split both left middle × Split whole both right

-- a part of the left part goes to the right
abbrev pub SplitRegroupsRight : Type 0
SplitRegroupsRight =
    (whole both right left middle : Region)
    → Split whole both right → Split both left middle
    → (rest : Region) × Split rest middle right × Split whole left rest

-- an empty part drops out
abbrev pub SplitDropsEmpty : Type 0
SplitDropsEmpty = (whole left right : Region) → IsEmpty left → Split whole left right → whole ≡ right

-- the blocks of a part are at addresses where the whole's are
abbrev pub SplitKeepsAddresses : Type 0
SplitKeepsAddresses = (whole left right : Region) → Split whole left right → IsAtAddresses whole → IsAtAddresses left

-- a region with an empty one is itself
abbrev pub SplitAddsEmpty : Type 0
SplitAddsEmpty = (whole nothing : Region) → IsEmpty nothing → Split whole nothing whole

-- a heap without blocks has an empty region
abbrev pub EmptyHeapIsEmpty : Type 0
EmptyHeapIsEmpty = IsEmpty (region_of map.empty)

-- two heaps with one region are the same
abbrev pub RegionTellsHeap : Type 0
RegionTellsHeap = (heap other : Heap) → region_of heap ≡ region_of other → heap ≡ other

-- putting a block into a heap changes its address alone
abbrev pub InsertChanges : Type 0
InsertChanges = (heap : Heap) (at : ℕ) (block : Block) → Changes (region_of heap) (region_of (map.insert heap at block)) at (Some block)

-- taking what is at an address out of a heap changes that address alone
abbrev pub RemoveChanges : Type 0
RemoveChanges = (heap : Heap) (at : ℕ) → Changes (region_of heap) (region_of (map.remove heap at)) at None

-- blocks stay at addresses where one is put at an address
abbrev pub InsertKeepsAddresses : Type 0
InsertKeepsAddresses = (heap : Heap) (at : ℕ) (block : Block) → IsAddress at → HasAddresses heap → HasAddresses (map.insert heap at block)

-- and where one is taken out
abbrev pub RemoveKeepsAddresses : Type 0
RemoveKeepsAddresses = (heap : Heap) (at : ℕ) → HasAddresses heap → HasAddresses (map.remove heap at)

-- a part's block is the whole's
abbrev pub CellIsRead : Type 0
CellIsRead = (whole part rest : Region) (at : ℕ) (block : Block) → Split whole part rest → IsCell part at block → whole at ≡ Some block

-- a block at a free address is a part more
abbrev pub CellIsAdded : Type 0
CellIsAdded =
    (before after : Region) (at : ℕ) (block : Block)
    → before at ≡ None → Changes before after at (Some block)
    → (part : Region) × Split after part before × IsCell part at block

-- another block in place of one changes that part alone
abbrev pub CellIsReplaced : Type 0
CellIsReplaced =
    (before after part rest : Region) (at : ℕ) (block other : Block)
    → Split before part rest → IsCell part at block → Changes before after at (Some other)
    → (changed : Region) × Split after changed rest × IsCell changed at other

-- where a block goes, the rest is left
abbrev pub CellIsRemoved : Type 0
CellIsRemoved =
    (before after part rest : Region) (at : ℕ) (block : Block)
    → Split before part rest → IsCell part at block → Changes before after at None → after ≡ rest
