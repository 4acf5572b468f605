-- A heap of two blocks and its parts.
use Rattle.std.specs.Prelude.{ℕ, ℤ, pos, Option, Some, None, [], ◌∷◌, nat_eq, if◌then◌else◌}
use Rattle.std.specs.FinMap as map
use Rattle.mc_flow.specs.Heap.Heap.{Block, Heap, Region}
use Rattle.mc_flow.specs.Heap.Parts.{IsEmpty, IsCell}

-- a block of struct 0 with one field
abbrev pub block_with : Option ℤ → Block
block_with field = record { shape = 0; fields = field ∷ [] }

-- the block at an address of the two: its field is that address, or is undefined at 9
abbrev pub block_at : ℕ → Block
block_at at = if nat_eq at 9 then block_with None else block_with (Some (pos at))

-- a block at 7
abbrev pub one_block : Heap
one_block = map.insert map.empty 7 (block_at 7)

-- blocks at 7 and 9
abbrev pub two_blocks : Heap
two_blocks = map.insert one_block 9 (block_at 9)

-- nothing at all
abbrev pub nowhere : Region
nowhere at = None

-- one of the blocks, and nothing else
abbrev pub only_at : ℕ → Region
only_at at other = if nat_eq other at then Some (block_at at) else None

-- the region is the block at this address
abbrev pub IsBlockAt : ℕ → Region → Type 0
IsBlockAt at region = IsCell region at (block_at at)

-- the region is empty, whatever the address
abbrev pub IsNothingAt : ℕ → Region → Type 0
IsNothingAt at region = IsEmpty region

-- the same blocks, put there in the other order
abbrev pub two_blocks_turned : Heap
two_blocks_turned = map.insert (map.insert map.empty 9 (block_at 9)) 7 (block_at 7)
