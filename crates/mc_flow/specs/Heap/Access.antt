-- What is read and written in a heap.
use Rattle.std.specs.Prelude.{ℕ, ℤ, List, Option, Some, None, slice_get, slice_set, replicate, nat_eq, if◌then◌else◌}
use Rattle.mc_flow.specs.Heap.Heap.{Block}
use Rattle.mc_flow.specs.declared.heap.blocks.Read.{Read}
use Rattle.mc_flow.specs.declared.heap.blocks.Read.TheVariants.{Value, Undefined, Absent}

-- a field of a block of this struct: none where the struct is another or has no such field
abbrev pub block_field : Block → ℕ → ℕ → Option (Option ℤ)
block_field block shape field = if nat_eq block.shape shape then slice_get block.fields field else None

-- the field at an address: none where that address is not allocated as this struct or has no such field
abbrev pub field_at : Option Block → ℕ → ℕ → Option (Option ℤ)
field_at None shape field = None
field_at (Some block) shape field = block_field block shape field

-- the fields of the block at an address: none where that address is not allocated as this struct
abbrev pub fields_at : Option Block → ℕ → Option (List (Option ℤ))
fields_at None shape = None
fields_at (Some block) shape = if nat_eq block.shape shape then Some block.fields else None

-- how a field is answered
abbrev pub read_of : Option (Option ℤ) → Read
read_of None = Absent
read_of (Some None) = Undefined
read_of (Some (Some value)) = Value value

-- the block with another value in one field
abbrev pub with_field : Block → ℕ → ℤ → Block
with_field block field value = record { shape = block.shape; fields = slice_set block.fields field (Some value) }

-- a new block, of which no field is defined
abbrev pub fresh_block : ℕ → ℕ → Block
fresh_block shape fields = record { shape = shape; fields = replicate fields None }
