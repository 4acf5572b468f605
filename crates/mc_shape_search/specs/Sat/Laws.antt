-- What holds of predicates on heaps.
use Rattle.std.specs.Prelude.{◌≡◌, suc, ℤ, List}
use Rattle.std.specs.FinMap as map
use Rattle.mc_base.specs.declared.ids.PredId.{PredId}
use Rattle.mc_flow.specs.Heap.Heap.{Heap, Region, region_of}
use Rattle.mc_flow.specs.Heap.Parts.{Split}
use Rattle.mc_flow.specs.declared.defs.rules.Def.{Def}
use Rattle.mc_flow.specs.Defs.Conditions.{IsDefs}
use Rattle.mc_flow.specs.Defs.Meaning.{RuleValues, BlockMeets, SatAt, Sat}

-- a part of a heap's region is the region of a heap
abbrev pub PartIsHeap : Type 0
PartIsHeap =
    (heap : Heap) (part rest : Region) → Split (region_of heap) part rest → (own : Heap) × (part ≡ region_of own)

-- what holds on a heap holds at a height of at most the number of its blocks and one
abbrev pub SatIsLow : Type 0
SatIsLow =
    (heap : Heap) (defs : List Def) (pred : PredId) (value : ℤ) (args : List ℤ)
    → IsDefs defs → Sat defs pred value args (region_of heap)
    → SatAt defs (suc (map.len heap)) pred value args (region_of heap)

-- the value, the arguments and the heap determine the names of a rule whose block is a part of it
abbrev pub NamesAreUnique : Type 0
NamesAreUnique =
    (heap : Heap) (defs : List Def) (pred : PredId) (value : ℤ) (args : List ℤ)
    (by other : RuleValues defs pred value args) (block rest other_block other_rest : Region)
    → IsDefs defs → by.place ≡ other.place
    → Split (region_of heap) block rest → BlockMeets by.rule.block by.rule.contents by.names block
    → Split (region_of heap) other_block other_rest
    → BlockMeets other.rule.block other.rule.contents other.names other_block
    → by.names ≡ other.names
