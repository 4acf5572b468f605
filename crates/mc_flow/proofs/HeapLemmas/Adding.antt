-- Blocks that come into a heap together are a part more.
use Rattle.std.proofs.Common.{◌≡◌, ℕ, Option, Some, None, List, [], ◌∷◌, refl, ap, ◌∙◌, inl, inr}
use Rattle.std.specs.FinMap as map
use Rattle.std.specs.FinMap.{get-empty}
use Rattle.std.specs.Ordering.{nat_cmp}
use Rattle.std.proofs.lemmas.Bool.{cases_eq}
use Rattle.mc_flow.specs.Heap.Heap.{Block, Heap, Region, region_of}
use Rattle.mc_flow.specs.Heap.Parts.{Joins, Split}
use Rattle.mc_flow.specs.Heap.Adding.{with_blocks, AreFree, BlocksAreAdded, BlocksKeepAddresses}
use Rattle.mc_flow.proofs.HeapLemmas.Splits.{insert_changes, insert_keeps_addresses, split_whole}

joins_free : (w p r : Option Block) → Joins w p r → w ≡ None → r ≡ None
joins_free w None r j e = cc
joins_free w (Some b) None j e = refl
joins_free w (Some b) (Some c) j e = absurd j

joins_block : (w p r : Option Block) (b : Block) → w ≡ Some b → p ≡ Some b → r ≡ None → Joins w p r
joins_block w None r b f g e = cc
joins_block w (Some c) None b f g e = cc
joins_block w (Some c) (Some d) b f g e = cc

-- one block more, in the whole and in the part
block_more : (heap other : Heap) (rest : Region) (at : ℕ) (b : Block) → Split (region_of heap) (region_of other) rest → region_of heap at ≡ None
    → Split (region_of (map.insert heap at b)) (region_of (map.insert other at b)) rest
block_more heap other rest at b s none =
    let w = insert_changes heap at b in
    let p = insert_changes other at b in
    record {
      joins = λ x. elim (cases_eq x at) [
        | inl e ↦
            joins_block (region_of (map.insert heap at b) x) (region_of (map.insert other at b) x) (rest x) b
            (ap (region_of (map.insert heap at b)) e ∙ w.here) (ap (region_of (map.insert other at b)) e ∙ p.here)
            (joins_free (region_of heap x) (region_of other x) (rest x) (s.joins x) (ap (region_of heap) e ∙ none))
        | inr ne ↦ rw (w.others x ne, p.others x ne) (s.joins x)
      ];
    }

blocks_more : (heap other : Heap) (rest : Region) (entries : List (ℕ × Block)) → Split (region_of heap) (region_of other) rest → AreFree heap entries
    → Split (region_of (with_blocks heap entries)) (region_of (with_blocks other entries)) rest
blocks_more heap other rest [] s free = s
blocks_more heap other rest (entry ∷ entries) s free =
    blocks_more (map.insert heap entry.0 entry.1) (map.insert other entry.0 entry.1) rest entries (block_more heap other rest entry.0 entry.1 s free.1) free.2

pub blocks_are_added : BlocksAreAdded
blocks_are_added heap entries free =
    blocks_more heap map.empty (region_of heap) entries (split_whole (region_of heap) (record { none = λ a. get-empty nat_cmp a })) free

pub blocks_keep_addresses : BlocksKeepAddresses
blocks_keep_addresses heap [] free has = has
blocks_keep_addresses heap (entry ∷ entries) free has =
    blocks_keep_addresses (map.insert heap entry.0 entry.1) entries free.2 (insert_keeps_addresses heap entry.0 entry.1 free.0 has)
