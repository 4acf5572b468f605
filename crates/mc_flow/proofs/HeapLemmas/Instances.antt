-- The heap of two blocks.
use Rattle.std.proofs.Common.{◌≡◌, ℕ, Option, Some, None, [], ◌∷◌, Bool, true, false, cond, refl, arith}
use Rattle.std.specs.Prelude.{nat_eq}
use Rattle.std.specs.FinMap.{gets}
use Rattle.std.proofs.lemmas.Bool.Decides.{nat_tests}
use mathlib.Core.Path.{fun_ext}
use Rattle.std.specs.FinMap as map
use Rattle.mc_flow.specs.Heap.Heap.{Block, region_of, HasAddresses}
use Rattle.mc_flow.specs.Heap.Parts.{Joins, Split, IsEmpty, Changes, Star, StarAt}
use Rattle.mc_flow.specs.Heap.Adding.{AreFree}
use Rattle.mc_flow.specs.Heap.Instances.{block_at, two_blocks, two_blocks_turned, one_block, nowhere, only_at, IsBlockAt, IsNothingAt}
use Rattle.mc_flow.proofs.HeapLemmas.Splits.{split_turned, split_whole, insert_changes, insert_keeps_addresses, empty_heap_is_empty}

joins_two : (b c : Bool) (p q : Block) (x : Option Block) → x ≡ cond b (Some p) (cond c (Some q) None) → (b ≡ true → c ≡ false) → Joins x (cond b (Some p) None) (cond c (Some q) None)
joins_two true true p q x e apart = absurd (cc (apart refl))
joins_two true false p q x e apart = e
joins_two false c p q x e apart = e

apart : (a : ℕ) → nat_eq a 7 ≡ true → nat_eq a 9 ≡ false
apart a e = grind (arith, nat_tests)

both : (a : ℕ) → region_of two_blocks a ≡ cond (nat_eq a 7) (Some (block_at 7)) (cond (nat_eq a 9) (Some (block_at 9)) None)
both a = grind (arith, gets, nat_tests)

pub two_split : Split (region_of two_blocks) (only_at 7) (only_at 9)
two_split = record { joins = λ a. joins_two (nat_eq a 7) (nat_eq a 9) (block_at 7) (block_at 9) (region_of two_blocks a) (both a) (apart a) }

pub nowhere_empty : IsEmpty nowhere
nowhere_empty = record { none = λ a. refl }

pub nine_split : Split (only_at 9) nowhere (only_at 9)
nine_split = split_whole (only_at 9) nowhere_empty

pub seven_cell : IsBlockAt 7 (only_at 7)
seven_cell = record { here = refl; only = λ a ne. grind (arith, nat_tests) }

pub nine_cell : IsBlockAt 9 (only_at 9)
nine_cell = record { here = refl; only = λ a ne. grind (arith, nat_tests) }

pub two_star : Star IsBlockAt (7 ∷ 9 ∷ []) (region_of two_blocks)
two_star = (only_at 7, only_at 9, two_split, seven_cell, (only_at 9, nowhere, split_turned nine_split, nine_cell, nowhere_empty))

pub two_star_at : StarAt IsBlockAt IsNothingAt 1 (7 ∷ 8 ∷ 9 ∷ []) (region_of two_blocks)
two_star_at = (only_at 7, only_at 9, two_split, seven_cell, (nowhere, only_at 9, nine_split, nowhere_empty, (only_at 9, nowhere, split_turned nine_split, nine_cell, nowhere_empty)))

pub nine_added : Changes (region_of one_block) (region_of two_blocks) 9 (Some (block_at 9))
nine_added = insert_changes one_block 9 (block_at 9)

pub nine_free : region_of one_block 9 ≡ None
nine_free = grind (arith, gets, nat_tests)

pub nine_gone : Changes (region_of two_blocks) (only_at 7) 9 None
nine_gone = record { here = refl; others = λ a ne. grind (arith, gets, nat_tests) }

pub nine_replaced : Changes (region_of two_blocks) (region_of (map.insert two_blocks 9 (block_at 7))) 9 (Some (block_at 7))
nine_replaced = insert_changes two_blocks 9 (block_at 7)

pub one_at_addresses : HasAddresses one_block
one_at_addresses = insert_keeps_addresses map.empty 7 (block_at 7) (omega arith, omega arith) none_there
  where
    none_there : HasAddresses map.empty
    none_there at s = let none = empty_heap_is_empty.none at in absurd (cc (s, none))

turned : (a : ℕ) → region_of two_blocks a ≡ region_of two_blocks_turned a
turned a = grind (arith, gets, nat_tests)

pub same_region : region_of two_blocks ≡ region_of two_blocks_turned
same_region = fun_ext turned

pub nine_comes : AreFree one_block ((9, block_at 9) ∷ [])
nine_comes = ((omega arith, omega arith), nine_free, tt)
