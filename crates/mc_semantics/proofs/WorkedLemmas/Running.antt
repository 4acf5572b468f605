-- What a run is made of: the moves before a step, and what is read and written in a heap.
use Rattle.std.proofs.Common.{◌≡◌, ℕ, ℤ, pos, List, [], ◌∷◌, Option, Some, None, ap, arith}
use Rattle.std.specs.Prelude.{is_some, if◌then◌else◌}
use Rattle.std.specs.FinMap as map
use Rattle.std.specs.FinMap.{gets}
use Rattle.std.proofs.lemmas.Bool.Decides.{nat_tests}
use Rattle.mc_base.specs.declared.text.place.Place.{Place}
use Rattle.mc_base.specs.declared.plain.FaultKind.TheVariants.{Freed, Uninit, BadFree}
use Rattle.mc_flow.specs.Heap.Access.{block_field, field_at, fresh_block, with_field}
use Rattle.mc_flow.specs.Heap.Choices.{Choice}
use Rattle.mc_flow.specs.Heap.Heap.{Block, Heap, region_of}
use Rattle.mc_flow.specs.Values.{wrapped}
use Rattle.mc_semantics.specs.Configs.{Values, Tasks}
use Rattle.mc_semantics.specs.Moves.{there}
use Rattle.mc_semantics.specs.Steps.{after}
use Rattle.mc_semantics.specs.Values.{Evaluated, evaluated, Found, faulty, found, after_found, read, Changed, fault_in, changed}

-- ---- moves
-- ---- heaps
pub no_block : (at : ℕ) → region_of map.empty at ≡ None
no_block at = grind (arith, gets, nat_tests)

pub is_there : (heap : Heap) (at : ℕ) (b : Block) → Some b ≡ region_of (map.insert heap at b) at
is_there heap at b = grind (arith, gets, nat_tests)

-- a block that was there alone is freed
pub all_gone : (at : ℕ) (b : Block) (other : ℕ) → region_of (map.remove (map.insert map.empty at b) at) other ≡ None
all_gone at b other = grind (arith, gets, nat_tests)

pub is_gone : (heap : Heap) (at : ℕ) → None ≡ region_of (map.remove heap at) at
is_gone heap at = grind (arith, gets, nat_tests)

-- what comes of reading a field of what is at an address
abbrev pub seen : List Choice → ℕ → ℕ → Option Block → Evaluated
seen choices shape field o = evaluated (after_found (read (field_at o shape field)) (λ v. found v)) choices

-- what comes of freeing what is at an address
abbrev pub take_out : Values → Heap → ℕ → Option Block → Changed
take_out values heap at None = fault_in BadFree
take_out values heap at (Some b) = changed values (map.remove heap at)

-- what comes of writing a field of what is at an address
abbrev pub put_in : Values → Heap → ℕ → ℕ → ℕ → ℤ → Option Block → Changed
put_in values heap at shape field v None = fault_in Freed
put_in values heap at shape field v (Some b) =
    if is_some (block_field b shape field) then changed values (map.insert heap at (with_field b field v)) else fault_in Freed

-- the same with a value that is computed of the field's own
abbrev pub combine_in : (ℤ → ℤ → ℤ) → Values → Heap → ℕ → ℕ → ℕ → ℤ → Option Block → Changed
combine_in operation values heap at shape field v o = combine (after_found (read (field_at o shape field)) (λ w. found w))
  where
    computed : Option ℤ → Option ℤ → Changed
    computed None b = fault_in Uninit
    computed (Some a) None = fault_in Uninit
    computed (Some a) (Some b) = put_in values heap at shape field (wrapped (operation a b)) o

    combine : Found → Changed
    combine (faulty kind) = fault_in kind
    combine (found a) = computed a (Some v)

module _ (tasks : Tasks) (place : Place) (choices : List Choice) (values : Values) (heap : Heap) (at : ℕ) where
  pub frees : (o : Option Block) → o ≡ region_of heap at → after tasks place choices (take_out values heap at o) ≡ after tasks place choices (take_out values heap at (region_of heap at))
  frees o e = ap (λ x. after tasks place choices (take_out values heap at x)) e

  pub stores : (shape field : ℕ) (v : ℤ) (o : Option Block) → o ≡ region_of heap at → after tasks place choices (put_in values heap at shape field v o) ≡ after tasks place choices (put_in values heap at shape field v (region_of heap at))
  stores shape field v o e = ap (λ x. after tasks place choices (put_in values heap at shape field v x)) e

  pub combines : (operation : ℤ → ℤ → ℤ) (shape field : ℕ) (v : ℤ) (o : Option Block) → o ≡ region_of heap at → after tasks place choices (combine_in operation values heap at shape field v o) ≡ after tasks place choices (combine_in operation values heap at shape field v (region_of heap at))
  combines operation shape field v o e = ap (λ x. after tasks place choices (combine_in operation values heap at shape field v x)) e

-- ---- one node at address 7
-- a new node, and one whose `data` is this
abbrev pub new : Block
new = fresh_block 0 2

abbrev pub holding : ℕ → Block
holding n = with_field new 0 (pos n)

-- the heap with a new node, and with one whose `data` held these values, the last one first
abbrev pub fresh : Heap
fresh = map.insert map.empty 7 new

abbrev pub holding_in_turn : List ℕ → Heap
holding_in_turn [] = fresh
holding_in_turn (n ∷ ns) = map.insert (holding_in_turn ns) 7 (holding n)
