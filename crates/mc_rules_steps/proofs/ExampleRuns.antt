-- Steps of the small flow graph.
use Rattle.std.proofs.Common.{negsuc, ◌≡◌, [], ◌∷◌, None, refl, sym, ap, arith, inl, pos}
use Rattle.std.specs.FinMap as map
use Rattle.std.specs.FinMap.{gets}
use Rattle.std.proofs.lemmas.Bool.Decides.{nat_tests}
use Rattle.std.proofs.lemmas.Int.{ints}
use Rattle.mc_base.specs.declared.text.place.Place.{Place}
use Rattle.mc_flow.specs.Runs as runs
use Rattle.mc_flow.specs.Heap.Access.{field_at}
use Rattle.mc_flow.specs.Heap.Choices as choice
use Rattle.mc_flow.specs.Heap.Heap.{region_of}
use Rattle.mc_flow.specs.Defs.Examples.{defs, cell_id, list_id, blocks}
use Rattle.mc_flow.specs.Defs.Meaning.{Sat, HoldsSomewhere}
use Rattle.mc_flow.specs.Steps.{Step, found, put, set_to, freed_at, written}
use Rattle.mc_flow.proofs.DefsLemmas.SmallHeaps.{no_len}
use Rattle.mc_rules_steps.specs.Examples as ex
use Rattle.mc_rules_steps.proofs.ExampleStates.{block_there, empty_there}
use Rattle.mc_rules_steps.proofs.ExampleSteps.{joins_none}
use Rattle.mc_rules_steps.proofs.Wrapping.{wrapped_is, least_is}

abbrev place : Place
place = record { line = 1; column = 1 }

pub skip : ex.Goes (ex.config 0 (pos 5)) [] (ex.config 1 (pos 5))
skip = refl

pub copy : ex.Goes (ex.config 1 (pos 5)) [] (ex.config_with 2 ex.t (pos 7))
copy = refl

pub undef : ex.Goes (ex.config 2 (pos 5)) [] (ex.config 3 (pos 5))
undef = refl

pub input : ex.Goes (ex.config 3 (pos 5)) (choice.input (pos 9) ∷ []) (ex.config_with 4 ex.z (pos 9))
input = ((omega (arith, ints), omega (arith, ints)), refl)

pub sum : ex.Goes (ex.config 4 (pos 5)) [] (ex.config_with 5 ex.z (pos 6))
sum = ap (set_to ex.z (ex.at 5) (ex.config 4 (pos 5)) []) (sym (wrapped_is (pos 6) (omega (arith, ints), omega (arith, ints))))

pub wrap : ex.Goes (ex.config 21 (pos 5)) [] (ex.config_with 22 ex.z (negsuc 2147483647))
wrap = ap (set_to ex.z (ex.at 22) (ex.config 21 (pos 5)) []) least_is

pub difference : ex.Goes (ex.config 5 (pos 5)) [] (ex.config_with 6 ex.z (pos 4))
difference = ap (set_to ex.z (ex.at 6) (ex.config 5 (pos 5)) []) (sym (wrapped_is (pos 4) (omega (arith, ints), omega (arith, ints))))

pub product : ex.Goes (ex.config 6 (pos 5)) [] (ex.config_with 7 ex.z (pos 5))
product = ap (set_to ex.z (ex.at 7) (ex.config 6 (pos 5)) []) (sym (wrapped_is (pos 5) (omega (arith, ints), omega (arith, ints))))

pub load : ex.Goes (ex.config 7 (pos 5)) [] (ex.config_with 8 ex.t (pos 0))
load = ap (λ o. found ex.t (ex.at 8) place (ex.config 7 (pos 5)) [] (field_at o 0 1)) (sym block_there)

pub store : ex.Goes (ex.config 8 (pos 5)) [] (ex.config_on 9 ex.stored)
store = ap (λ o. put (ex.at 9) place (ex.config 8 (pos 5)) [] (written ex.heap 7 cell_id 0 (pos 5) o)) (sym block_there)

pub malloc_null : ex.Goes (ex.config 9 (pos 5)) (choice.malloc 0 ∷ []) (ex.config_with 10 ex.t (pos 0))
malloc_null = refl

free_nine : region_of ex.heap 9 ≡ None
free_nine = grind (arith, gets, nat_tests)

pub malloc_cell : ex.Goes (ex.config 9 (pos 5)) (choice.malloc 9 ∷ []) ex.allocated
malloc_cell = ((omega arith, omega arith), free_nine, refl)

pub free_null : ex.Goes (ex.config 10 (pos 5)) [] (ex.config 11 (pos 5))
free_null = refl

pub free : ex.Goes (ex.config 11 (pos 5)) [] (ex.config_on 12 (map.remove ex.heap 7))
free = ap (λ o. freed_at (ex.at 12) place (ex.config 11 (pos 5)) [] 7 o) (sym block_there)

pub equal : ex.Goes (ex.config 12 (pos 5)) [] (ex.config 14 (pos 5))
equal = refl

pub at_most : ex.Goes (ex.config 13 (pos 5)) [] (ex.config 15 (pos 5))
at_most = refl

pub assume : ex.Goes (ex.config 14 (pos 5)) (choice.shape (pos 0) [] ∷ []) (ex.config_with 15 ex.t (pos 0))
assume = (tt, no_len, refl)

pub assert : Sat defs list_id (pos 0) [] (blocks []) → ex.Goes (ex.config 15 (pos 5)) [] (ex.config 16 (pos 5))
assert law =
    let region = region_of ex.heap in
    let holds : HoldsSomewhere defs list_id (pos 0) [] region = (blocks [], region, record { joins = λ at. joins_none (region at) (blocks [] at) (empty_there at) }, law) in
    inl (holds, refl)

pub empty : ex.Goes (ex.bare 16 (pos 5)) [] (ex.bare 17 (pos 5))
empty = inl (record { none = empty_there }, refl)

pub «end» : Step ex.flow defs (ex.config 17 (pos 5)) [] (runs.last runs.ended)
«end» = refl
