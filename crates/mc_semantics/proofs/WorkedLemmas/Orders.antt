-- The runs of small programs with two blocks, and with values that are taken one before the other.
use Rattle.std.proofs.Common.{◌≡◌, ◌∙◌, ℕ, ℤ, List, [], ◌∷◌, Option, Some, None, refl, ap, inl, inr, arith, pos}
use Rattle.std.specs.Prelude.{◌==◌, if◌then◌else◌}
use Rattle.std.specs.FinMap as map
use Rattle.std.specs.FinMap.{gets}
use Rattle.std.proofs.lemmas.Bool.Decides.{nat_tests}
use Rattle.mc_base.specs.declared.plain.FaultKind.TheVariants.{Null, Uninit}
use Rattle.mc_base.specs.declared.text.place.Place.{Place}
use Rattle.mc_flow.specs.Runs.{ended, fault}
use Rattle.mc_flow.specs.Heap.Access.{field_at, with_field}
use Rattle.mc_flow.specs.Heap.Choices.{Choice, malloc as choose_malloc}
use Rattle.mc_flow.specs.Heap.Heap.{Block, Heap, region_of}
use Rattle.mc_flow.specs.Values.{address}
use Rattle.mc_semantics.specs.Configs.{Values, Tasks}
use Rattle.mc_semantics.specs.Examples.{at, Comes}
use Rattle.mc_semantics.specs.Steps.{after}
use Rattle.mc_semantics.specs.Values.{Evaluated, evaluated, Found, faulty, found, after_found, read, Changed, fault_in, behind_base}
use Rattle.mc_semantics.specs.Worked.Orders.{linking, result_in_field, storing_undefined, storing_behind, adding_undefined, assuming_undefined, asserting_undefined}
use Rattle.mc_semantics.specs.Worked.Programs.{ComesWithLists}
use Rattle.mc_semantics.specs.Worked.Turns.{asserting_of_undefined}
use Rattle.mc_semantics.proofs.WorkedLemmas.Running.{no_block, is_there, seen, frees, stores, put_in, new, holding, fresh}
use Rattle.mc_semantics.proofs.Examples.{arrived}

-- ---- a node at 7 whose next one is at 9
abbrev linked : Block
linked = with_field new 1 (pos 9)

abbrev both : Heap
both = map.insert fresh 9 new

abbrev joined : Heap
joined = map.insert both 7 linked

abbrev filled : Heap
filled = map.insert joined 9 (holding 3)

free_at_nine : region_of fresh 9 ≡ None
free_at_nine = grind (arith, gets, nat_tests)

seven_of_both : Some new ≡ region_of both 7
seven_of_both = grind (arith, gets, nat_tests)

nine_of_joined : Some new ≡ region_of joined 9
nine_of_joined = grind (arith, gets, nat_tests)

seven_of_filled : Some linked ≡ region_of filled 7
seven_of_filled = grind (arith, gets, nat_tests)

-- what comes of reading `data` after `next` of what is at an address
abbrev seen_behind : List Choice → Heap → Option Block → Evaluated
seen_behind choices heap o = evaluated (after_found (read (field_at o 0 1)) (λ w. after_found (look w) (λ v. found v))) choices
  where
    look : Option ℤ → Found
    look None = faulty Uninit
    look (Some p) = if address p == 0 then faulty Null else read (field_at (region_of heap (address p)) 0 0)

-- what comes of writing `data` there
abbrev put_behind : Values → Heap → ℤ → Option Block → Changed
put_behind values heap v o = behind_base (read (field_at o 0 1)) (λ w. put w)
  where
    put : Option ℤ → Changed
    put None = fault_in Uninit
    put (Some p) = if address p == 0 then fault_in Null else put_in values heap (address p) 0 0 v (region_of heap (address p))

follows : (tasks : Tasks) (place : Place) (choices : List Choice) (values : Values) (heap : Heap) (at : ℕ) (v : ℤ) (o : Option Block) → o ≡ region_of heap at → after tasks place choices (put_behind values heap v o) ≡ after tasks place choices (put_behind values heap v (region_of heap at))
follows tasks place choices values heap at v o e = ap (λ x. after tasks place choices (put_behind values heap v x)) e

pub linking_ends : Comes linking 7 (choose_malloc 7 ∷ choose_malloc 9 ∷ []) ended
linking_ends =
    inr (
      _,
      _,
      (_, _, arrived 9 _ _ _ refl, ((omega arith, omega arith), no_block 7, refl)),
      inr (
        _,
        _,
        (_, _, arrived 9 _ _ _ refl, ((omega arith, omega arith), free_at_nine, stores _ _ _ _ both 7 0 1 (pos 9) (Some new) seven_of_both)),
        inr (
          _,
          _,
          (_, _, arrived 9 _ _ _ refl, (_, refl, stores _ _ _ _ joined 9 0 0 (pos 3) (Some new) nine_of_joined ∙ follows _ _ _ _ joined 7 (pos 3) (Some linked) (is_there both 7 linked))),
          inr (
            _,
            _,
            (_, _, arrived 9 _ _ _ refl, (_, ap (seen [] 0 0) (is_there joined 9 (holding 3)) ∙ ap (seen_behind [] filled) seven_of_filled, (_, refl, refl))),
            inr (
              _,
              _,
              (_, _, arrived 9 _ _ _ refl, (_, ap (seen [] 0 1) seven_of_filled, refl)),
              inr (
                _,
                _,
                (_, _, arrived 9 _ _ _ refl, (_, refl, frees _ _ _ _ filled 9 (Some (holding 3)) (is_there joined 9 (holding 3)))),
                inl (_, _, arrived 9 _ _ _ refl, refl),
              ),
            ),
          ),
        ),
      ),
    )

pub result_in_field_ends : Comes result_in_field 7 (choose_malloc 7 ∷ []) ended
result_in_field_ends =
    inr (
      _,
      _,
      (_, _, arrived 9 _ _ _ refl, ((omega arith, omega arith), no_block 7, refl)),
      inr (
        _,
        _,
        (_, _, arrived 9 _ _ _ refl, (_, (_, refl, (_, refl, refl)), refl)),
        inr (
          _,
          _,
          (_, _, arrived 9 _ _ _ refl, (_, refl, refl)),
          inr (
            _,
            _,
            (_, _, arrived 9 _ _ _ refl, (_, refl, refl)),
            inr (
              _,
              _,
              (_, _, arrived 9 _ _ _ refl, stores _ _ _ _ fresh 7 0 0 (pos 2) (Some new) (is_there map.empty 7 new)),
              inr (
                _,
                _,
                (_, _, arrived 9 _ _ _ refl, (_, ap (seen [] 0 0) (is_there fresh 7 (holding 2)), (_, refl, refl))),
                inl (_, _, arrived 9 _ _ _ refl, refl),
              ),
            ),
          ),
        ),
      ),
    )

-- ---- what is taken first
pub storing_undefined_faults : Comes storing_undefined 3 (choose_malloc 0 ∷ []) (fault Uninit (at 4))
storing_undefined_faults =
    inr (
      _,
      _,
      (_, _, arrived 9 _ _ _ refl, refl),
      inr (
        _,
        _,
        (_, _, arrived 9 _ _ _ refl, refl),
        inl (_, _, arrived 9 _ _ _ refl, (_, refl, refl)),
      ),
    )

pub storing_behind_faults : Comes storing_behind 3 (choose_malloc 0 ∷ []) (fault Null (at 4))
storing_behind_faults =
    inr (
      _,
      _,
      (_, _, arrived 9 _ _ _ refl, refl),
      inr (
        _,
        _,
        (_, _, arrived 9 _ _ _ refl, refl),
        inl (_, _, arrived 9 _ _ _ refl, (_, refl, refl)),
      ),
    )

pub adding_undefined_faults : Comes adding_undefined 3 (choose_malloc 0 ∷ []) (fault Null (at 4))
adding_undefined_faults =
    inr (
      _,
      _,
      (_, _, arrived 9 _ _ _ refl, refl),
      inr (
        _,
        _,
        (_, _, arrived 9 _ _ _ refl, refl),
        inl (_, _, arrived 9 _ _ _ refl, (_, refl, refl)),
      ),
    )

pub assuming_undefined_faults : ComesWithLists assuming_undefined 3 [] (fault Uninit (at 3))
assuming_undefined_faults =
    inr (
      _,
      _,
      (_, _, arrived 9 _ _ _ refl, refl),
      inr (
        _,
        _,
        (_, _, arrived 9 _ _ _ refl, refl),
        inl (_, _, arrived 9 _ _ _ refl, refl),
      ),
    )

pub asserting_undefined_faults : ComesWithLists asserting_undefined 2 [] (fault Uninit (at 2))
asserting_undefined_faults =
    inr (
      _,
      _,
      (_, _, arrived 9 _ _ _ refl, refl),
      inl (_, _, arrived 9 _ _ _ refl, refl),
    )

pub asserting_of_undefined_faults : ComesWithLists asserting_of_undefined 3 [] (fault Uninit (at 43))
asserting_of_undefined_faults =
    inr (
      _,
      _,
      (_, _, arrived 9 _ _ _ refl, (_, refl, refl)),
      inr (
        _,
        _,
        (_, _, arrived 9 _ _ _ refl, refl),
        inl (_, _, arrived 9 _ _ _ refl, refl),
      ),
    )
