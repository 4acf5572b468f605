-- The runs of small programs that use memory.
use Rattle.std.proofs.Common.{◌≡◌, ℕ, [], ◌∷◌, Some, None, refl, ap, inl, inr, arith, pos}
use Rattle.std.specs.FinMap as map
use Rattle.mc_base.specs.declared.plain.FaultKind.TheVariants.{Null, Freed, Uninit, BadFree, NotEmpty}
use Rattle.mc_flow.specs.Runs.{ended, fault}
use Rattle.mc_flow.specs.Heap.Choices.{malloc as choose_malloc}
use Rattle.mc_flow.specs.Heap.Heap.{Block, Region, region_of}
use Rattle.mc_flow.specs.Heap.Parts.{IsEmpty}
use Rattle.mc_semantics.specs.Examples.{at, Comes}
use Rattle.mc_semantics.specs.Worked.Programs.{keeping, reading_undefined, storing_at_null, reading_freed, freeing_twice, freeing_null, empty_at_first, not_empty, empty_again}
use Rattle.mc_semantics.proofs.WorkedLemmas.Running.{no_block, is_there, is_gone, all_gone, seen, frees, stores, new, holding, fresh, holding_in_turn}
use Rattle.mc_semantics.proofs.Examples.{arrived}

pub keeping_ends : Comes keeping 6 (choose_malloc 7 ∷ []) ended
keeping_ends =
    inr (
      _,
      _,
      (_, _, arrived 9 _ _ _ refl, ((omega arith, omega arith), no_block 7, refl)),
      inr (
        _,
        _,
        (_, _, arrived 9 _ _ _ refl, (_, refl, stores _ _ _ _ fresh 7 0 0 (pos 5) (Some new) (is_there map.empty 7 new))),
        inr (
          _,
          _,
          (_, _, arrived 9 _ _ _ refl, (_, ap (seen [] 0 0) (is_there fresh 7 (holding 5)), refl)),
          inr (
            _,
            _,
            (_, _, arrived 9 _ _ _ refl, (_, refl, (_, refl, refl))),
            inr (
              _,
              _,
              (_, _, arrived 9 _ _ _ refl, (_, refl, frees _ _ _ _ (holding_in_turn (5 ∷ [])) 7 (Some (holding 5)) (is_there fresh 7 (holding 5)))),
              inl (_, _, arrived 9 _ _ _ refl, refl),
            ),
          ),
        ),
      ),
    )

pub undefined_faults : Comes reading_undefined 2 (choose_malloc 7 ∷ []) (fault Uninit (at 3))
undefined_faults =
    inr (
      _,
      _,
      (_, _, arrived 9 _ _ _ refl, ((omega arith, omega arith), no_block 7, refl)),
      inl (_, _, arrived 9 _ _ _ refl, (_, ap (seen [] 0 0) (is_there map.empty 7 new), refl)),
    )

pub null_faults : Comes storing_at_null 2 (choose_malloc 0 ∷ []) (fault Null (at 3))
null_faults =
    inr (
      _,
      _,
      (_, _, arrived 9 _ _ _ refl, refl),
      inl (_, _, arrived 9 _ _ _ refl, (_, refl, refl)),
    )

pub reading_freed_faults : Comes reading_freed 4 (choose_malloc 7 ∷ []) (fault Freed (at 8))
reading_freed_faults =
    inr (
      _,
      _,
      (_, _, arrived 9 _ _ _ refl, ((omega arith, omega arith), no_block 7, refl)),
      inr (
        _,
        _,
        (_, _, arrived 9 _ _ _ refl, (_, refl, stores _ _ _ _ fresh 7 0 0 (pos 5) (Some new) (is_there map.empty 7 new))),
        inr (
          _,
          _,
          (_, _, arrived 9 _ _ _ refl, (_, refl, frees _ _ _ _ (holding_in_turn (5 ∷ [])) 7 (Some (holding 5)) (is_there fresh 7 (holding 5)))),
          inl (_, _, arrived 9 _ _ _ refl, (_, ap (seen [] 0 0) (is_gone (holding_in_turn (5 ∷ [])) 7), refl)),
        ),
      ),
    )

pub freeing_twice_faults : Comes freeing_twice 3 (choose_malloc 7 ∷ []) (fault BadFree (at 5))
freeing_twice_faults =
    inr (
      _,
      _,
      (_, _, arrived 9 _ _ _ refl, ((omega arith, omega arith), no_block 7, refl)),
      inr (
        _,
        _,
        (_, _, arrived 9 _ _ _ refl, (_, refl, frees _ _ _ _ (fresh) 7 (Some new) (is_there map.empty 7 new))),
        inl (_, _, arrived 9 _ _ _ refl, (_, refl, frees _ _ _ _ (map.remove fresh 7) 7 None (is_gone fresh 7))),
      ),
    )

pub freeing_null_ends : Comes freeing_null 2 [] ended
freeing_null_ends =
    inr (
      _,
      _,
      (_, _, arrived 9 _ _ _ refl, (_, refl, refl)),
      inl (_, _, arrived 9 _ _ _ refl, refl),
    )

-- a region with a block is not empty
not_nothing : (region : Region) (at : ℕ) (b : Block) → Some b ≡ region at → ¬ IsEmpty region
not_nothing region at b there empty = let none = empty.none at in absurd (cc (there, none))

pub empty_at_first_ends : Comes empty_at_first 2 [] ended
empty_at_first_ends =
    inr (
      _,
      _,
      (_, _, arrived 9 _ _ _ refl, inl (record { none = no_block }, refl)),
      inl (_, _, arrived 9 _ _ _ refl, refl),
    )

pub not_empty_faults : Comes not_empty 2 (choose_malloc 7 ∷ []) (fault NotEmpty (at 3))
not_empty_faults =
    inr (
      _,
      _,
      (_, _, arrived 9 _ _ _ refl, ((omega arith, omega arith), no_block 7, refl)),
      inl (_, _, arrived 9 _ _ _ refl, inr (not_nothing (region_of fresh) 7 new (is_there map.empty 7 new), refl)),
    )

pub empty_again_ends : Comes empty_again 4 (choose_malloc 7 ∷ []) ended
empty_again_ends =
    inr (
      _,
      _,
      (_, _, arrived 9 _ _ _ refl, ((omega arith, omega arith), no_block 7, refl)),
      inr (
        _,
        _,
        (_, _, arrived 9 _ _ _ refl, (_, refl, frees _ _ _ _ (fresh) 7 (Some new) (is_there map.empty 7 new))),
        inr (
          _,
          _,
          (_, _, arrived 9 _ _ _ refl, inl (record { none = all_gone 7 new }, refl)),
          inl (_, _, arrived 9 _ _ _ refl, refl),
        ),
      ),
    )
