-- The runs of small programs that count and compute.
use Rattle.std.proofs.Common.{[], ◌∷◌, Some, refl, ap, inl, inr, arith, pos, ◌+ℤ◌, ◌-ℤ◌}
use Rattle.std.specs.FinMap as map
use Rattle.std.specs.Int.{int_wrap}
use Rattle.mc_flow.specs.Runs.{ended}
use Rattle.mc_flow.specs.Heap.Choices.{malloc as choose_malloc}
use Rattle.mc_semantics.specs.Examples.{Comes}
use Rattle.mc_semantics.specs.Worked.Programs.{counting, wrapping, computing}
use Rattle.mc_semantics.proofs.WorkedLemmas.Running.{no_block, is_there, seen, stores, combines, new, holding, fresh, holding_in_turn}
use Rattle.mc_semantics.proofs.Examples.{arrived}

pub counting_ends : Comes counting 10 (choose_malloc 7 ∷ []) ended
unfolding int_wrap
counting_ends =
    inr (
      _,
      _,
      (_, _, arrived 9 _ _ _ refl, ((omega arith, omega arith), no_block 7, refl)),
      inr (
        _,
        _,
        (_, _, arrived 9 _ _ _ refl, (_, refl, stores _ _ _ _ fresh 7 0 0 (pos 5) (Some new) (is_there map.empty 7 new))),
        inr (
          _,
          _,
          (_, _, arrived 9 _ _ _ refl, (_, refl, combines _ _ _ _ (holding_in_turn (5 ∷ [])) 7 (λ a b. a +ℤ b) 0 0 (pos 3) (Some (holding 5)) (is_there fresh 7 (holding 5)))),
          inr (
            _,
            _,
            (_, _, arrived 9 _ _ _ refl, combines _ _ _ _ (holding_in_turn (8 ∷ 5 ∷ [])) 7 (λ a b. a +ℤ b) 0 0 (pos 1) (Some (holding 8)) (is_there (holding_in_turn (5 ∷ [])) 7 (holding 8))),
            inr (
              _,
              _,
              (_, _, arrived 9 _ _ _ refl, combines _ _ _ _ (holding_in_turn (9 ∷ 8 ∷ 5 ∷ [])) 7 (λ a b. a +ℤ b) 0 0 (pos 1) (Some (holding 9)) (is_there (holding_in_turn (8 ∷ 5 ∷ [])) 7 (holding 9))),
              inr (
                _,
                _,
                (_, _, arrived 9 _ _ _ refl, (_, refl, combines _ _ _ _ (holding_in_turn (10 ∷ 9 ∷ 8 ∷ 5 ∷ [])) 7 (λ a b. a -ℤ b) 0 0 (pos 1) (Some (holding 10)) (is_there (holding_in_turn (9 ∷ 8 ∷ 5 ∷ [])) 7 (holding 10)))),
                inr (
                  _,
                  _,
                  (_, _, arrived 9 _ _ _ refl, combines _ _ _ _ (holding_in_turn (9 ∷ 10 ∷ 9 ∷ 8 ∷ 5 ∷ [])) 7 (λ a b. a -ℤ b) 0 0 (pos 1) (Some (holding 9)) (is_there (holding_in_turn (10 ∷ 9 ∷ 8 ∷ 5 ∷ [])) 7 (holding 9))),
                  inr (
                    _,
                    _,
                    (_, _, arrived 9 _ _ _ refl, combines _ _ _ _ (holding_in_turn (8 ∷ 9 ∷ 10 ∷ 9 ∷ 8 ∷ 5 ∷ [])) 7 (λ a b. a -ℤ b) 0 0 (pos 1) (Some (holding 8)) (is_there (holding_in_turn (9 ∷ 10 ∷ 9 ∷ 8 ∷ 5 ∷ [])) 7 (holding 8))),
                    inr (
                      _,
                      _,
                      (_, _, arrived 9 _ _ _ refl, (_, ap (seen [] 0 0) (is_there (holding_in_turn (8 ∷ 9 ∷ 10 ∷ 9 ∷ 8 ∷ 5 ∷ [])) 7 (holding 7)), (_, refl, refl))),
                      inl (_, _, arrived 9 _ _ _ refl, refl),
                    ),
                  ),
                ),
              ),
            ),
          ),
        ),
      ),
    )

pub wrapping_ends : Comes wrapping 6 [] ended
unfolding int_wrap
wrapping_ends =
    inr (
      _,
      _,
      (_, _, arrived 9 _ _ _ refl, (_, refl, refl)),
      inr (
        _,
        _,
        (_, _, arrived 9 _ _ _ refl, (_, (_, refl, (_, refl, refl)), refl)),
        inr (
          _,
          _,
          (_, _, arrived 9 _ _ _ refl, (_, refl, (_, (_, (_, refl, refl), (_, refl, refl)), refl))),
          inr (
            _,
            _,
            (_, _, arrived 9 _ _ _ refl, (_, (_, refl, (_, refl, refl)), refl)),
            inr (
              _,
              _,
              (_, _, arrived 9 _ _ _ refl, (_, refl, (_, refl, refl))),
              inl (_, _, arrived 9 _ _ _ refl, refl),
            ),
          ),
        ),
      ),
    )

pub computing_ends : Comes computing 3 [] ended
unfolding int_wrap
computing_ends =
    inr (
      _,
      _,
      (_, _, arrived 9 _ _ _ refl, (_, (_, (_, refl, (_, refl, refl)), (_, (_, refl, refl), refl)), refl)),
      inr (
        _,
        _,
        (_, _, arrived 9 _ _ _ refl, (_, refl, (_, (_, refl, refl), refl))),
        inl (_, _, arrived 9 _ _ _ refl, refl),
      ),
    )
