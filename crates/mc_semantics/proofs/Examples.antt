-- The runs of small programs.
use Rattle.std.proofs.Common.{◌≡◌, ℕ, zero, suc, [], ◌∷◌, Option, Some, None, refl, inl, inr}
use Rattle.mc_base.specs.declared.plain.FaultKind.TheVariants.{Null, Uninit, Assertion}
use Rattle.std.proofs.Common.{arith, pos, ◌≤◌}
use Rattle.std.proofs.lemmas.Int.{ints}
use Rattle.mc_base.specs.declared.plain.Kind.TheVariants.{Int}
use Rattle.mc_base.specs.Kinds.{InKind}
use Rattle.mc_flow.specs.Heap.Choices.{input as choose_input, malloc as choose_malloc}
use Rattle.mc_flow.specs.Runs.{ended, stopped, fault}
use Rattle.mc_c_types.specs.Tables.{Tables}
use Rattle.mc_semantics.specs.Configs.{Values, Tasks}
use Rattle.mc_semantics.specs.Moves.{moved, Arrives, here, there}
use Rattle.mc_semantics.specs.Examples.{at, Comes, assigning, undefined_value, choosing, stopping_early, assuming, whiling, doing, turning, calling, reading_first}

abbrev pub ahead : (Values → Tasks → Values × Tasks) → Values → Tasks → Option (Values × Tasks) → Values × Tasks
ahead go v ts None = (v, ts)
ahead go v ts (Some next) = go next.0 next.1

-- where so many moves lead at most
abbrev pub led : ℕ → Tables → Values → Tasks → Values × Tasks
led zero t v ts = (v, ts)
led (suc n) t v ts = ahead (λ w us. led n t w us) v ts (moved t v ts)

pub arrived_on : (t : Tables) (go : Values → Tasks → Values × Tasks) → ((v : Values) (ts : Tasks) → moved t (go v ts).0 (go v ts).1 ≡ None → Arrives t v ts (go v ts).0 (go v ts).1) → (v : Values) (ts : Tasks) (o : Option (Values × Tasks)) → moved t v ts ≡ o → moved t (ahead go v ts o).0 (ahead go v ts o).1 ≡ None → Arrives t v ts (ahead go v ts o).0 (ahead go v ts o).1
arrived_on t go far v ts None e none = here e
arrived_on t go far v ts (Some next) e none = there e (far next.0 next.1 none)

pub arrived : (n : ℕ) (t : Tables) (v : Values) (ts : Tasks) → moved t (led n t v ts).0 (led n t v ts).1 ≡ None → Arrives t v ts (led n t v ts).0 (led n t v ts).1
arrived zero t v ts none = here none
arrived (suc n) t v ts none = arrived_on t (λ w us. led n t w us) (λ w us more. arrived n t w us more) v ts (moved t v ts) refl none

in_int : (n : ℕ) → n ≤ 2147483647 → InKind Int (pos n)
in_int n small = (omega (arith, ints), omega (arith, ints))

pub assigning_ends : Comes assigning 4 [] ended
assigning_ends =
    inr (
      _,
      _,
      (_, _, arrived 9 _ _ _ refl, (_, refl, refl)),
      inr (
        _,
        _,
        (_, _, arrived 9 _ _ _ refl, (_, refl, refl)),
        inr (
          _,
          _,
          (_, _, arrived 9 _ _ _ refl, (_, refl, refl)),
          inl (_, _, arrived 9 _ _ _ refl, refl),
        ),
      ),
    )

pub undefined_faults : Comes undefined_value 2 [] (fault Uninit (at 2))
undefined_faults =
    inr (
      _,
      _,
      (_, _, arrived 9 _ _ _ refl, refl),
      inl (_, _, arrived 9 _ _ _ refl, (_, refl, refl)),
    )

pub choosing_small : Comes choosing 6 (choose_input (pos 4) ∷ []) (fault Assertion (at 19))
choosing_small =
    inr (
      _,
      _,
      (_, _, arrived 9 _ _ _ refl, (_, (in_int 4 (omega arith), refl), refl)),
      inr (
        _,
        _,
        (_, _, arrived 9 _ _ _ refl, (_, refl, (_, refl, refl))),
        inr (
          _,
          _,
          (_, _, arrived 9 _ _ _ refl, (_, refl, refl)),
          inr (
            _,
            _,
            (_, _, arrived 9 _ _ _ refl, (_, refl, (_, refl, refl))),
            inr (
              _,
              _,
              (_, _, arrived 9 _ _ _ refl, (_, refl, refl)),
              inl (_, _, arrived 9 _ _ _ refl, (_, refl, (_, refl, refl))),
            ),
          ),
        ),
      ),
    )

pub choosing_large : Comes choosing 7 (choose_input (pos 6) ∷ []) ended
choosing_large =
    inr (
      _,
      _,
      (_, _, arrived 9 _ _ _ refl, (_, (in_int 6 (omega arith), refl), refl)),
      inr (
        _,
        _,
        (_, _, arrived 9 _ _ _ refl, (_, refl, (_, refl, refl))),
        inr (
          _,
          _,
          (_, _, arrived 9 _ _ _ refl, (_, refl, (_, refl, refl))),
          inr (
            _,
            _,
            (_, _, arrived 9 _ _ _ refl, (_, refl, refl)),
            inr (
              _,
              _,
              (_, _, arrived 9 _ _ _ refl, (_, refl, (_, refl, refl))),
              inr (
                _,
                _,
                (_, _, arrived 9 _ _ _ refl, (_, refl, (_, refl, refl))),
                inl (_, _, arrived 9 _ _ _ refl, refl),
              ),
            ),
          ),
        ),
      ),
    )

pub stopping_early_faults : Comes stopping_early 4 [] (fault Uninit (at 12))
stopping_early_faults =
    inr (
      _,
      _,
      (_, _, arrived 9 _ _ _ refl, refl),
      inr (
        _,
        _,
        (_, _, arrived 9 _ _ _ refl, (_, refl, refl)),
        inr (
          _,
          _,
          (_, _, arrived 9 _ _ _ refl, (_, refl, refl)),
          inl (_, _, arrived 9 _ _ _ refl, (_, refl, refl)),
        ),
      ),
    )

pub assuming_stops : Comes assuming 1 [] stopped
assuming_stops =
    inl (_, _, arrived 9 _ _ _ refl, (_, refl, (_, refl, refl)))

pub whiling_ends : Comes whiling 7 [] ended
whiling_ends =
    inr (
      _,
      _,
      (_, _, arrived 9 _ _ _ refl, (_, refl, refl)),
      inr (
        _,
        _,
        (_, _, arrived 9 _ _ _ refl, (_, refl, (_, refl, refl))),
        inr (
          _,
          _,
          (_, _, arrived 9 _ _ _ refl, (_, refl, (_, refl, refl))),
          inr (
            _,
            _,
            (_, _, arrived 9 _ _ _ refl, (_, refl, refl)),
            inr (
              _,
              _,
              (_, _, arrived 9 _ _ _ refl, (_, refl, (_, refl, refl))),
              inr (
                _,
                _,
                (_, _, arrived 9 _ _ _ refl, (_, refl, (_, refl, refl))),
                inl (_, _, arrived 9 _ _ _ refl, refl),
              ),
            ),
          ),
        ),
      ),
    )

pub doing_ends : Comes doing 2 [] ended
doing_ends =
    inr (
      _,
      _,
      (_, _, arrived 9 _ _ _ refl, (_, refl, refl)),
      inl (_, _, arrived 9 _ _ _ refl, refl),
    )

pub turning_ends : Comes turning 7 [] ended
turning_ends =
    inr (
      _,
      _,
      (_, _, arrived 9 _ _ _ refl, (_, refl, refl)),
      inr (
        _,
        _,
        (_, _, arrived 9 _ _ _ refl, (_, refl, refl)),
        inr (
          _,
          _,
          (_, _, arrived 9 _ _ _ refl, refl),
          inr (
            _,
            _,
            (_, _, arrived 9 _ _ _ refl, (_, refl, refl)),
            inr (
              _,
              _,
              (_, _, arrived 9 _ _ _ refl, (_, refl, refl)),
              inr (
                _,
                _,
                (_, _, arrived 9 _ _ _ refl, refl),
                inl (_, _, arrived 9 _ _ _ refl, refl),
              ),
            ),
          ),
        ),
      ),
    )

pub calling_ends : Comes calling 13 [] ended
calling_ends =
    inr (
      _,
      _,
      (_, _, arrived 9 _ _ _ refl, (_, (_, refl, (_, refl, refl)), refl)),
      inr (
        _,
        _,
        (_, _, arrived 9 _ _ _ refl, (_, refl, refl)),
        inr (
          _,
          _,
          (_, _, arrived 9 _ _ _ refl, (_, refl, refl)),
          inr (
            _,
            _,
            (_, _, arrived 9 _ _ _ refl, refl),
            inr (
              _,
              _,
              (_, _, arrived 9 _ _ _ refl, (_, (_, refl, (_, refl, refl)), refl)),
              inr (
                _,
                _,
                (_, _, arrived 9 _ _ _ refl, (_, refl, refl)),
                inr (
                  _,
                  _,
                  (_, _, arrived 9 _ _ _ refl, (_, refl, refl)),
                  inr (
                    _,
                    _,
                    (_, _, arrived 9 _ _ _ refl, (_, refl, (_, refl, refl))),
                    inr (
                      _,
                      _,
                      (_, _, arrived 9 _ _ _ refl, (_, (_, refl, (_, refl, refl)), refl)),
                      inr (
                        _,
                        _,
                        (_, _, arrived 9 _ _ _ refl, (_, refl, refl)),
                        inr (
                          _,
                          _,
                          (_, _, arrived 9 _ _ _ refl, (_, refl, refl)),
                          inr (
                            _,
                            _,
                            (_, _, arrived 9 _ _ _ refl, refl),
                            inl (_, _, arrived 9 _ _ _ refl, refl),
                          ),
                        ),
                      ),
                    ),
                  ),
                ),
              ),
            ),
          ),
        ),
      ),
    )

pub reading_first_faults : Comes reading_first 3 (choose_malloc 0 ∷ []) (fault Null (at 4))
reading_first_faults =
    inr (
      _,
      _,
      (_, _, arrived 9 _ _ _ refl, refl),
      inr (
        _,
        _,
        (_, _, arrived 9 _ _ _ refl, refl),
        inl (_, _, arrived 9 _ _ _ refl, (_, (_, refl, (_, refl, refl)), refl)),
      ),
    )
