-- The runs of small programs that leave blocks.
use Rattle.std.proofs.Common.{[], refl, inl, inr}
use Rattle.std.specs.Int.{int_wrap}
use Rattle.mc_base.specs.declared.plain.FaultKind.TheVariants.{Uninit}
use Rattle.mc_flow.specs.Runs.{ended, fault}
use Rattle.mc_semantics.specs.Examples.{at, Comes}
use Rattle.mc_semantics.specs.Worked.Programs.{forgetting, going_on, deeply_returning, missing_result, ComesWithDeep}
use Rattle.mc_semantics.proofs.Examples.{arrived}

pub forgetting_faults : Comes forgetting 11 [] (fault Uninit (at 13))
unfolding int_wrap
forgetting_faults =
    inr (
      _,
      _,
      (_, _, arrived 9 _ _ _ refl, (_, refl, refl)),
      inr (
        _,
        _,
        (_, _, arrived 9 _ _ _ refl, (_, refl, (_, refl, refl))),
        inr (
          _,
          _,
          (_, _, arrived 9 _ _ _ refl, refl),
          inr (
            _,
            _,
            (_, _, arrived 9 _ _ _ refl, (_, refl, (_, refl, refl))),
            inr (
              _,
              _,
              (_, _, arrived 9 _ _ _ refl, (_, refl, refl)),
              inr (
                _,
                _,
                (_, _, arrived 9 _ _ _ refl, (_, refl, (_, refl, refl))),
                inr (
                  _,
                  _,
                  (_, _, arrived 9 _ _ _ refl, refl),
                  inr (
                    _,
                    _,
                    (_, _, arrived 9 _ _ _ refl, (_, refl, (_, refl, refl))),
                    inr (
                      _,
                      _,
                      (_, _, arrived 9 _ _ _ refl, refl),
                      inr (
                        _,
                        _,
                        (_, _, arrived 9 _ _ _ refl, (_, refl, (_, refl, refl))),
                        inl (_, _, arrived 9 _ _ _ refl, (_, refl, (_, refl, refl))),
                      ),
                    ),
                  ),
                ),
              ),
            ),
          ),
        ),
      ),
    )

pub returning_ends : ComesWithDeep deeply_returning 10 [] ended
unfolding int_wrap
returning_ends =
    inr (
      _,
      _,
      (_, _, arrived 9 _ _ _ refl, (_, refl, refl)),
      inr (
        _,
        _,
        (_, _, arrived 9 _ _ _ refl, (_, (_, refl, (_, refl, refl)), refl)),
        inr (
          _,
          _,
          (_, _, arrived 9 _ _ _ refl, (_, refl, refl)),
          inr (
            _,
            _,
            (_, _, arrived 9 _ _ _ refl, (_, refl, refl)),
            inr (
              _,
              _,
              (_, _, arrived 9 _ _ _ refl, (_, refl, refl)),
              inr (
                _,
                _,
                (_, _, arrived 9 _ _ _ refl, (_, (_, refl, (_, refl, refl)), refl)),
                inr (
                  _,
                  _,
                  (_, _, arrived 9 _ _ _ refl, refl),
                  inr (
                    _,
                    _,
                    (_, _, arrived 9 _ _ _ refl, (_, refl, (_, refl, refl))),
                    inr (
                      _,
                      _,
                      (_, _, arrived 9 _ _ _ refl, (_, refl, (_, refl, refl))),
                      inl (_, _, arrived 9 _ _ _ refl, refl),
                    ),
                  ),
                ),
              ),
            ),
          ),
        ),
      ),
    )

pub going_on_ends : Comes going_on 9 [] ended
unfolding int_wrap
going_on_ends =
    inr (
      _,
      _,
      (_, _, arrived 9 _ _ _ refl, refl),
      inr (
        _,
        _,
        (_, _, arrived 9 _ _ _ refl, (_, refl, refl)),
        inr (
          _,
          _,
          (_, _, arrived 9 _ _ _ refl, (_, refl, (_, refl, refl))),
          inr (
            _,
            _,
            (_, _, arrived 9 _ _ _ refl, (_, refl, (_, refl, refl))),
            inr (
              _,
              _,
              (_, _, arrived 9 _ _ _ refl, refl),
              inr (
                _,
                _,
                (_, _, arrived 9 _ _ _ refl, (_, refl, (_, refl, refl))),
                inr (
                  _,
                  _,
                  (_, _, arrived 9 _ _ _ refl, (_, refl, (_, refl, refl))),
                  inr (
                    _,
                    _,
                    (_, _, arrived 9 _ _ _ refl, (_, refl, (_, refl, refl))),
                    inl (_, _, arrived 9 _ _ _ refl, refl),
                  ),
                ),
              ),
            ),
          ),
        ),
      ),
    )

pub missing_result_faults : ComesWithDeep missing_result 5 [] (fault Uninit (at 3))
missing_result_faults =
    inr (
      _,
      _,
      (_, _, arrived 9 _ _ _ refl, (_, (_, refl, (_, refl, refl)), refl)),
      inr (
        _,
        _,
        (_, _, arrived 9 _ _ _ refl, (_, refl, refl)),
        inr (
          _,
          _,
          (_, _, arrived 9 _ _ _ refl, (_, (_, refl, (_, refl, refl)), refl)),
          inr (
            _,
            _,
            (_, _, arrived 9 _ _ _ refl, (_, refl, refl)),
            inl (_, _, arrived 9 _ _ _ refl, refl),
          ),
        ),
      ),
    )
