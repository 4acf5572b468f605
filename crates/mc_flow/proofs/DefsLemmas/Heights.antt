-- Heights may grow, and many heights have one above them all.
use Rattle.std.proofs.Common.{ℕ, zero, suc, ◌≤◌, ◌+◌, ℤ, List, [], ◌∷◌, inl, inr, arith}
use Rattle.mc_base.specs.declared.ids.PredId.{PredId}
use Rattle.mc_flow.specs.Heap.Heap.{Region}
use Rattle.mc_flow.specs.Heap.Parts.{Star}
use Rattle.mc_flow.proofs.HeapLemmas.Stars.{star_map, star_at_map}
use Rattle.mc_flow.specs.declared.defs.rules.Call.{Call}
use Rattle.mc_flow.specs.declared.defs.rules.Def.{Def}
use Rattle.mc_flow.specs.Defs.Meaning.{CallMeets, SegCallMeets, BodyMeets, SatAt, Sat, SegAt}
use Rattle.mc_flow.specs.Defs.Laws.{SatIsMonotone, SegIsMonotone, SatUnfolds, SatFolds}

module _ (defs : List Def) where
  pub SatAt-higher : (j k : ℕ) → j ≤ k → (p : PredId) (v : ℤ) (args : List ℤ) (h : Region) → SatAt defs j p v args h → SatAt defs k p v args h
  SatAt-higher zero k le p v args h s = absurd s
  SatAt-higher (suc j) zero le p v args h s = absurd (omega arith)
  SatAt-higher (suc j) (suc k) le p v args h s =
      let lower : j ≤ k = omega arith in
      (s.0, s.1, s.2, s.3, s.4, star_map _ _ (λ c g m. SatAt-higher j k lower _ _ _ g m) s.0.rule.calls s.2 s.5)

  pub SegAt-higher : (p : PredId) (w : ℤ) (ends : List ℤ) (j k : ℕ) → j ≤ k → (v : ℤ) (args : List ℤ) (h : Region) → SegAt defs p w ends j v args h → SegAt defs p w ends k v args h
  SegAt-higher p w ends zero zero le v args h s = s
  SegAt-higher p w ends zero (suc k) le v args h s = inl s
  SegAt-higher p w ends (suc j) zero le v args h s = absurd (omega arith)
  SegAt-higher p w ends (suc j) (suc k) le v args h s =
      let lower : j ≤ k = omega arith in
      elim s [
        | inl e ↦ inl e
        | inr b ↦ inr (
          b.0,
          b.1,
          b.2,
          b.3,
          b.4,
          b.5,
          star_at_map _ _ (SegCallMeets (SegAt defs p w ends j) p b.0.names) (SegCallMeets (SegAt defs p w ends k) p b.0.names) (λ c g m. m) (λ c g m. (m.0, SegAt-higher p w ends j k lower _ _ g m.1)) b.5 b.0.rule.calls b.2 b.6,
        )
      ]

  -- one height for all the calls
  calls_at : (names : List ℤ) (cs : List Call) (h : Region) → Star (CallMeets (Sat defs) names) cs h → (k : ℕ) × Star (CallMeets (SatAt defs k) names) cs h
  calls_at names [] h s = (0, s)
  calls_at names (c ∷ cs) h s =
      let w = calls_at names cs s.1 s.4 in
      let left : s.3.height ≤ s.3.height + w.0 = omega arith in
      let right : w.0 ≤ s.3.height + w.0 = omega arith in (
        s.3.height + w.0,
        (
          s.0,
          s.1,
          s.2,
          SatAt-higher s.3.height (s.3.height + w.0) left _ _ _ s.0 s.3.holds,
          star_map _ _ (λ c g m. SatAt-higher w.0 (s.3.height + w.0) right _ _ _ g m) cs s.1 w.1,
        ),
      )

  pub fold : (p : PredId) (v : ℤ) (args : List ℤ) (h : Region) → BodyMeets (Sat defs) defs p v args h → Sat defs p v args h
  fold p v args h b =
      let w = calls_at b.0.names b.0.rule.calls b.2 b.5 in
      record { height = suc w.0; holds = (b.0, b.1, b.2, b.3, b.4, w.1) }

  unfold_at : (k : ℕ) (p : PredId) (v : ℤ) (args : List ℤ) (h : Region) → SatAt defs k p v args h → BodyMeets (Sat defs) defs p v args h
  unfold_at zero p v args h s = absurd s
  unfold_at (suc k) p v args h s =
      (s.0, s.1, s.2, s.3, s.4, star_map _ _ (λ c g m. record { height = k; holds = m }) s.0.rule.calls s.2 s.5)

  pub body_of : (p : PredId) (v : ℤ) (args : List ℤ) (h : Region) → Sat defs p v args h → BodyMeets (Sat defs) defs p v args h
  body_of p v args h s = unfold_at s.height p v args h s.holds

pub sat_is_monotone : SatIsMonotone
sat_is_monotone defs j k p v args h le s = SatAt-higher defs j k le p v args h s

pub seg_is_monotone : SegIsMonotone
seg_is_monotone defs j k p v args w ends h le s = SegAt-higher defs p w ends j k le v args h s

pub sat_unfolds : SatUnfolds
sat_unfolds defs p v args h s = body_of defs p v args h s

pub sat_folds : SatFolds
sat_folds defs p v args h b = fold defs p v args h b
