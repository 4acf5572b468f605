use Rattle.std.proofs.Common.{◌≡◌, ℕ, zero, suc, List, [], ◌∷◌, ap, arith, refl}
use Rattle.std.specs.Prelude.{All, Contains}
use Rattle.std.proofs.lemmas.List.Elements.{All-cons, All-nil}
use Rattle.mc_base.specs.declared.ids.PointId.{PointId}
use Rattle.mc_find.specs.Analysis.Examples.{point}
use Rattle.mc_find.proofs.analysis.examples.example_cuts.Goals as goal

-- the first of some points, and the second
first : (p : PointId) (more : List PointId) → Contains (p ∷ more) p
first p more = (0, omega arith, refl)

second : (p q : PointId) → Contains (q ∷ p ∷ []) p
second p q = (1, omega arith, refl)

one : (cuts : List PointId) (p : PointId) → Contains cuts p → All (Contains cuts) (p ∷ [])
one cuts p there = All-cons (Contains cuts) p [] there (All-nil (Contains cuts))

-- the only point is no other one
another : (n m : ℕ) → (n ≡ m → ⊥) → Contains (point n ∷ []) (point m) → ⊥
another n m differ (zero, within, e) = differ (ap (λ (p : PointId). p.0) e)
another n m differ (suc k, within, e) = absurd (omega (arith, within))

pub returns-clause-head : goal.returns-clause-head
returns-clause-head c = record { heads = one (point 1 ∷ []) (point 1) (first (point 1) []); merges = λ yes. absurd (cc yes) }

pub returns-clause-more : goal.returns-clause-more
returns-clause-more c = record { heads = one (point 1 ∷ point 2 ∷ []) (point 1) (first (point 1) (point 2 ∷ [])); merges = λ yes. absurd (cc yes) }

pub returns-clause-no_head : goal.returns-clause-no_head
returns-clause-no_head c = λ has. another 3 1 (λ e. absurd (omega (arith, e))) (has.heads 0 (point 1) (omega arith))

pub returns-clause-merged : goal.returns-clause-merged
returns-clause-merged c = record { heads = one (point 1 ∷ point 3 ∷ []) (point 1) (first (point 1) (point 3 ∷ [])); merges = λ yes. one (point 1 ∷ point 3 ∷ []) (point 3) (second (point 3) (point 1)) }

pub returns-clause-not_merged : goal.returns-clause-not_merged
returns-clause-not_merged c = λ has. another 1 3 (λ e. absurd (omega (arith, e))) (has.merges refl 0 (point 3) (omega arith))

pub returns-clause-none : goal.returns-clause-none
returns-clause-none c = record { heads = All-nil _; merges = λ yes. absurd (cc yes) }
