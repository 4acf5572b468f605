-- The small flow graph is valid.
use Rattle.std.proofs.Common.{◌≡◌, ◌+◌, ◌<◌, ℕ, zero, suc, List, [], ◌∷◌, Some, slice_get, drop, refl, sym, subst, arith, inl}
use Rattle.std.specs.Prelude.{All}
use Rattle.std.proofs.lemmas.Int.{ints}
use Rattle.mc_base.specs.declared.ids.VarId.{VarId}
use Rattle.mc_base.specs.declared.plain.Kind.TheVariants.{Int, Ptr}
use Rattle.mc_flow.specs.Defs.Conditions.{DefsFit}
use Rattle.mc_flow.specs.Defs.Examples.{structs, defs, list_def, lenlist_def}
use Rattle.mc_flow.specs.declared.graph.Point.{Point}
use Rattle.mc_flow.specs.declared.instr.Instr.{Instr}
use Rattle.mc_flow.specs.Valid.{IsValid, PointFits, FitsKinds, GoesOn, targets}
use Rattle.mc_rules_steps.specs.Examples as ex

pub all_none : {X : Type 0} (P : X → Type 0) → All P []
all_none P k d lt = absurd (let less : k < 0 = lt in omega arith)

pub all_one : {X : Type 0} (P : X → Type 0) (x : X) → P x → All P (x ∷ [])
all_one P x h zero d lt = h
all_one P x h (suc k) d lt = absurd (let less : suc k < 1 = lt in omega arith)

pub all_two : {X : Type 0} (P : X → Type 0) (x y : X) → P x → P y → All P (x ∷ y ∷ [])
all_two P x y h g zero d lt = h
all_two P x y h g (suc zero) d lt = g
all_two P x y h g (suc (suc k)) d lt = absurd (let less : suc (suc k) < 2 = lt in omega arith)

-- the points of a list fit from a number on
abbrev FitFrom : ℕ → List Point → Type 0
FitFrom n [] = Unit {0}
FitFrom n (p ∷ ps) = PointFits ex.flow defs n p × FitFrom (suc n) ps

fit_at : (ps : List Point) (n p : ℕ) (point : Point) → FitFrom n ps → slice_get ps p ≡ Some point → PointFits ex.flow defs (n + p) point
fit_at [] n p point f e = cc
fit_at (q ∷ ps) n zero point f e =
    let same : q ≡ point = cc in
    let here : n ≡ n + 0 = omega arith in
    subst (λ (m : ℕ). PointFits ex.flow defs m point) here (subst (PointFits ex.flow defs n) same f.0)
fit_at (q ∷ ps) n (suc p) point f e =
    let sum : suc n + p ≡ n + suc p = omega arith in
    subst (λ (m : ℕ). PointFits ex.flow defs m point) sum (fit_at ps (suc n) p point f.1 e)

goes : (p q : ℕ) → p < q → q < 23 → GoesOn ex.flow p (ex.at q)
goes p q lt less = (less, inl lt)

-- a point that goes on to one other
to_one : (n q : ℕ) (code : Instr) → targets code ≡ ex.at q ∷ [] → n < q → q < 23 → FitsKinds ex.vars ex.flow.structs defs code → PointFits ex.flow defs n (ex.point code)
to_one n q code e lt less kinds = record { follows = subst (All (GoesOn ex.flow n)) (sym e) (all_one (GoesOn ex.flow n) (ex.at q) (goes n q lt less)); kinds = kinds }

to_two : (n q q' : ℕ) (code : Instr) → targets code ≡ ex.at q ∷ ex.at q' ∷ [] → n < q → q < 23 → n < q' → q' < 23 → FitsKinds ex.vars ex.flow.structs defs code → PointFits ex.flow defs n (ex.point code)
to_two n q q' code e lt less lt' less' kinds =
    record { follows = subst (All (GoesOn ex.flow n)) (sym e) (all_two (GoesOn ex.flow n) (ex.at q) (ex.at q') (goes n q lt less) (goes n q' lt' less')); kinds = kinds }

to_none : (n : ℕ) (code : Instr) → targets code ≡ [] → FitsKinds ex.vars ex.flow.structs defs code → PointFits ex.flow defs n (ex.point code)
to_none n code e kinds = record { follows = subst (All (GoesOn ex.flow n)) (sym e) (all_none (GoesOn ex.flow n)); kinds = kinds }

from_20 : FitFrom 20 (drop 20 ex.flow.points)
from_20 =
    (to_none 20 _ refl tt, (to_one 21 22 _ refl (omega arith) (omega arith) (refl, (omega (arith, ints), omega (arith, ints)), (omega (arith, ints), omega (arith, ints))), (to_none 22 _ refl tt, tt)))

from_16 : FitFrom 16 (drop 16 ex.flow.points)
from_16 =
    (to_one 16 17 _ refl (omega arith) (omega arith) tt, (to_none 17 _ refl tt, (to_one 18 19 _ refl (omega arith) (omega arith) (Int, refl, refl, refl), (to_one 19 20 _ refl (omega arith) (omega arith) (Int, refl, refl), from_20))))

from_12 : FitFrom 12 (drop 12 ex.flow.points)
from_12 =
    (to_two 12 13 14 _ refl (omega arith) (omega arith) (omega arith) (omega arith) (Ptr, refl, refl), (to_two 13 14 15 _ refl (omega arith) (omega arith) (omega arith) (omega arith) (refl, (omega (arith, ints), omega (arith, ints))), (to_one 14 15 _ refl (omega arith) (omega arith) (refl, record { def = lenlist_def; defined = refl; args = ((omega (arith, ints), omega (arith, ints)), tt) }), (to_one 15 16 _ refl (omega arith) (omega arith) (refl, record { def = list_def; defined = refl; args = tt }), from_16))))

from_8 : FitFrom 8 (drop 8 ex.flow.points)
from_8 =
    (to_one 8 9 _ refl (omega arith) (omega arith) (Int, refl, refl, refl), (to_one 9 10 _ refl (omega arith) (omega arith) (refl, omega arith), (to_one 10 11 _ refl (omega arith) (omega arith) refl, (to_one 11 12 _ refl (omega arith) (omega arith) refl, from_12))))

from_4 : FitFrom 4 (drop 4 ex.flow.points)
from_4 =
    (to_one 4 5 _ refl (omega arith) (omega arith) (refl, refl, (omega (arith, ints), omega (arith, ints))), (to_one 5 6 _ refl (omega arith) (omega arith) (refl, refl, (omega (arith, ints), omega (arith, ints))), (to_one 6 7 _ refl (omega arith) (omega arith) (refl, refl, (omega (arith, ints), omega (arith, ints))), (to_one 7 8 _ refl (omega arith) (omega arith) (Ptr, refl, refl, refl), from_8))))

points_fit : FitFrom 0 ex.flow.points
points_fit =
    (to_one 0 1 _ refl (omega arith) (omega arith) tt, (to_one 1 2 _ refl (omega arith) (omega arith) (Ptr, refl, refl), (to_one 2 3 _ refl (omega arith) (omega arith) (all_two (λ (v : VarId). v.0 < 4) ex.z ex.t (omega arith) (omega arith)), (to_one 3 4 _ refl (omega arith) (omega arith) refl, from_4))))

pub flow_is_valid : DefsFit structs defs → IsValid ex.flow defs
flow_is_valid fit =
    record {
      begins = omega arith;
      points = λ p point e. let same : 0 + p ≡ p = omega arith in subst (λ (m : ℕ). PointFits ex.flow defs m point) same (fit_at ex.flow.points 0 p point points_fit e);
      heads = all_none _;
      merges = all_none _;
      thresholds = all_none _;
      definitions = fit;
    }
