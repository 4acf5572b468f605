-- The flow graphs of the examples are valid.
use Rattle.std.proofs.Common.{◌≡◌, ◌+◌, ◌<◌, ℕ, zero, suc, List, [], ◌∷◌, length, Some, slice_get, refl, sym, subst, arith, inl, inr, pos}
use Rattle.std.specs.Prelude.{All}
use Rattle.std.proofs.lemmas.Int.{ints}
use Rattle.mc_base.specs.declared.ids.PointId.{PointId}
use Rattle.mc_base.specs.declared.ids.VarId.{VarId}
use Rattle.mc_base.specs.declared.plain.Kind.TheVariants.{Int}
use Rattle.mc_base.specs.declared.plain.VarInfo.{VarInfo}
use Rattle.mc_base.specs.Kinds.{InKind}
use Rattle.mc_flow.specs.Defs.Conditions.{DefsFit}
use Rattle.mc_flow.specs.Defs.Examples.{structs, defs, list_def}
use Rattle.mc_flow.specs.declared.graph.Flow.{Flow}
use Rattle.mc_flow.specs.declared.graph.Point.{Point}
use Rattle.mc_flow.specs.declared.instr.Instr.{Instr}
use Rattle.mc_flow.specs.Valid.{IsValid, IsSkip, PointFits, FitsKinds, GoesOn, targets}
use Rattle.mc_kernel.specs.Examples as ex
use Rattle.mc_kernel.proofs.Lists.{contains_here}
use Rattle.mc_rules_steps.proofs.ExampleFlow.{all_none, all_one, all_two}

module _ (flow : Flow) where
  -- the points of a list fit from a number on
  abbrev pub FitFrom : ℕ → List Point → Type 0
  FitFrom n [] = Unit {0}
  FitFrom n (p ∷ ps) = PointFits flow defs n p × FitFrom (suc n) ps

  fit_at : (ps : List Point) (n p : ℕ) (point : Point) → FitFrom n ps → slice_get ps p ≡ Some point → PointFits flow defs (n + p) point
  fit_at [] n p point f e = cc
  fit_at (q ∷ ps) n zero point f e =
      let same : q ≡ point = cc in
      let here : n ≡ n + 0 = omega arith in
      subst (λ (m : ℕ). PointFits flow defs m point) here (subst (PointFits flow defs n) same f.0)
  fit_at (q ∷ ps) n (suc p) point f e =
      let sum : suc n + p ≡ n + suc p = omega arith in
      subst (λ (m : ℕ). PointFits flow defs m point) sum (fit_at ps (suc n) p point f.1 e)

  -- a point that goes on to others
  pub to_one : (n q : ℕ) (code : Instr) → targets code ≡ ex.at q ∷ [] → GoesOn flow n (ex.at q) → FitsKinds flow.vars flow.structs defs code → PointFits flow defs n (ex.point code)
  to_one n q code e goes kinds = record { follows = subst (All (GoesOn flow n)) (sym e) (all_one (GoesOn flow n) (ex.at q) goes); kinds = kinds }

  pub to_two : (n q r : ℕ) (code : Instr) → targets code ≡ ex.at q ∷ ex.at r ∷ [] → GoesOn flow n (ex.at q) → GoesOn flow n (ex.at r) → FitsKinds flow.vars flow.structs defs code → PointFits flow defs n (ex.point code)
  to_two n q r code e goes also kinds = record { follows = subst (All (GoesOn flow n)) (sym e) (all_two (GoesOn flow n) (ex.at q) (ex.at r) goes also); kinds = kinds }

  pub to_none : (n : ℕ) (code : Instr) → targets code ≡ [] → FitsKinds flow.vars flow.structs defs code → PointFits flow defs n (ex.point code)
  to_none n code e kinds = record { follows = subst (All (GoesOn flow n)) (sym e) (all_none (GoesOn flow n)); kinds = kinds }

pub is_valid : (vars : List VarInfo) (heads : List PointId) (code : List Instr) → DefsFit structs defs → 0 < length (ex.points code) → All (IsSkip (ex.points code)) heads → FitFrom (ex.flow_of vars heads code) 0 (ex.points code)
    → IsValid (ex.flow_of vars heads code) defs
is_valid vars heads code fit some skips fits =
    record {
      begins = some;
      points = λ p point e. let same : 0 + p ≡ p = omega arith in subst (λ (m : ℕ). PointFits (ex.flow_of vars heads code) defs m point) same (fit_at (ex.flow_of vars heads code) (ex.points code) 0 p point fits e);
      heads = skips;
      merges = all_none _;
      thresholds = all_one (InKind Int) (pos 0) (omega (arith, ints), omega (arith, ints));
      definitions = fit;
    }

-- ---- the loop

loop_goes : (p q : ℕ) → p < q → q < 9 → GoesOn ex.loop_flow p (ex.at q)
loop_goes p q lt less = (less, inl lt)

loop_fits : FitFrom ex.loop_flow 0 (ex.points ex.loop_code)
loop_fits = (
  to_one ex.loop_flow 0 1 _ refl (loop_goes 0 1 (omega arith) (omega arith)) tt,
  (
    to_one ex.loop_flow 1 2 _ refl (loop_goes 1 2 (omega arith) (omega arith)) tt,
    (
      to_one ex.loop_flow 2 3 _ refl (loop_goes 2 3 (omega arith) (omega arith)) refl,
      (
        to_two ex.loop_flow 3 4 7 _ refl (loop_goes 3 4 (omega arith) (omega arith)) (loop_goes 3 7 (omega arith) (omega arith)) (Int, refl, (omega (arith, ints), omega (arith, ints))),
        (
          to_one ex.loop_flow 4 5 _ refl (loop_goes 4 5 (omega arith) (omega arith)) (all_one (λ (x : VarId). x.0 < 2) (ex.var 1) (omega arith)),
          (
            to_one ex.loop_flow 5 6 _ refl (loop_goes 5 6 (omega arith) (omega arith)) tt,
            (
              to_one ex.loop_flow 6 8 _ refl (loop_goes 6 8 (omega arith) (omega arith)) (Int, refl, (omega (arith, ints), omega (arith, ints))),
              (
                to_one ex.loop_flow 7 1 _ refl (omega arith, inr (contains_here (ex.at 1) [])) (all_one (λ (x : VarId). x.0 < 2) (ex.var 1) (omega arith)),
                (to_none ex.loop_flow 8 _ refl tt, tt),
              ),
            ),
          ),
        ),
      ),
    ),
  ),
)

pub loop_is_valid : DefsFit structs defs → IsValid ex.loop_flow defs
loop_is_valid fit = is_valid ex.loop_vars (ex.at 1 ∷ []) ex.loop_code fit (omega arith) (all_one (IsSkip ex.loop_flow.points) (ex.at 1) (record { next = ex.at 2; skips = refl })) loop_fits

-- ---- the list

list_goes : (p q : ℕ) → p < q → q < 6 → GoesOn ex.list_flow p (ex.at q)
list_goes p q lt less = (less, inl lt)

list_fits : FitFrom ex.list_flow 0 (ex.points ex.list_code)
list_fits = (
  to_one ex.list_flow 0 1 _ refl (list_goes 0 1 (omega arith) (omega arith)) tt,
  (
    to_one ex.list_flow 1 2 _ refl (list_goes 1 2 (omega arith) (omega arith)) (all_one (λ (x : VarId). x.0 < 2) (ex.var 1) (omega arith)),
    (
      to_one ex.list_flow 2 3 _ refl (list_goes 2 3 (omega arith) (omega arith)) (refl, record { def = list_def; defined = refl; args = tt }),
      (
        to_one ex.list_flow 3 4 _ refl (list_goes 3 4 (omega arith) (omega arith)) (refl, record { def = list_def; defined = refl; args = tt }),
        (
          to_one ex.list_flow 4 5 _ refl (list_goes 4 5 (omega arith) (omega arith)) (Int, refl, (omega (arith, ints), omega (arith, ints))),
          (to_none ex.list_flow 5 _ refl tt, tt),
        ),
      ),
    ),
  ),
)

pub list_is_valid : DefsFit structs defs → IsValid ex.list_flow defs
list_is_valid fit = is_valid ex.list_vars [] ex.list_code fit (omega arith) (all_none _) list_fits
