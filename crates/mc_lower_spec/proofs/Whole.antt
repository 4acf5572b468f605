-- A whole flow graph is a lowering.
use Rattle.std.proofs.Common.{◌≡◌, ◌<◌, ℕ, zero, suc, ℤ, pos, List, [], ◌∷◌, Some, refl, sym, subst, ap, ◌∙◌, arith, length}
use Rattle.std.specs.Prelude.{slice_get, slice_index_or, Contains, All, AllPairs}
use Rattle.std.proofs.lemmas.Option.{none-some, same_Some}
use Rattle.std.proofs.lemmas.List.Elements.{All-cons}
use Rattle.std.specs.Int.Signed.{◌<ℤ◌}
use Rattle.mc_base.specs.declared.ids.PointId.{PointId}
use Rattle.mc_base.specs.declared.plain.Kind.TheVariants.{Int}
use Rattle.mc_flow.specs.declared.graph.Point.{Point}
use Rattle.mc_flow.specs.declared.instr.Operand.{Operand}
use Rattle.mc_flow.specs.declared.instr.Operand.TheVariants.{Var, Const}
use Rattle.mc_lower_spec.specs.Graphs.{Owner, result, temporary, head, merge, stop, point, var, appends, undefines, undefines_none, creates, is_made, uses_first, leaves}
use Rattle.mc_lower_spec.specs.Values.{takes, of_number, of_operation, of_input, compares, tests_plain}
use Rattle.mc_lower_spec.specs.Lowering.{Makes, IsLowering, operands, ifs, dos, continues, blocks, lowers_none, lowers_next, answers, falls_in_main, makes}
use Rattle.mc_lower_spec.specs.Examples.{whole_graph, do_main}
use Rattle.mc_lower_spec.proofs.Making.{listed_made}

whole_made : Makes whole_graph do_main 11 2
whole_made =
    makes (appends (record { there = refl; is = refl })) (answers (creates refl refl))
    (lowers_next (dos {i = 7} {e = 9} (appends (record { there = refl; is = refl })) (blocks (lowers_next (ifs (tests_plain (of_operation of_input (takes (uses_first (creates refl refl)) (appends (record { there = refl; is = refl })))) (compares (record { there = refl; is = refl }) (undefines (appends (record { there = refl; is = refl }))) (undefines (appends (record { there = refl; is = refl }))))) (continues refl (leaves (listed_made ([])) undefines_none)) (appends (record { there = refl; is = refl }))) lowers_none) (leaves (listed_made ([])) undefines_none)) (appends (record { there = refl; is = refl })) (tests_plain of_number (compares (record { there = refl; is = refl }) undefines_none undefines_none)) (appends (record { there = refl; is = refl }))) lowers_none)
    (falls_in_main (refl, refl) (is_made {v = var 0} refl (omega arith)) (appends (record { there = refl; is = refl }))) (record { there = refl; is = refl })

head_all : (n : ℕ) → slice_get whole_graph.roles n ≡ Some head → Contains {X = PointId} (point 1 ∷ []) (point n)
head_all zero e = absurd (cc)
head_all (suc zero) e = (0, omega arith, refl)
head_all (suc (suc zero)) e = absurd (cc)
head_all (suc (suc (suc zero))) e = absurd (cc)
head_all (suc (suc (suc (suc zero)))) e = absurd (cc)
head_all (suc (suc (suc (suc (suc zero))))) e = absurd (cc)
head_all (suc (suc (suc (suc (suc (suc zero)))))) e = absurd (cc)
head_all (suc (suc (suc (suc (suc (suc (suc zero))))))) e = absurd (cc)
head_all (suc (suc (suc (suc (suc (suc (suc (suc zero)))))))) e = absurd (cc)
head_all (suc (suc (suc (suc (suc (suc (suc (suc (suc zero))))))))) e = absurd (cc)
head_all (suc (suc (suc (suc (suc (suc (suc (suc (suc (suc zero)))))))))) e = absurd (cc)
head_all (suc (suc (suc (suc (suc (suc (suc (suc (suc (suc (suc zero))))))))))) e = absurd (cc)
head_all (suc (suc (suc (suc (suc (suc (suc (suc (suc (suc (suc (suc n)))))))))))) e = absurd (none-some head e)

merge_all : (n : ℕ) → slice_get whole_graph.roles n ≡ Some merge → Contains {X = PointId} (point 6 ∷ []) (point n)
merge_all zero e = absurd (cc)
merge_all (suc zero) e = absurd (cc)
merge_all (suc (suc zero)) e = absurd (cc)
merge_all (suc (suc (suc zero))) e = absurd (cc)
merge_all (suc (suc (suc (suc zero)))) e = absurd (cc)
merge_all (suc (suc (suc (suc (suc zero))))) e = absurd (cc)
merge_all (suc (suc (suc (suc (suc (suc zero)))))) e = (0, omega arith, refl)
merge_all (suc (suc (suc (suc (suc (suc (suc zero))))))) e = absurd (cc)
merge_all (suc (suc (suc (suc (suc (suc (suc (suc zero)))))))) e = absurd (cc)
merge_all (suc (suc (suc (suc (suc (suc (suc (suc (suc zero))))))))) e = absurd (cc)
merge_all (suc (suc (suc (suc (suc (suc (suc (suc (suc (suc zero)))))))))) e = absurd (cc)
merge_all (suc (suc (suc (suc (suc (suc (suc (suc (suc (suc (suc zero))))))))))) e = absurd (cc)
merge_all (suc (suc (suc (suc (suc (suc (suc (suc (suc (suc (suc (suc n)))))))))))) e = absurd (none-some merge e)

stop_all : (n : ℕ) → slice_get whole_graph.roles n ≡ Some stop → Contains {X = PointId} ([]) (point n)
stop_all zero e = absurd (cc)
stop_all (suc zero) e = absurd (cc)
stop_all (suc (suc zero)) e = absurd (cc)
stop_all (suc (suc (suc zero))) e = absurd (cc)
stop_all (suc (suc (suc (suc zero)))) e = absurd (cc)
stop_all (suc (suc (suc (suc (suc zero))))) e = absurd (cc)
stop_all (suc (suc (suc (suc (suc (suc zero)))))) e = absurd (cc)
stop_all (suc (suc (suc (suc (suc (suc (suc zero))))))) e = absurd (cc)
stop_all (suc (suc (suc (suc (suc (suc (suc (suc zero)))))))) e = absurd (cc)
stop_all (suc (suc (suc (suc (suc (suc (suc (suc (suc zero))))))))) e = absurd (cc)
stop_all (suc (suc (suc (suc (suc (suc (suc (suc (suc (suc zero)))))))))) e = absurd (cc)
stop_all (suc (suc (suc (suc (suc (suc (suc (suc (suc (suc (suc zero))))))))))) e = absurd (cc)
stop_all (suc (suc (suc (suc (suc (suc (suc (suc (suc (suc (suc (suc n)))))))))))) e = absurd (none-some stop e)

-- all constants of operands are 0
abbrev AreZero : List Operand → Type 0
AreZero [] = Unit {0}
AreZero (Var x ∷ os) = AreZero os
AreZero (Const c ∷ os) = (c ≡ pos 0) × AreZero os

abbrev constant_of : ℤ → Operand → ℤ
constant_of z (Var x) = z
constant_of z (Const c) = c

zero_there : (os : List Operand) (c : ℤ) (k : ℕ) → AreZero os → k < length os → slice_index_or os k (Const c) ≡ Const c → c ≡ pos 0
zero_there [] c k zeros less e = absurd (omega (arith, less))
zero_there (Var x ∷ os) c zero zeros less e = absurd (cc)
zero_there (Const d ∷ os) c zero zeros less e = sym (ap (constant_of c) e) ∙ zeros.0
zero_there (Var x ∷ os) c (suc k) zeros less e = zero_there os c k zeros (omega (arith, less)) e
zero_there (Const d ∷ os) c (suc k) zeros less e = zero_there os c k zeros.1 (omega (arith, less)) e

points_zero : (n : ℕ) (p : Point) → slice_get whole_graph.flow.points n ≡ Some p → AreZero (operands p.code)
points_zero zero p e = subst (λ (q : Point). AreZero (operands q.code)) (same_Some _ p e) tt
points_zero (suc zero) p e = subst (λ (q : Point). AreZero (operands q.code)) (same_Some _ p e) tt
points_zero (suc (suc zero)) p e = subst (λ (q : Point). AreZero (operands q.code)) (same_Some _ p e) tt
points_zero (suc (suc (suc zero))) p e = subst (λ (q : Point). AreZero (operands q.code)) (same_Some _ p e) (refl, tt)
points_zero (suc (suc (suc (suc zero)))) p e = subst (λ (q : Point). AreZero (operands q.code)) (same_Some _ p e) tt
points_zero (suc (suc (suc (suc (suc zero))))) p e = subst (λ (q : Point). AreZero (operands q.code)) (same_Some _ p e) tt
points_zero (suc (suc (suc (suc (suc (suc zero)))))) p e = subst (λ (q : Point). AreZero (operands q.code)) (same_Some _ p e) tt
points_zero (suc (suc (suc (suc (suc (suc (suc zero))))))) p e = subst (λ (q : Point). AreZero (operands q.code)) (same_Some _ p e) tt
points_zero (suc (suc (suc (suc (suc (suc (suc (suc zero)))))))) p e = subst (λ (q : Point). AreZero (operands q.code)) (same_Some _ p e) (refl, (refl, tt))
points_zero (suc (suc (suc (suc (suc (suc (suc (suc (suc zero))))))))) p e = subst (λ (q : Point). AreZero (operands q.code)) (same_Some _ p e) tt
points_zero (suc (suc (suc (suc (suc (suc (suc (suc (suc (suc zero)))))))))) p e = subst (λ (q : Point). AreZero (operands q.code)) (same_Some _ p e) (refl, tt)
points_zero (suc (suc (suc (suc (suc (suc (suc (suc (suc (suc (suc zero))))))))))) p e = subst (λ (q : Point). AreZero (operands q.code)) (same_Some _ p e) tt
points_zero (suc (suc (suc (suc (suc (suc (suc (suc (suc (suc (suc (suc n)))))))))))) p e = absurd (none-some p e)

nothing_holds : {X : Type 0} (P : X → Type 0) → All P []
nothing_holds P k d less = absurd (omega (arith, less))

one_ascends : {X : Type 0} (R : X → X → Type 0) (x : X) → AllPairs R (x ∷ [])
one_ascends R x i j d less there = absurd (omega (arith, less, there))

none_ascends : {X : Type 0} (R : X → X → Type 0) → AllPairs R []
none_ascends R i j d less there = absurd (omega (arith, there))

made_once : (owner : Owner) (v w : ℕ) → slice_get whole_graph.owners v ≡ Some owner → slice_get whole_graph.owners w ≡ Some owner → v ≡ w
made_once owner zero zero e k = refl
made_once owner zero (suc zero) e k = absurd (let same : Some (result 11) ≡ Some (temporary 0 Int) = e ∙ sym k in cc)
made_once owner (suc zero) zero e k = absurd (let same : Some (temporary 0 Int) ≡ Some (result 11) = e ∙ sym k in cc)
made_once owner (suc zero) (suc zero) e k = refl
made_once owner (suc (suc v)) w e k = absurd (none-some owner e)
made_once owner zero (suc (suc w)) e k = absurd (none-some owner k)
made_once owner (suc zero) (suc (suc w)) e k = absurd (none-some owner k)

pub whole_lowering : IsLowering whole_graph do_main 11 2
whole_lowering =
    record {
      there = refl;
      alone = refl;
      made = whole_made;
      points = refl;
      roles = refl;
      variables = refl;
      owners = refl;
      once = made_once;
      heads =
          record {
            ascending = one_ascends (λ (p : PointId) (q : PointId). p.0 < q.0) (point 1);
            all = head_all;
            only = All-cons (λ (p : PointId). slice_get whole_graph.roles p.0 ≡ Some head) (point 1) [] refl (nothing_holds _);
          };
      merges =
          record {
            ascending = one_ascends (λ (p : PointId) (q : PointId). p.0 < q.0) (point 6);
            all = merge_all;
            only = All-cons (λ (p : PointId). slice_get whole_graph.roles p.0 ≡ Some merge) (point 6) [] refl (nothing_holds _);
          };
      stops = record { ascending = none_ascends (λ (p : PointId) (q : PointId). p.0 < q.0); all = stop_all; only = nothing_holds _ };
      thresholds =
          record {
            ascending = one_ascends (λ c d. c <ℤ d) (pos 0);
            all = λ n p c there is. (0, omega arith, sym (zero_there (operands p.code) c is.0 (points_zero n p there) is.1 is.2));
            only = All-cons (λ (c : ℤ). (n : ℕ) × (p : Point) × (slice_get whole_graph.flow.points n ≡ Some p) × Contains (operands p.code) (Const c)) (pos 0) []
                (8, _, refl, (0, omega arith, refl)) (nothing_holds _);
          };
    }
