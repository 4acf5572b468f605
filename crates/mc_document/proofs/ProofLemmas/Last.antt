-- The last of a list.
use Rattle.std.proofs.Common.{◌≡◌, ◌-◌, ◌∙◌, ℕ, suc, List, [], ◌∷◌, length, map, arith, ap, sym, subst}
use Rattle.std.specs.Prelude.{Option, Some, nat_lt, slice_get}
use Rattle.std.proofs.Math.Dec.{leb, leb-suc-suc}
use Rattle.mc_base.specs.declared.ids.PointId.{PointId}
use Rattle.mc_kernel.specs.Readings.{comes_after}
use Rattle.mc_check_line.specs.declared.branch.Head.{Head}
use Rattle.mc_check_line.specs.Judging.{head_of}
use Rattle.mc_document.specs.Proof.Lines.{stands_behind}

some_is : {A : Type 0} (a b : A) → ◌≡◌ {A = Option A} (Some a) (Some b) → a ≡ b
some_is a b e = cc e

-- what comes after the last comes after a list
pub cuts_last : (cuts : List PointId) (p q : PointId) → slice_get cuts (length cuts - 1) ≡ Some q → nat_lt q.0 p.0 ≡ comes_after cuts p
cuts_last [] p q e = absurd (cc e)
cuts_last (c ∷ []) p q e = ap (λ (x : PointId). nat_lt x.0 p.0) (sym (some_is c q e))
cuts_last (c ∷ d ∷ cuts) p q e =
    let same : length (c ∷ d ∷ cuts) - 1 ≡ suc (length (d ∷ cuts) - 1) = omega arith in
    cuts_last (d ∷ cuts) p q (subst (λ (n : ℕ). slice_get (c ∷ d ∷ cuts) n ≡ Some q) same e)

-- so do heads
pub heads_last : (heads : List Head) (p : PointId) (q : Head) → slice_get heads (length heads - 1) ≡ Some q → leb q.point.0 p.0 ≡ stands_behind (map head_of heads) p
heads_last [] p q e = absurd (cc e)
heads_last (h ∷ []) p q e =
    sym (leb-suc-suc q.point.0 p.0) ∙ ap (λ (x : Head). nat_lt x.point.0 (suc p.0)) (sym (some_is h q e))
heads_last (h ∷ i ∷ heads) p q e =
    let same : length (h ∷ i ∷ heads) - 1 ≡ suc (length (i ∷ heads) - 1) = omega arith in
    heads_last (i ∷ heads) p q (subst (λ (n : ℕ). slice_get (h ∷ i ∷ heads) n ≡ Some q) same e)
