-- How a counter widens.
use Rattle.std.proofs.Common.{◌<◌, ℕ, zero, suc, ℤ, pos, [], ◌∷◌, refl, inl, arith}
use Rattle.std.specs.Prelude.{◌≤ℤ◌, ◌<ℤ◌, ◌≤◌, slice_index_or}
use Rattle.std.proofs.lemmas.Int.{ints}
use Rattle.mc_base.specs.declared.plain.Kind.TheVariants.{Int}
use Rattle.mc_pure_ops.specs.Join.Joint.{IsJointRange, IsLate}

early : IsLate Int 2 → ⊥
early l = let three : 3 ≤ 2 = l in omega arith

late : IsLate Int 3
late = let three : 3 ≤ 3 = omega arith in three

pub in_second : IsJointRange Int 2 (pos 0 ∷ pos 9 ∷ []) (pos 0) (pos 0) (pos 1) (pos 1) (pos 0) (pos 1)
in_second = record { hull = λ no. (refl, refl); wide = λ l. absurd (early l) }

nearest : (k : ℕ) (d : ℤ) → k < 2 → pos 1 ≤ℤ slice_index_or (pos 0 ∷ pos 9 ∷ []) k d → pos 9 ≤ℤ slice_index_or (pos 0 ∷ pos 9 ∷ []) k d
nearest zero d less above = let wrong : pos 1 ≤ℤ pos 0 = above in absurd (let no : ⊥ = omega (arith, ints) in no)
nearest (suc zero) d less above = let same : pos 9 ≤ℤ pos 9 = omega (arith, ints) in same
nearest (suc (suc k)) d less above = absurd (let no : ⊥ = omega arith in no)

pub in_third : IsJointRange Int 3 (pos 0 ∷ pos 9 ∷ []) (pos 0) (pos 0) (pos 1) (pos 1) (pos 0) (pos 9)
in_third = record {
  hull = λ no. absurd (no late);
  wide = λ l. (
    record { kept = λ e. refl; moved = λ less. absurd (let wrong : pos 0 <ℤ pos 0 = less in let no : ⊥ = omega (arith, ints) in no) },
    record {
      kept = λ e. absurd (let wrong : pos 1 ≤ℤ pos 0 = e in let no : ⊥ = omega (arith, ints) in no);
      moved = λ less. record { reached = let up : pos 1 ≤ℤ pos 9 = omega (arith, ints) in up; among = inl (1, omega arith, refl); nearest = nearest };
    },
  );
}
