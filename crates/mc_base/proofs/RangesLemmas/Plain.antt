-- Numbers that pass through 64 bits as they are.
use Rattle.std.proofs.Common.{◌≡◌, ℤ, to_z, of_z, w64, FitsSigned, ◌∙◌, ap, arith}
use Rattle.std.proofs.lemmas.Int.{ints, to_z-of_z}
use Rattle.mc_base.specs.Ranges.Ends.{IsEnd}

-- a result that fits, as it is read
pub as_read : (x : ℤ) {y : ℤ} → FitsSigned w64 x → x ≡ y → to_z w64 (of_z w64 x) ≡ y
as_read x fits e = to_z-of_z w64 x fits ∙ e

-- an end, as it is passed
pub end_passed : (x : ℤ) → IsEnd x → to_z w64 (of_z w64 x) ≡ x
end_passed x is = omega (arith, ints)

-- one operation on equal numbers
pub on_both : (op : ℤ → ℤ → ℤ) {a b c d : ℤ} → a ≡ c → b ≡ d → op a b ≡ op c d
on_both op {a} {b} {c} {d} e f = ap (λ x. op x b) e ∙ ap (λ y. op c y) f
