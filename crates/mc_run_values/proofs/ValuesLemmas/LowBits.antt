-- Operations on the last bits of numbers.
use Rattle.std.proofs.Common.{◌≡◌, ◌∙◌, ap, ap₂}
use lib.IntN.{ℤ, ◌+ℤ◌, ◌-ℤ◌, ◌*ℤ◌, neg_ℤ}
use mir.Syntax.{w32, w64}
use mir.Val.{SFits, of_z, to_z}
use Rattle.std.specs.Int.{int_wrap}
use Rattle.std.proofs.lemmas.Int.{SFits-int_wrap, int_wrap_fits, int_wrap-add_left, int_wrap-add_right, int_wrap-add_same, int_wrap-mul_left, int_wrap-mul_right, int_wrap-sub_right, to_z-of_z}

pub times_low : (a b : ℤ) → int_wrap w32 (int_wrap w32 a *ℤ int_wrap w32 b) ≡ int_wrap w32 (a *ℤ b)
times_low a b = int_wrap-mul_left w32 a (int_wrap w32 b) ∙ int_wrap-mul_right w32 a b

pub plus_low : (a b : ℤ) → int_wrap w32 (int_wrap w32 a +ℤ int_wrap w32 b) ≡ int_wrap w32 (a +ℤ b)
plus_low a b = int_wrap-add_left w32 a (int_wrap w32 b) ∙ int_wrap-add_right w32 a b

pub difference_low : (a b : ℤ) → int_wrap w32 (int_wrap w32 a -ℤ int_wrap w32 b) ≡ int_wrap w32 (a -ℤ b)
difference_low a b =
    int_wrap-sub_right w32 (int_wrap w32 a) b
    ∙ int_wrap-add_same w32 (int_wrap w32 a) a (neg_ℤ b) (int_wrap_fits w32 (int_wrap w32 a) (SFits-int_wrap w32 a))

-- an operation on the last bits has the last bits of the operation
pub operated_low : (operation : ℤ → ℤ → ℤ) (a b l m r : ℤ) → SFits w64 a → SFits w64 b → SFits w64 r
    → int_wrap w32 (operation (int_wrap w32 a) (int_wrap w32 b)) ≡ int_wrap w32 (operation a b)
    → l ≡ int_wrap w32 (to_z w64 (of_z w64 a)) → m ≡ int_wrap w32 (to_z w64 (of_z w64 b))
    → r ≡ int_wrap w32 (operation l m) → to_z w64 (of_z w64 r) ≡ int_wrap w32 (operation a b)
operated_low operation a b l m r f g h law first second result =
    to_z-of_z w64 r h
    ∙ (result
    ∙ (ap₂ (λ (x y : ℤ). int_wrap w32 (operation x y)) (first ∙ ap (int_wrap w32) (to_z-of_z w64 a f)) (second ∙ ap (int_wrap w32) (to_z-of_z w64 b g))
    ∙ law))
