use Rattle.std.proofs.Common.{◌≡◌, ◌∙◌, ap, pos, ℤ}
use lib.IntN.{nat_abs}
use mir.Syntax.{w64, w32}
use mir.Val.{SFits, to_z, of_z}
use Rattle.std.specs.Int.{int_wrap, int_rem_euclid}
use Rattle.std.proofs.lemmas.Int.{to_z-of_z}
use Rattle.mc_run_values.proofs.values.numbers.low.Goals as goal

low_bits : (n bits r : ℤ) → SFits w64 n → SFits w64 bits → SFits w32 r → bits ≡ int_rem_euclid (to_z w64 (of_z w64 n)) (pos 4294967296) → r ≡ to_z w32 (nat_abs (to_z w64 (of_z w64 bits))) → to_z w32 (of_z w32 r) ≡ int_wrap w32 n
unfolding int_wrap
low_bits n bits r f g h rest is =
    to_z-of_z w32 r h
    ∙ (is
    ∙ ap (λ (z : ℤ). to_z w32 (nat_abs z)) (to_z-of_z w64 bits g ∙ (rest ∙ ap (λ (z : ℤ). int_rem_euclid z (pos 4294967296)) (to_z-of_z w64 n f))))

pub returns : goal.returns
returns c =
    low_bits c.args.number c.rem_euclid-bits.result c.cast_signed.result c.ranges.number (record { sfits = c.rem_euclid-bits.type_inv }) (record { sfits = c.cast_signed.type_inv }) c.rem_euclid-bits.ensures.value c.cast_signed.ensures
