-- Facts of the code's numbers without their casts.
use Rattle.std.proofs.Common.{◌≡◌, ℤ, pos, negsuc, ◌≤ℤ◌, ◌<ℤ◌, true, false, arith}
use Rattle.std.proofs.lemmas.Int.{ints, to_z-of_z}
use Rattle.std.specs.Int.{int_max, int_min}
use mir.Syntax.{w128}
use mir.Val.{SFits, to_z, of_z}
use lib.Signed.{lt_z}

abbrev pub Cast : ℤ → ℤ
Cast z = to_z w128 (of_z w128 z)

pub fits_small : (a : ℤ) → negsuc 1180591620717411303423 ≤ℤ a → a ≤ℤ pos 1180591620717411303424 → SFits w128 a
fits_small a p q = grind (arith, ints)

pub max_clean : (r a b : ℤ) → SFits w128 a → SFits w128 b → r ≡ int_max (Cast a) (Cast b) → r ≡ int_max a b
max_clean r a b f g e = simp to_z-of_z at e

pub min_clean : (r a b : ℤ) → SFits w128 a → SFits w128 b → r ≡ int_min (Cast a) (Cast b) → r ≡ int_min a b
min_clean r a b f g e = simp to_z-of_z at e

pub lt_clean : (a b : ℤ) → SFits w128 a → SFits w128 b → lt_z (Cast a) (Cast b) ≡ true → a <ℤ b
lt_clean a b f g e = grind (arith, ints)

pub le_clean : (a b : ℤ) → SFits w128 a → SFits w128 b → lt_z (Cast a) (Cast b) ≡ false → b ≤ℤ a
le_clean a b f g e = grind (arith, ints)

pub same_cast : (a : ℤ) → SFits w128 a → Cast a ≡ a
same_cast a f = to_z-of_z w128 a f
