use Rattle.std.proofs.Common.{ℤ, ◌*ℤ◌, ◌≤◌, pos, negsuc, w64, arith}
use Rattle.std.proofs.lemmas.Int.{ints, to_z-of_z, fits_signed_mul}
use Rattle.std.specs.Int.RustNames.{unsigned_abs}
use Rattle.mc_base.specs.Ranges.Ends.{IsInt}
use Rattle.mc_base.proofs.ranges.ends.product.Goals as goal

small_abs : (x : ℤ) → IsInt x → unsigned_abs x ≤ 2147483648
small_abs (pos n) int = omega (arith, ints)
small_abs (negsuc n) int = omega (arith, ints)

pub returns : goal.returns
returns c =
    rw (to_z-of_z w64 c.args.x c.ranges.x, to_z-of_z w64 c.args.y c.ranges.y)
    (to_z-of_z w64 (c.args.x *ℤ c.args.y) (fits_signed_mul w64 c.args.x c.args.y 2147483648 2147483648 (small_abs c.args.x c.requires.left) (small_abs c.args.y c.requires.right) (omega arith)))
