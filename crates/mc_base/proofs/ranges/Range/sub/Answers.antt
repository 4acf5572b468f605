use Rattle.std.proofs.Common.{◌≡◌, ℤ, pos, negsuc, ◌≤ℤ◌, ◌-ℤ◌, to_z, of_z, w64, arith}
use Rattle.std.proofs.lemmas.Int.{ints}
use Rattle.mc_base.proofs.RangesLemmas.Least.{least-differences}
use Rattle.mc_base.proofs.ranges.Range.sub.Goals as goal

plain : (x y : ℤ) → negsuc 2147483647 ≤ℤ x → x ≤ℤ pos 2147483647 → negsuc 2147483647 ≤ℤ y → y ≤ℤ pos 2147483647 → to_z w64 (of_z w64 (to_z w64 (of_z w64 x) -ℤ to_z w64 (of_z w64 y))) ≡ x -ℤ y
plain x y a b d e = omega (arith, ints)

pub within_int-requires : goal.within_int-requires
within_int-requires c =
    let left = c.requires.left in
    let right = c.requires.right in
    omega (arith, ints)

pub returns : goal.returns
returns c =
    let left = c.requires.left in
    let right = c.requires.right in
    let low = plain c.args.self.lo c.args.other.hi left.1.0 left.1.1 right.2.0 right.2.1 in
    let high = plain c.args.self.hi c.args.other.lo left.2.0 left.2.1 right.1.0 right.1.1 in
    least-differences c.args.self c.args.other c.within_int.result left right (rw (low, high) at c.within_int.ensures)
