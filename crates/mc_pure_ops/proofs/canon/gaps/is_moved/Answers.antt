use Rattle.std.proofs.Common.{◌≡◌, ℤ, pos, ◌+ℤ◌, ◌-ℤ◌, arith}
use Rattle.std.proofs.lemmas.Int.{ints}
use Rattle.mc_pure.proofs.Changing.{same_node}
use Rattle.mc_pure_ops.proofs.canon.gaps.is_moved.Goals as goal
use Rattle.mc_pure.proofs.Clean.{fits_small, same_cast}

plain : (by fo lo so ro m o : ℤ) → m ≡ fo -ℤ lo → o ≡ so -ℤ ro → o ≡ by +ℤ m → by +ℤ (fo -ℤ lo) ≡ (so -ℤ ro) +ℤ pos 0
plain by fo lo so ro m o p q r = omega (arith, ints)

back : (by fo lo so ro m o : ℤ) → m ≡ fo -ℤ lo → o ≡ so -ℤ ro → by +ℤ (fo -ℤ lo) ≡ (so -ℤ ro) +ℤ pos 0 → o ≡ by +ℤ m
back by fo lo so ro m o p q r = omega (arith, ints)

pub returns-clause-yes : goal.returns-clause-yes
returns-clause-yes c =
    let s = c.requires in
    let e = same_cast c.args.by (fits_small c.args.by (omega (arith, ints)) (omega (arith, ints))) in
    λ t. record {
      left_is = same_node c.args.first.now.least c.args.left.now.least c.if-first-left.false;
      right_is = same_node c.args.second.now.least c.args.right.now.least c.if-second-right.false;
      by_is = plain c.args.by c.args.first.now.offset c.args.left.now.offset c.args.second.now.offset c.args.right.now.offset c.difference-mine.result c.difference-other.result (omega (arith, ints, c.difference-mine.ensures)) (omega (arith, ints, c.difference-other.ensures)) (omega (arith, ints, e, c.is_sum.ensures.yes t));
    }

pub returns-clause-no : goal.returns-clause-no
returns-clause-no c =
    let s = c.requires in
    let e = same_cast c.args.by (fits_small c.args.by (omega (arith, ints)) (omega (arith, ints))) in
    λ t m.
    let k = back c.args.by c.args.first.now.offset c.args.left.now.offset c.args.second.now.offset c.args.right.now.offset c.difference-mine.result c.difference-other.result (omega (arith, ints, c.difference-mine.ensures)) (omega (arith, ints, c.difference-other.ensures)) m.by_is in
    c.is_sum.ensures.no t (omega (arith, ints, k, e))
