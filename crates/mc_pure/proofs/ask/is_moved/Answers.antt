use Rattle.std.proofs.Common.{◌≡◌, ℤ, ◌+ℤ◌, ◌-ℤ◌, arith}
use Rattle.std.proofs.lemmas.Int.{ints}
use Rattle.mc_pure.proofs.Changing.{same_node}
use Rattle.mc_pure.proofs.Clean.{same_cast, fits_small}
use Rattle.mc_pure.proofs.ask.is_moved.Goals as goal

plain : (c d bo xo yo ao m o : ℤ) → m ≡ (bo +ℤ c) -ℤ ao → o ≡ (yo +ℤ d) -ℤ xo → m ≡ o → c +ℤ (bo +ℤ xo) ≡ d +ℤ (yo +ℤ ao)
plain c d bo xo yo ao m o p q r = omega (arith, ints)

back : (c d bo xo yo ao m o : ℤ) → m ≡ (bo +ℤ c) -ℤ ao → o ≡ (yo +ℤ d) -ℤ xo → c +ℤ (bo +ℤ xo) ≡ d +ℤ (yo +ℤ ao) → m ≡ o
back c d bo xo yo ao m o p q r = omega (arith, ints)

pub returns-clause-yes : goal.returns-clause-yes
returns-clause-yes c =
    let p = c.requires.c in
    let q = c.requires.d in
    let e = same_cast c.args.c (fits_small c.args.c (omega (arith, ints)) (omega (arith, ints))) in
    let f = same_cast c.args.d (fits_small c.args.d (omega (arith, ints)) (omega (arith, ints))) in
    λ t. (
      same_node c.args.x.now.rep c.args.a.now.rep c.if-x-a.false,
      same_node c.args.y.now.rep c.args.b.now.rep c.if-y-b.false,
      plain c.args.c c.args.d c.args.b.now.off c.args.x.now.off c.args.y.now.off c.args.a.now.off c.difference-mine.result c.difference-other.result (rw e at c.difference-mine.ensures) (rw f at c.difference-other.ensures) (omega (arith, ints, c.is_same.ensures.yes t)),
    )

pub returns-clause-no : goal.returns-clause-no
returns-clause-no c =
    let p = c.requires.c in
    let q = c.requires.d in
    let e = same_cast c.args.c (fits_small c.args.c (omega (arith, ints)) (omega (arith, ints))) in
    let f = same_cast c.args.d (fits_small c.args.d (omega (arith, ints)) (omega (arith, ints))) in
    λ t m.
    let k = back c.args.c c.args.d c.args.b.now.off c.args.x.now.off c.args.y.now.off c.args.a.now.off c.difference-mine.result c.difference-other.result (rw e at c.difference-mine.ensures) (rw f at c.difference-other.ensures) m.2 in
    c.is_same.ensures.no t (omega (arith, ints, k))
