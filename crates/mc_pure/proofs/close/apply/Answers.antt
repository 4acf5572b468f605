use Rattle.std.proofs.Common.{◌≡◌, arith, rules}
use Rattle.std.proofs.lemmas.Int.{ints}
use mir.Syntax.{w64}
use mir.Val.{SFits}
use Rattle.mc_base.specs.declared.plain.Atom.TheVariants.{Eq, Ne, In}
use Rattle.mc_pure.proofs.Clean.{same_cast, fits_small}
use Rattle.mc_pure.proofs.Stepping.{known_eq, known_ne, base_is}
use Rattle.mc_pure.specs.Known.{pure_of}
use Rattle.mc_pure.proofs.close.apply.Goals as goal

pub equate-requires-clause-derived : goal.equate-requires-clause-derived
equate-requires-clause-derived c =
    let f : SFits w64 c.in-Eq.c = search rules in
    let short = c.wide-offset.ensures.short in
    let k : c.wide-offset.result ≡ c.in-Eq.c = omega (arith, ints, c.wide-offset.ensures.is) in
    let e = same_cast c.wide-offset.result (fits_small c.wide-offset.result (omega (arith, ints)) (omega (arith, ints))) in
    rw (e, k) (base_is (pure_of c.args.known.now) c.args.atom.now (Eq c.in-Eq.a c.in-Eq.b c.in-Eq.c) c.requires.base c.in-Eq.is)

pub equate-requires-clause-left : goal.equate-requires-clause-left
equate-requires-clause-left c = (known_eq (pure_of c.args.known.now) c.args.rows.now c.args.atom.now c.in-Eq.a c.in-Eq.b c.in-Eq.c c.requires.sound c.requires.base c.in-Eq.is).0

pub equate-requires-clause-right : goal.equate-requires-clause-right
equate-requires-clause-right c = (known_eq (pure_of c.args.known.now) c.args.rows.now c.args.atom.now c.in-Eq.a c.in-Eq.b c.in-Eq.c c.requires.sound c.requires.base c.in-Eq.is).1

pub returns-in-Eq : goal.returns-in-Eq
returns-in-Eq c =
    let f : SFits w64 c.in-Eq.c = search rules in
    let short = c.wide-offset.ensures.short in
    let k : c.wide-offset.result ≡ c.in-Eq.c = omega (arith, ints, c.wide-offset.ensures.is) in
    let e = same_cast c.wide-offset.result (fits_small c.wide-offset.result (omega (arith, ints)) (omega (arith, ints))) in
    rw c.in-Eq.is (rw (e, k) at c.equate.ensures)

pub part-requires-clause-derived : goal.part-requires-clause-derived
part-requires-clause-derived c =
    let f : SFits w64 c.in-Ne.c = search rules in
    let short = c.wide-offset-in-Ne.ensures.short in
    let k : c.wide-offset-in-Ne.result ≡ c.in-Ne.c = omega (arith, ints, c.wide-offset-in-Ne.ensures.is) in
    let e = same_cast c.wide-offset-in-Ne.result (fits_small c.wide-offset-in-Ne.result (omega (arith, ints)) (omega (arith, ints))) in
    rw (e, k) (base_is (pure_of c.args.known.now) c.args.atom.now (Ne c.in-Ne.a c.in-Ne.b c.in-Ne.c) c.requires.base c.in-Ne.is)

pub part-requires-clause-left : goal.part-requires-clause-left
part-requires-clause-left c = (known_ne (pure_of c.args.known.now) c.args.rows.now c.args.atom.now c.in-Ne.a c.in-Ne.b c.in-Ne.c c.requires.sound c.requires.base c.in-Ne.is).0

pub part-requires-clause-right : goal.part-requires-clause-right
part-requires-clause-right c = (known_ne (pure_of c.args.known.now) c.args.rows.now c.args.atom.now c.in-Ne.a c.in-Ne.b c.in-Ne.c c.requires.sound c.requires.base c.in-Ne.is).1

pub returns-in-Ne : goal.returns-in-Ne
returns-in-Ne c =
    let f : SFits w64 c.in-Ne.c = search rules in
    let short = c.wide-offset-in-Ne.ensures.short in
    let k : c.wide-offset-in-Ne.result ≡ c.in-Ne.c = omega (arith, ints, c.wide-offset-in-Ne.ensures.is) in
    let e = same_cast c.wide-offset-in-Ne.result (fits_small c.wide-offset-in-Ne.result (omega (arith, ints)) (omega (arith, ints))) in
    rw c.in-Ne.is (rw (e, k) at c.part.ensures)

pub restrict-requires-clause-derived : goal.restrict-requires-clause-derived
restrict-requires-clause-derived c =
    let f : SFits w64 c.in-In.lo = search rules in
    let g : SFits w64 c.in-In.hi = search rules in
    let k : c.span_from-span.result.lo ≡ c.in-In.lo = omega (arith, ints, c.span_from-span.ensures.lo) in
    let l : c.span_from-span.result.hi ≡ c.in-In.hi = omega (arith, ints, c.span_from-span.ensures.hi) in
    rw (k, l) (base_is (pure_of c.args.known.now) c.args.atom.now (In c.in-In.a c.in-In.lo c.in-In.hi) c.requires.base c.in-In.is)
