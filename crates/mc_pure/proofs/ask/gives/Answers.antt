use Rattle.std.proofs.Common.{◌≡◌, ℤ, neg_ℤ, List, refl, subst, inl, inr, arith, rules}
use Rattle.std.proofs.lemmas.Int.{ints}
use mir.Syntax.{w64}
use mir.Val.{SFits}
use Rattle.mc_base.specs.declared.plain.Atom.TheVariants.{Ne}
use Rattle.mc_base.specs.declared.plain.Atom.{Atom}
use Rattle.mc_base.specs.declared.ids.NodeId.{NodeId}
use Rattle.mc_pure.specs.declared.rows.Row.{Row}
use Rattle.mc_pure.specs.Rows.{row_at}
use Rattle.mc_pure.specs.Steps.{MovedAtom, MovedRows}
use Rattle.mc_pure.proofs.Clean.{same_cast, fits_small}
use Rattle.mc_pure.proofs.Stepping.{known_ne}
use Rattle.mc_pure.specs.Known.{pure_of}
use Rattle.mc_pure.proofs.ask.gives.Goals as goal

pub is_near-requires-clause-there : goal.is_near-requires-clause-there
is_near-requires-clause-there c = (known_ne (pure_of c.args.known.now) c.args.rows.now c.args.atom.now c.in-Ne.x c.in-Ne.y c.in-Ne.d c.requires.sound c.requires.base c.in-Ne.is).0

far_way : (rows : List Row) (f : Atom) (x y : NodeId) (d : ℤ) (l r : Row) (c : ℤ) → f ≡ Ne x y d → ((row_at rows x).rep ≡ l.rep → ⊥) × ((row_at rows x).rep ≡ r.rep → ⊥) → MovedAtom rows f l r c → ⊥
far_way rows f x y d l r c e none m =
    let m' : MovedAtom rows (Ne x y d) l r c = subst (λ (z : Atom). MovedAtom rows z l r c) e m in
    elim m' [ inl k ↦ none.0 k.0 | inr k ↦ none.1 k.0 ]

pub returns-then-not-is_near-clause-no : goal.returns-then-not-is_near-clause-no
returns-then-not-is_near-clause-no c = λ _. far_way c.args.rows.now c.args.atom.now c.in-Ne.x c.in-Ne.y c.in-Ne.d c.args.left.now c.args.right.now _ c.in-Ne.is (c.is_near.ensures.no c.if-not-is_near.true)

pub row_of-first-requires-clause-there : goal.row_of-first-requires-clause-there
row_of-first-requires-clause-there c = (known_ne (pure_of c.args.known.now) c.args.rows.now c.args.atom.now c.in-Ne.x c.in-Ne.y c.in-Ne.d c.requires.sound c.requires.base c.in-Ne.is).0

pub row_of-second-requires-clause-there : goal.row_of-second-requires-clause-there
row_of-second-requires-clause-there c = (known_ne (pure_of c.args.known.now) c.args.rows.now c.args.atom.now c.in-Ne.x c.in-Ne.y c.in-Ne.d c.requires.sound c.requires.base c.in-Ne.is).1

first_way : (rows : List Row) (f : Atom) (x y : NodeId) (d : ℤ) (p q l r : Row) (c : ℤ) → f ≡ Ne x y d → p ≡ row_at rows x → q ≡ row_at rows y → MovedRows p q d l r c → MovedAtom rows f l r c
first_way rows f x y d p q l r c e a b m = rw e (inl (rw (← a, ← b) m))

second_way : (rows : List Row) (f : Atom) (x y : NodeId) (d : ℤ) (p q l r : Row) (c : ℤ) → f ≡ Ne x y d → p ≡ row_at rows x → q ≡ row_at rows y → MovedRows p q d r l (neg_ℤ c) → MovedAtom rows f l r c
second_way rows f x y d p q l r c e a b m = rw e (inr (rw (← a, ← b) m))

no_way : (rows : List Row) (f : Atom) (x y : NodeId) (d : ℤ) (p q l r : Row) (c : ℤ) → f ≡ Ne x y d → p ≡ row_at rows x → q ≡ row_at rows y → (MovedRows p q d l r c → ⊥) → (MovedRows p q d r l (neg_ℤ c) → ⊥) → MovedAtom rows f l r c → ⊥
no_way rows f x y d p q l r c e a b none none' m =
    let m' : MovedAtom rows (Ne x y d) l r c = subst (λ (z : Atom). MovedAtom rows z l r c) e m in
    elim m' [ inl k ↦ none (rw (a, b) k) | inr k ↦ none' (rw (a, b) k) ]

pub returns-then-is_moved-clause-yes : goal.returns-then-is_moved-clause-yes
returns-then-is_moved-clause-yes c =
    let f : SFits w64 c.in-Ne.d = search rules in
    let short = c.wide-offset.ensures.short in
    let k : c.wide-offset.result ≡ c.in-Ne.d = omega (arith, ints, c.wide-offset.ensures.is) in
    let e = same_cast c.wide-offset.result (fits_small c.wide-offset.result (omega (arith, ints)) (omega (arith, ints))) in
    let cs = c.requires.short in
    let g = same_cast c.args.c (fits_small c.args.c (omega (arith, ints)) (omega (arith, ints))) in
    λ _. first_way c.args.rows.now c.args.atom.now c.in-Ne.x c.in-Ne.y c.in-Ne.d c.row_of-first.result c.row_of-second.result c.args.left.now c.args.right.now c.args.c c.in-Ne.is c.row_of-first.ensures.is c.row_of-second.ensures.is (rw (g, e, k) at (c.if-is_moved.ensures.yes refl))

pub returns-else-is_moved-clause-yes : goal.returns-else-is_moved-clause-yes
returns-else-is_moved-clause-yes c =
    let f : SFits w64 c.in-Ne.d = search rules in
    let short = c.wide-offset.ensures.short in
    let k : c.wide-offset.result ≡ c.in-Ne.d = omega (arith, ints, c.wide-offset.ensures.is) in
    let e = same_cast c.wide-offset.result (fits_small c.wide-offset.result (omega (arith, ints)) (omega (arith, ints))) in
    let cs = c.requires.short in
    let g = same_cast c.args.c (fits_small c.args.c (omega (arith, ints)) (omega (arith, ints))) in
    let n : c.negated-back.result ≡ neg_ℤ c.args.c = omega (arith, ints, c.negated-back.ensures) in
    let h = same_cast c.negated-back.result (fits_small c.negated-back.result (omega (arith, ints, n, cs.0, cs.1)) (omega (arith, ints, n, cs.0, cs.1))) in
    λ t. second_way c.args.rows.now c.args.atom.now c.in-Ne.x c.in-Ne.y c.in-Ne.d c.row_of-first.result c.row_of-second.result c.args.left.now c.args.right.now c.args.c c.in-Ne.is c.row_of-first.ensures.is c.row_of-second.ensures.is (rw (h, e, k, n) at (c.is_moved-else-is_moved.ensures.yes t))

pub returns-else-is_moved-clause-no : goal.returns-else-is_moved-clause-no
returns-else-is_moved-clause-no c =
    let f : SFits w64 c.in-Ne.d = search rules in
    let short = c.wide-offset.ensures.short in
    let k : c.wide-offset.result ≡ c.in-Ne.d = omega (arith, ints, c.wide-offset.ensures.is) in
    let e = same_cast c.wide-offset.result (fits_small c.wide-offset.result (omega (arith, ints)) (omega (arith, ints))) in
    let cs = c.requires.short in
    let g = same_cast c.args.c (fits_small c.args.c (omega (arith, ints)) (omega (arith, ints))) in
    let n : c.negated-back.result ≡ neg_ℤ c.args.c = omega (arith, ints, c.negated-back.ensures) in
    let h = same_cast c.negated-back.result (fits_small c.negated-back.result (omega (arith, ints, n, cs.0, cs.1)) (omega (arith, ints, n, cs.0, cs.1))) in
    λ t. no_way c.args.rows.now c.args.atom.now c.in-Ne.x c.in-Ne.y c.in-Ne.d c.row_of-first.result c.row_of-second.result c.args.left.now c.args.right.now c.args.c c.in-Ne.is c.row_of-first.ensures.is c.row_of-second.ensures.is (rw (g, e, k) at (c.if-is_moved.ensures.no refl)) (rw (h, e, k, n) at (c.is_moved-else-is_moved.ensures.no t))
