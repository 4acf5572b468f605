use Rattle.std.proofs.Common.{◌≡◌, ◌≢◌, ℤ, ◌+ℤ◌, ◌≤ℤ◌, refl, ◌∙◌, inl, inr, arith}
use Rattle.std.proofs.lemmas.Int.{ints, clamps}
use Rattle.std.specs.Int.{int_max, int_min}
use Rattle.mc_base.specs.Nodes.{null}
use Rattle.mc_pure.specs.declared.rows.Row.{Row}
use Rattle.mc_pure.specs.declared.rows.Span.{Span}
use Rattle.mc_pure.specs.declared.rows.Change.{Change}
use Rattle.mc_pure.proofs.Clean.{same_cast, fits_small}
use Rattle.mc_pure.specs.Steps.{IsPin, IsJoin, JoinTo}
use Rattle.mc_pure.specs.declared.steps.Step.TheVariants.{To}
use Rattle.mc_pure.proofs.steps.join.Goals as goal

pinned_at : (up down : Row) (by lo hi : ℤ) (n m : Span) (g : Change) → n.lo ≡ lo → n.hi ≡ hi → n.lo ≤ℤ n.hi → n.lo ≡ n.hi → down.rep ≢ null → m.lo ≡ n.lo +ℤ by → IsPin up.rep m.lo g → JoinTo up down by lo hi (To g)
pinned_at up down by lo hi n m g a b full one ne e k = rw (← a, ← b) (full, inl (one, ne, rw e at k))

join_at : (up down : Row) (by lo hi : ℤ) (n : Span) (g : Change) → n.lo ≡ lo → n.hi ≡ hi → n.lo ≤ℤ n.hi → (n.lo ≡ n.hi → down.rep ≡ null) → IsJoin up down by n.lo n.hi g → JoinTo up down by lo hi (To g)
join_at up down by lo hi n g a b full one k = rw (← a, ← b) (full, inr (one, k))

between : (a b lo hi : ℤ) (n : Span) → n.lo ≡ int_max a lo → n.hi ≡ int_min b hi → n.lo ≤ℤ n.hi → (a ≤ℤ n.lo) × (n.hi ≤ℤ b)
between a b lo hi n p q full = (omega (arith, ints, clamps), omega (arith, ints, clamps))

pub raised-requires-clause-lo : goal.raised-requires-clause-lo
raised-requires-clause-lo c =
    let a = c.class_span-old.ensures in
    let m = c.meet-new.ensures in
    let f = c.if-is_empty.ensures.no refl in
    let k = between c.class_span-old.result.lo c.class_span-old.result.hi _ _ c.meet-new.result m.lo m.hi f in
    let x = c.requires.down_lo in
    let y = c.requires.down_hi in
    (omega (arith, ints, k.0, a.lo), omega (arith, ints, k.1, a.hi))

pub raised-requires-clause-hi : goal.raised-requires-clause-hi
raised-requires-clause-hi c =
    let a = c.class_span-old.ensures in
    let m = c.meet-new.ensures in
    let f = c.if-is_empty.ensures.no refl in
    let k = between c.class_span-old.result.lo c.class_span-old.result.hi _ _ c.meet-new.result m.lo m.hi f in
    let x = c.requires.down_lo in
    let y = c.requires.down_hi in
    (omega (arith, ints, k.0, a.lo), omega (arith, ints, k.1, a.hi))

pub returns-then-is_pinned : goal.returns-then-is_pinned
returns-then-is_pinned c =
    let by = c.requires.small in
    let e = same_cast c.args.by (fits_small c.args.by (omega (arith, ints)) (omega (arith, ints))) in
    let a = c.class_span-old.ensures in
    let u = c.class_span-upper.ensures in
    let b = c.lowered-other.ensures in
    let m = c.meet-new.ensures in
    let y = c.if-is_pinned.ensures.yes refl in
    pinned_at c.args.up.now c.args.down.now c.args.by _ _ c.meet-new.result c.raised.result c.pinned.result (cc (e, a.lo, u.lo, b.lo, m.lo)) (cc (e, a.hi, u.hi, b.hi, m.hi)) (c.if-is_empty.ensures.no refl) y.0 y.1 (cc (e, c.raised.ensures.lo)) c.pinned.ensures

pub returns-else-is_pinned : goal.returns-else-is_pinned
returns-else-is_pinned c =
    let by = c.requires.small in
    let e = same_cast c.args.by (fits_small c.args.by (omega (arith, ints)) (omega (arith, ints))) in
    let a = c.class_span-old.ensures in
    let u = c.class_span-upper.ensures in
    let b = c.lowered-other.ensures in
    let m = c.meet-new.ensures in
    let k = c.change_to.ensures in
    join_at c.args.up.now c.args.down.now c.args.by _ _ c.meet-new.result c.change_to.result (cc (e, a.lo, u.lo, b.lo, m.lo)) (cc (e, a.hi, u.hi, b.hi, m.hi)) (c.if-is_empty.ensures.no refl) (c.if-is_pinned.ensures.no refl) (record { gone_is = k.gone; keep_is = k.keep; by_is = k.by ∙ e; lo_is = k.lo; hi_is = k.hi })
