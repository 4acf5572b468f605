use Rattle.std.proofs.Common.{◌≡◌, ◌≢◌, ℤ, ◌≤ℤ◌, ◌<ℤ◌, ◌⊎◌, refl, inl, inr, arith}
use Rattle.std.proofs.lemmas.Int.{ints}
use Rattle.mc_pure.specs.declared.rows.Row.{Row}
use Rattle.mc_pure.specs.declared.rows.Span.{Span}
use Rattle.mc_pure.specs.declared.rows.Change.{Change}
use Rattle.mc_pure.proofs.Clean.{same_cast, fits_small}
use Rattle.mc_pure.specs.Steps.{IsPin, IsCut, CutTo}
use Rattle.mc_pure.specs.declared.steps.Step.TheVariants.{Stay, To}
use Rattle.mc_pure.proofs.steps.cut.Goals as goal

pinned_at : (r : Row) (lo hi : ℤ) (n : Span) (g : Change) → n.lo ≡ lo → n.hi ≡ hi → n.lo ≤ℤ n.hi → ((r.lo <ℤ n.lo) ⊎ (n.hi <ℤ r.hi)) → n.lo ≡ n.hi → IsPin r.rep n.lo g → CutTo r lo hi (To g)
pinned_at r lo hi n g a b full out one k = rw (← a, ← b) (full, out, inl (one, k))

cut_at : (r : Row) (lo hi : ℤ) (n : Span) (g : Change) → n.lo ≡ lo → n.hi ≡ hi → n.lo ≤ℤ n.hi → ((r.lo <ℤ n.lo) ⊎ (n.hi <ℤ r.hi)) → n.lo ≢ n.hi → IsCut r n.lo n.hi g → CutTo r lo hi (To g)
cut_at r lo hi n g a b full out one k = rw (← a, ← b) (full, out, inr (one, k))

stay_at : (r : Row) (lo hi : ℤ) (n : Span) → n.lo ≡ lo → n.hi ≡ hi → (n.lo ≤ℤ r.lo) × (r.hi ≤ℤ n.hi) → CutTo r lo hi Stay
stay_at r lo hi n a b k = rw (← a, ← b) k

pub returns-then-is_single : goal.returns-then-is_single
returns-then-is_single c =
    let off = c.requires.off in
    let e = same_cast c.args.row.now.off (fits_small c.args.row.now.off (omega (arith, ints)) (omega (arith, ints))) in
    let a = c.class_span-old.ensures in
    let b = c.lowered-other.ensures in
    let m = c.meet-new.ensures in
    pinned_at c.args.row.now _ _ c.meet-new.result c.pinned.result (cc (e, a.lo, b.lo, m.lo)) (cc (e, a.hi, b.hi, m.hi)) (c.if-is_empty.ensures.no refl) (rw (← a.lo, ← a.hi) (c.if-sticks_out.ensures.yes refl)) (c.if-is_single.ensures.yes refl) c.pinned.ensures

pub returns-else-is_single : goal.returns-else-is_single
returns-else-is_single c =
    let off = c.requires.off in
    let e = same_cast c.args.row.now.off (fits_small c.args.row.now.off (omega (arith, ints)) (omega (arith, ints))) in
    let a = c.class_span-old.ensures in
    let b = c.lowered-other.ensures in
    let m = c.meet-new.ensures in
    let k = c.change_to.ensures in
    cut_at c.args.row.now _ _ c.meet-new.result c.change_to.result (cc (e, a.lo, b.lo, m.lo)) (cc (e, a.hi, b.hi, m.hi)) (c.if-is_empty.ensures.no refl) (rw (← a.lo, ← a.hi) (c.if-sticks_out.ensures.yes refl)) (c.if-is_single.ensures.no refl) (record { gone_is = k.gone; keep_is = k.keep; by_is = k.by; lo_is = k.lo; hi_is = k.hi })

pub returns-else-sticks_out : goal.returns-else-sticks_out
returns-else-sticks_out c =
    let off = c.requires.off in
    let e = same_cast c.args.row.now.off (fits_small c.args.row.now.off (omega (arith, ints)) (omega (arith, ints))) in
    let a = c.class_span-old.ensures in
    let b = c.lowered-other.ensures in
    let m = c.meet-new.ensures in
    let n = c.if-sticks_out.ensures.no refl in
    stay_at c.args.row.now _ _ c.meet-new.result (cc (e, a.lo, b.lo, m.lo)) (cc (e, a.hi, b.hi, m.hi)) (rw (← a.lo) n.0, rw (← a.hi) n.1)
