-- Results that wrap, and what is written of them.
use Rattle.std.proofs.Common.{◌≡◌, ◌&&◌, List, [], ◌∷◌, Bool, true, false, Option, Some, None, FitsSigned, refl, ap, ap₂, ◌∙◌, arith, ℤ, pos, negsuc, ◌+ℤ◌, ◌-ℤ◌, ◌*ℤ◌, neg_ℤ, ◌≤ℤ◌}
use Rattle.std.specs.Prelude.{if◌then◌else◌, int_le}
use Rattle.std.specs.List.{AllByRecursion}
use Rattle.std.specs.Int.{int_wrap, w32}
use Rattle.std.proofs.lemmas.Bool.Decides.{Decides-int_eq}
use Rattle.std.proofs.lemmas.Int.{ints, int_wrap_fits, SFits-int_wrap}
use Rattle.mc_base.specs.declared.ids.NodeId.{NodeId}
use Rattle.mc_base.specs.declared.plain.Atom.{Atom}
use Rattle.mc_base.specs.declared.plain.Atom.TheVariants.{Eq, In}
use Rattle.mc_base.specs.declared.plain.Kind.TheVariants.{Int}
use Rattle.mc_base.specs.Atoms.{IsTrueAtom}
use Rattle.mc_base.specs.Kinds.{InKind}
use Rattle.mc_base.specs.Nodes.{Valuation}
use Rattle.mc_flow.specs.Values.{wrapped}
use Rattle.mc_base.specs.declared.ranges.Range.{Range}
use Rattle.mc_base.specs.Ranges.Range.{Holds, IsOutcome, IsLeastIntRange}
use Rattle.mc_rules_steps.specs.Steps.{is_single, stays_int, in_range, range_atoms, offset_atom, sum_offsets, difference_offsets, no_offsets}
use Rattle.mc_rules_steps.proofs.Lists.{all_append}
use Rattle.mc_rules_steps.proofs.Tests.{le_of}

-- a wrapped number is an `int`, and an `int` does not wrap
pub wrapped_int : (z : ℤ) → InKind Int (wrapped z)
wrapped_int z = let fits : FitsSigned w32 (int_wrap w32 z) = SFits-int_wrap w32 z in (omega (arith, ints), omega (arith, ints))

fits : (z : ℤ) → InKind Int z → FitsSigned w32 z
fits z h = let low = h.0 in let high = h.1 in omega (arith, ints)

pub wrapped_is : (z : ℤ) → InKind Int z → wrapped z ≡ z
wrapped_is z h = int_wrap_fits w32 z (fits z h)

both_true : (a b : Bool) → (a && b) ≡ true → (a ≡ true) × (b ≡ true)
both_true true b e = (refl, e)
both_true false b e = cc

-- a number in a range of one number is that number
single : (r : Range) (z : ℤ) → Holds r z → is_single r ≡ true → z ≡ r.lo
single r z h e =
    let same : r.lo ≡ r.hi = (Decides-int_eq r.lo r.hi).0 e in
    let low = h.0 in
    let high = h.1 in
    omega (arith, ints)

-- what is written of a result's offsets is true
abbrev pub OffsetsAreTrue : (ℤ → ℤ → ℤ) → (NodeId → NodeId → NodeId → Range → Range → List Atom) → Type 0
OffsetsAreTrue op offsets =
    (w : Valuation) (n a b : NodeId) (left right : Range)
    → Holds left (w a.0) → Holds right (w b.0) → w n.0 ≡ wrapped (op (w a.0) (w b.0)) → AllByRecursion (IsTrueAtom w) (offsets n a b left right)

offset_true : (w : Valuation) (n a : NodeId) (left right : Range) (add z : ℤ) → Holds left (w a.0) → w n.0 ≡ wrapped z → (is_single right ≡ true → z ≡ w a.0 +ℤ add) → AllByRecursion (IsTrueAtom w) (offset_atom n a left right add)
offset_true w n a left right add z l is sum = at (is_single right && stays_int left add) refl
  where
    at : (test : Bool) → (is_single right && stays_int left add) ≡ test → AllByRecursion (IsTrueAtom w) (if test then Eq n a add ∷ [] else [])
    at false e = tt
    at true e =
        let both = both_true (is_single right) (stays_int left add) e in
        let ends = both_true (int_le (negsuc 2147483647) (left.lo +ℤ add)) (int_le (left.hi +ℤ add) (pos 2147483647)) both.1 in
        let low : negsuc 2147483647 ≤ℤ (left.lo +ℤ add) = le_of (negsuc 2147483647) (left.lo +ℤ add) ends.0 in
        let high : (left.hi +ℤ add) ≤ℤ pos 2147483647 = le_of (left.hi +ℤ add) (pos 2147483647) ends.1 in
        let from = l.0 in
        let upto = l.1 in
        let value : z ≡ w a.0 +ℤ add = sum both.0 in
        let inside : InKind Int z = (omega (arith, ints), omega (arith, ints)) in
        (is ∙ wrapped_is z inside ∙ value, tt)

pub sum_offsets_true : OffsetsAreTrue (λ a b. a +ℤ b) sum_offsets
sum_offsets_true w n a b left right l r is =
    all_append (IsTrueAtom w) (offset_atom n a left right right.lo) (offset_atom n b right left left.lo)
    (offset_true w n a left right right.lo (w a.0 +ℤ w b.0) l is (λ e. ap (λ z. w a.0 +ℤ z) (single right (w b.0) r e)))
    (offset_true w n b right left left.lo (w a.0 +ℤ w b.0) r is (λ e. let same : w a.0 ≡ left.lo = single left (w a.0) l e in omega (arith, ints)))

pub difference_offsets_true : OffsetsAreTrue (λ a b. a -ℤ b) difference_offsets
difference_offsets_true w n a b left right l r is =
    offset_true w n a left right (neg_ℤ right.lo) (w a.0 -ℤ w b.0) l is (λ e. let same : w b.0 ≡ right.lo = single right (w b.0) r e in omega (arith, ints))

pub no_offsets_true : OffsetsAreTrue (λ a b. a *ℤ b) no_offsets
no_offsets_true w n a b left right l r is = tt

-- the range of a result
pub range_true : (op : ℤ → ℤ → ℤ) (w : Valuation) (n a b : NodeId) (left right : Range) (results : Option Range) → IsLeastIntRange (IsOutcome op left right) results
    → Holds left (w a.0) → Holds right (w b.0) → w n.0 ≡ wrapped (op (w a.0) (w b.0)) → AllByRecursion (IsTrueAtom w) (range_atoms op n left right results)
range_true op w n a b left right results least l r is = at (is_single left && is_single right) refl
  where
    within : (o : Option Range) → IsLeastIntRange (IsOutcome op left right) o → AllByRecursion (IsTrueAtom w) (in_range n o)
    within None h = tt
    within (Some range) h =
        let z : ℤ = op (w a.0) (w b.0) in
        let inside = h.0.all z (w a.0, w b.0, l, r, refl) in
        let low = inside.0 in
        let high = inside.1 in
        let from = h.1.1.0 in
        let upto = h.1.2.1 in
        let value : w n.0 ≡ z = is ∙ wrapped_is z (omega (arith, ints), omega (arith, ints)) in
        ((omega (arith, ints), omega (arith, ints)), tt)

    at : (test : Bool) → (is_single left && is_single right) ≡ test
        → AllByRecursion (IsTrueAtom w) (if test then In n (wrapped (op left.lo right.lo)) (wrapped (op left.lo right.lo)) ∷ [] else in_range n results)
    at false e = within results least
    at true e =
        let both = both_true (is_single left) (is_single right) e in
        let value : w n.0 ≡ wrapped (op left.lo right.lo) = is ∙ ap wrapped (ap₂ op (single left (w a.0) l both.0) (single right (w b.0) r both.1)) in
        ((omega (arith, ints), omega (arith, ints)), tt)

-- one more than the greatest `int` wraps to the least one
pub least_is : negsuc 2147483647 ≡ wrapped (pos 2147483648)
unfolding int_wrap
least_is = refl
