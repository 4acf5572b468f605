-- Least ranges of nodes.
use Rattle.std.proofs.Common.{◌≡◌, ℕ, suc, [], ◌∷◌, Bool, true, false, Some, slice_get, refl, ap, ap₂, sym, subst, eqb-true, inl, inr, arith, ℤ, pos, negsuc, ◌+ℤ◌, ◌≤ℤ◌, ◌<ℤ◌}
use Rattle.std.specs.Prelude.{◌==◌, int_le, if◌then◌else◌}
use Rattle.std.proofs.lemmas.Int.{ints}
use Rattle.mc_base.specs.declared.ids.NodeId.{NodeId}
use Rattle.mc_base.specs.declared.plain.Atom.TheVariants.{Ne, In}
use Rattle.mc_base.specs.declared.plain.Kind.{Kind}
use Rattle.mc_base.specs.declared.plain.Kind.TheVariants.{Int}
use Rattle.mc_pure.specs.Derived.{Follows, HasRange, base, widened, raised, disjoint}
use Rattle.mc_pure.specs.Pure.{Pure, Kinds, HasKind, kind_of, low_of, high_of}
use Rattle.mc_pure.specs.Pure as pure
use Rattle.mc_rules_steps.specs.JudgedLaws.{LeastRangeIsOne, LeastRangeHasNumber, LeastRangeIsOfInts}
use Rattle.mc_rules_steps.proofs.Tests.{le_of, lt_of}

pub least_range_is_one : LeastRangeIsOne
least_range_is_one p n lo hi m k h g =
    let a = h.least m k g.follows in
    let b = g.least lo hi h.follows in
    let low = a.0 in
    let high = a.1 in
    let back = b.0 in
    let forth = b.1 in
    (omega (arith, ints), omega (arith, ints))

-- an empty range could be narrowed on and on
not_empty : (p : Pure) (n : NodeId) (lo hi : ℤ) → HasRange p n lo hi → hi <ℤ lo → ⊥
not_empty p n lo hi h less =
    let apart : Follows p (Ne n n (pos 0)) = disjoint h.follows h.follows (inl (omega (arith, ints))) in
    let point : Follows p (In n lo lo) = widened h.follows (omega (arith, ints)) (omega (arith, ints)) in
    let moved : Follows p (In n (lo +ℤ pos 0) lo) = widened point (omega (arith, ints)) (omega (arith, ints)) in
    let narrow = h.least ((lo +ℤ pos 0) +ℤ pos 1) lo (raised apart point moved) in
    let above = narrow.0 in
    omega (arith, ints)

pub least_range_has_number : LeastRangeHasNumber
least_range_has_number p n lo hi h = at (int_le lo hi) refl
  where
    at : (b : Bool) → int_le lo hi ≡ b → lo ≤ℤ hi
    at true e = le_of lo hi e
    at false e = absurd (not_empty p n lo hi h (lt_of lo hi e))

-- the place of a node's kind
kind_place : (ks : Kinds) (n : NodeId) (kind : Kind) → kind_of ks n ≡ Some kind → (place : ℕ) × (slice_get ks place ≡ Some (n, kind))
kind_place [] n kind e = absurd (cc e)
kind_place (k ∷ ks) n kind e = at (λ h. kind_place ks n kind h) (k.0.0 == n.0) refl e
  where
    at : (kind_of ks n ≡ Some kind → (place : ℕ) × (slice_get ks place ≡ Some (n, kind))) → (b : Bool) → (k.0.0 == n.0) ≡ b → (if b then Some k.1 else kind_of ks n) ≡ Some kind → (place : ℕ) × (slice_get (k ∷ ks) place ≡ Some (n, kind))
    at others true same e =
        let node : k.0 ≡ n = ap (λ (m : ℕ). record { 0 = m }) (eqb-true k.0.0 n.0 same) in
        let own : k.1 ≡ kind = cc e in
        (0, ap₂ (λ (a : NodeId) (b : Kind). Some (a, b)) node own)
    at others false same e = let more = others e in (suc more.0, more.1)

-- a node of kind Int lies in `int`
in_int : (p : Pure) (n : NodeId) → HasKind p.kinds Int n → Follows p (In n (negsuc 2147483647) (pos 2147483647))
in_int p n (inl e) = subst (λ (m : NodeId). Follows p (In m (negsuc 2147483647) (pos 2147483647))) (sym e) (widened (base pure.zero) (omega (arith, ints)) (omega (arith, ints)))
in_int p n (inr e) = let place = kind_place p.kinds n Int e in base (pure.kind place.0 place.1)

pub least_range_is_of_ints : LeastRangeIsOfInts
least_range_is_of_ints p n r has h =
    let inside = h.least (negsuc 2147483647) (pos 2147483647) (in_int p n has) in
    (inside.0, least_range_has_number p n r.lo r.hi h, inside.1)
