-- What is entailed holds in a normal form.
use Rattle.std.proofs.Common.{◌≡◌, ◌≢◌, ℤ, pos, ◌+ℤ◌, ◌-ℤ◌, neg_ℤ, ◌≤ℤ◌, refl, sym, ◌∙◌, inl, inr, arith}
use Rattle.std.proofs.lemmas.Int.{ints, clamps}
use Rattle.mc_base.specs.declared.ids.NodeId.{NodeId}
use Rattle.mc_base.specs.declared.plain.Atom.{Atom}
use Rattle.mc_base.specs.declared.plain.Atom.TheVariants.{Eq, Ne, In}
use Rattle.mc_pure.specs.declared.rows.Row.{Row}
use Rattle.mc_pure.specs.Pure.{Pure, IsNode, Base}
use Rattle.mc_pure.specs.Derived.{Follows, IsFalse, base, itself, turned, chained, shifted, met, widened, fixed, differs, differs_along, raised, lowered, disjoint, empty, apart, more}
use Rattle.mc_pure.specs.Normal.{low, high, Listed, Apart, Holds, IsNormal}

equal-swap : (a b c : ℤ) → a ≡ b +ℤ c → b ≡ a +ℤ neg_ℤ c
equal-swap a b c e = omega (arith, ints)

neg-neg : (c : ℤ) → neg_ℤ (neg_ℤ c) ≡ c
neg-neg c = omega (arith, ints)

apart-swap : (r s : Row) (c : ℤ) → Apart r s c → Apart s r (neg_ℤ c)
apart-swap r s c (inl p) = inr (omega (arith, ints))
apart-swap r s c (inr p) = inl (omega (arith, ints))

apart-move : (r s t : Row) (c e : ℤ) → low s ≡ low t +ℤ e → high s ≡ high t +ℤ e → Apart r s c → Apart r t (c +ℤ e)
apart-move r s t c e p q (inl x) = inl (omega (arith, ints))
apart-move r s t c e p q (inr x) = inr (omega (arith, ints))

from-pin : (lo hi off k : ℤ) → k ≤ℤ (lo +ℤ off) → (hi +ℤ off) ≤ℤ k → lo ≤ℤ hi → lo ≡ hi
from-pin lo hi off k p q r = omega (arith, ints)

up-one : (a k : ℤ) → k ≤ℤ a → (a ≡ k → ⊥) → (k +ℤ pos 1) ≤ℤ a
up-one a k p q = omega (arith, ints)

down-one : (a k : ℤ) → a ≤ℤ k → (a ≡ k → ⊥) → a ≤ℤ (k -ℤ pos 1)
down-one a k p q = omega (arith, ints)

module _ (facts : Pure) (nf : NodeId → Row) (n : IsNormal facts nf) where
  same-range : (a b : NodeId) (c : ℤ) → Holds facts nf (Eq a b c) → (low (nf a) ≡ low (nf b) +ℤ c) × (high (nf a) ≡ high (nf b) +ℤ c)
  same-range a b c h =
      let k = n.coherent a b h.0 h.1 h.2 in
      let off = h.3 in
      let lo = k.0 in
      let hi = k.1 in
      (omega (arith, ints), omega (arith, ints))

  listed-swap : (a b : NodeId) (c : ℤ) → Listed facts nf a b c → Listed facts nf a b (neg_ℤ (neg_ℤ c))
  listed-swap a b c h = rw (neg-neg c) h

  -- moving the right side along an equality
  listed-right : (a b d : NodeId) (c e : ℤ) → Holds facts nf (Eq b d e) → Listed facts nf a b c → Listed facts nf a d (c +ℤ e)
  listed-right a b d c e h l =
      let m = l.4 in
      let by = m.by in
      let off = h.3 in
      (l.0, l.1, l.2, l.3, record { left = m.left; right = m.right ∙ h.2; by = omega (arith, ints) })

  listed-left : (a b d : NodeId) (c e : ℤ) → Holds facts nf (Eq b d e) → Listed facts nf b a (neg_ℤ c) → Listed facts nf d a (neg_ℤ (c +ℤ e))
  listed-left a b d c e h l =
      let m = l.4 in
      let by = m.by in
      let off = h.3 in
      (l.0, l.1, l.2, l.3, record { left = m.left ∙ h.2; right = m.right; by = omega (arith, ints) })

  -- a listed disequality with a fixed right side is not met at either end
  listed-ends : (a b : NodeId) (c : ℤ) → IsNode facts.kinds a → IsNode facts.kinds b → (nf b).lo ≡ (nf b).hi → Listed facts nf a b c → (low (nf a) ≢ low (nf b) +ℤ c) × (high (nf a) ≢ low (nf b) +ℤ c)
  listed-ends a b c na nb pin l =
      let m = l.4 in
      let k = n.known l.0 l.1 l.2 l.3 in
      let left = n.coherent l.0 a k.0 na m.left in
      let right = n.coherent l.1 b k.1 nb m.right in
      let fixed : (nf l.1).lo ≡ (nf l.1).hi = right.0 ∙ pin ∙ sym right.1 in
      let apart = n.narrow l.0 l.1 l.2 l.3 fixed in
      let by = m.by in
      (λ e. apart.0 (omega (arith, ints, left.0, right.0)), λ e. apart.1 (omega (arith, ints, left.1, right.0)))

  listed-ends' : (a b : NodeId) (c : ℤ) → IsNode facts.kinds a → IsNode facts.kinds b → (nf b).lo ≡ (nf b).hi → Listed facts nf b a (neg_ℤ c) → (low (nf a) ≢ low (nf b) +ℤ c) × (high (nf a) ≢ low (nf b) +ℤ c)
  listed-ends' a b c na nb pin l =
      let m = l.4 in
      let k = n.known l.0 l.1 l.2 l.3 in
      let left = n.coherent l.0 b k.0 nb m.left in
      let right = n.coherent l.1 a k.1 na m.right in
      let fixed : (nf l.0).lo ≡ (nf l.0).hi = left.0 ∙ pin ∙ sym left.1 in
      let apart = n.narrow' l.0 l.1 l.2 l.3 fixed in
      let by = m.by in
      (λ e. apart.0 (omega (arith, ints, left.0, right.0)), λ e. apart.1 (omega (arith, ints, left.0, right.1)))

  -- a disequality that holds, with a fixed right side, is not met at either end
  ends : (a b : NodeId) (c : ℤ) → (nf b).lo ≡ (nf b).hi → Holds facts nf (Ne a b c) → (low (nf a) ≢ low (nf b) +ℤ c) × (high (nf a) ≢ low (nf b) +ℤ c)
  ends a b c pin h =
      let full = n.full a h.0 in
      elim h.2 [
        | inl p ↦ elim p [
          | inl q ↦ (λ e. omega (arith, ints), λ e. omega (arith, ints))
          | inr q ↦ (λ e. omega (arith, ints), λ e. omega (arith, ints))
        ]
        | inr p ↦ elim p [
          | inl l ↦ listed-ends a b c h.0 h.1 pin l
          | inr l ↦ listed-ends' a b c h.0 h.1 pin l
        ]
      ]

  pub complete : {f : Atom} → Follows facts f → Holds facts nf f
  complete (base {f} b) = at f b
    where
      at : (f : Atom) → Base facts f → Holds facts nf f
      at (Eq a b c) x = n.equals a b c x
      at (In a l h) x = n.ranges a l h x
      at (Ne a b c) x = let k = n.known a b c x in (k.0, k.1, inr (inl (a, b, c, x, record { left = refl; right = refl; by = refl })))
  complete (itself {a} x) = (x, x, refl, omega (arith, ints))
  complete (turned {a} {b} {c} d) = let h = complete d in (h.1, h.0, sym h.2, equal-swap (nf a).off (nf b).off c h.3)
  complete (chained d e) = let x = complete d in let y = complete e in (x.0, y.1, x.2 ∙ y.2, omega (arith, ints, x.3, y.3))
  complete (shifted {a} {b} {c} d e) =
      let x = complete d in let y = complete e in let s = same-range a b c x in
      (x.0, omega (arith, ints, s.0, y.1), omega (arith, ints, s.1, y.2))
  complete (met d e) = let x = complete d in let y = complete e in (x.0, omega (arith, ints, clamps, x.1, y.1), omega (arith, ints, clamps, x.2, y.2))
  complete (widened d p q) = let x = complete d in (x.0, omega (arith, ints, x.1), omega (arith, ints, x.2))
  complete (fixed {a} {b} {k} {m} d e) =
      let x = complete d in let y = complete e in
      let p = from-pin (nf a).lo (nf a).hi (nf a).off k x.1 x.2 (n.full a x.0) in
      let q = from-pin (nf b).lo (nf b).hi (nf b).off m y.1 y.2 (n.full b y.0) in
      let same = n.pinned a x.0 p ∙ sym (n.pinned b y.0 q) in
      let range = n.coherent a b x.0 y.0 same in
      (x.0, y.0, same, omega (arith, ints, p, q, range.0, x.1, x.2, y.1, y.2))
  complete (differs {a} {b} {c} d) =
      let x = complete d in (
        x.1,
        x.0,
        elim x.2 [
          | inl p ↦ inl (apart-swap (nf a) (nf b) c p)
          | inr p ↦ elim p [ inl l ↦ inr (inr (listed-swap a b c l)) | inr l ↦ inr (inl l) ]
        ],
      )
  complete (differs_along {a} {b} {d} {c} {e} s t) =
      let x = complete s in let y = complete t in let r = same-range b d e y in (
        x.0,
        y.1,
        elim x.2 [
          | inl p ↦ inl (apart-move (nf a) (nf b) (nf d) c e r.0 r.1 p)
          | inr p ↦ elim p [ inl l ↦ inr (inl (listed-right a b d c e y l)) | inr l ↦ inr (inr (listed-left a b d c e y l)) ]
        ],
      )
  complete (raised {a} {b} {c} {k} {hi} s t u) =
      let x = complete s in let y = complete t in let z = complete u in
      let full = n.full b y.0 in
      let pin = from-pin (nf b).lo (nf b).hi (nf b).off k y.1 y.2 full in
      let no = ends a b c pin x in
      (z.0, up-one (low (nf a)) (k +ℤ c) z.1 (λ e. no.0 (omega (arith, ints, y.1, y.2))), z.2)
  complete (lowered {a} {b} {c} {k} {lo} s t u) =
      let x = complete s in let y = complete t in let z = complete u in
      let full = n.full b y.0 in
      let pin = from-pin (nf b).lo (nf b).hi (nf b).off k y.1 y.2 full in
      let no = ends a b c pin x in
      (z.0, z.1, down-one (high (nf a)) (k +ℤ c) z.2 (λ e. no.1 (omega (arith, ints, y.1, y.2))))
  complete (disjoint {a} {b} {c} d e p) =
      let x = complete d in let y = complete e in
      (x.0, y.0, inl (elim p [ inl q ↦ inl (omega (arith, ints, x.2, y.1)) | inr q ↦ inr (omega (arith, ints, x.1, y.2)) ]))

  pub not_false : IsFalse facts → ⊥
  not_false (empty {a} p d) = let x = complete d in let f = n.full a x.0 in omega (arith, ints, x.1, x.2)
  not_false (more {a} {c} p d) = let x = complete d in p (omega (arith, ints, x.3))
  not_false (apart {a} d) =
      let x = complete d in let f = n.full a x.0 in
      elim x.2 [
        | inl p ↦ elim p [ inl q ↦ omega (arith, ints) | inr q ↦ omega (arith, ints) ]
        | inr p ↦ elim p [
          | inl l ↦ let by = l.4.by in n.differ l.0 l.1 l.2 l.3 (l.4.left ∙ sym l.4.right) (omega (arith, ints))
          | inr l ↦ let by = l.4.by in n.differ l.0 l.1 l.2 l.3 (l.4.left ∙ sym l.4.right) (omega (arith, ints))
        ]
      ]
