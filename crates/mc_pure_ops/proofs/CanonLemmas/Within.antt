-- What the ranges and equalities of a list give of the nodes that are left.
use Rattle.std.proofs.Common.{◌≡◌, ℕ, ◌⊎◌, ℤ, pos, ◌+ℤ◌, ◌-ℤ◌, ◌≤ℤ◌, ◌<ℤ◌, List, Option, Some, refl, sym, subst, inl, inr, arith}
use Rattle.std.proofs.lemmas.Int.{ints}
use Rattle.mc_base.specs.declared.ids.NodeId.{NodeId}
use Rattle.mc_base.specs.declared.plain.Kind.{Kind}
use Rattle.mc_base.specs.declared.plain.Atom.{Atom}
use Rattle.mc_base.specs.declared.plain.Atom.TheVariants.{Eq, Ne, In}
use Rattle.mc_base.specs.Nodes.{null}
use Rattle.mc_pure.specs.declared.rows.Row.{Row}
use Rattle.mc_pure.specs.Pure as begin
use Rattle.mc_pure.specs.Pure.{Pure, IsNode, kind_of, low_of, high_of, kind_atom}
use Rattle.mc_pure.specs.Derived.{Follows, IsFalse, HasRange, base, itself, shifted, widened, fixed, differs, differs_along, disjoint}
use Rattle.mc_pure.specs.Normal.{IsNormal}
use Rattle.mc_pure.specs.Classes.{NormalSaysAll}
use Rattle.mc_pure_ops.specs.declared.canon.gaps.Gap.{Gap}
use Rattle.mc_pure_ops.specs.Canon.Left.{IsLeft, IsLeastLeft, IsRangeLeft, IsClassLeft}
use Rattle.mc_pure_ops.specs.Canon.Gaps.{ArePair, IsPlain, gap_atom}
use Rattle.mc_pure_ops.proofs.CanonLemmas.Nodes.{in_as, ne_as, self_zero, meets}
use Rattle.mc_pure.proofs.Changing.{decide}
use Rattle.mc_pure_ops.proofs.JoinLemmas.Follow.{eq_as}

-- a disequality moved along two equalities
pub moved_ne : (r : Pure) (x y a b : NodeId) (d e h c : ℤ) → Follows r (Ne x y d) → Follows r (Eq x a e) → Follows r (Eq y b h) → c ≡ (h +ℤ d) -ℤ e → Follows r (Ne a b c)
moved_ne r x y a b d e h c f ex ey by = ne_as r (differs (differs_along (differs (differs_along f ey)) ex)) (omega (arith, ints))

is_narrow : (k : Kind) (lo hi : ℤ) → ((low_of k <ℤ lo) ⊎ (hi <ℤ high_of k)) ⊎ ((lo ≤ℤ low_of k) × (high_of k ≤ℤ hi))
is_narrow k lo hi = cases (low_of k) lo hi (high_of k)
  where
    cases : (a lo hi b : ℤ) → ((a <ℤ lo) ⊎ (hi <ℤ b)) ⊎ ((lo ≤ℤ a) × (b ≤ℤ hi))
    cases a lo hi b = grind (arith, ints)

module _ (law : NormalSaysAll) (p : Pure) (true_p : IsFalse p → ⊥) (nf : NodeId → Row) (n : IsNormal p nf) (lost : Option NodeId) (r : Pure) (nodes_in : (a : NodeId) → IsNode p.kinds a → IsLeft lost a → IsNode r.kinds a) (kinds_in : (a : NodeId) (k : Kind) → kind_of p.kinds a ≡ Some k → IsLeft lost a → Follows r (kind_atom a k)) (ranges_in : (f : Atom) → IsRangeLeft p lost f → Follows r f) (classes_in : (f : Atom) → IsClassLeft p lost f → Follows r f) where
  pub range_in : (a : NodeId) (lo hi : ℤ) → IsLeft lost a → HasRange p a lo hi → Follows r (In a lo hi)
  range_in a lo hi w h = elim (decide a null) [
    | inl e ↦
        let z = subst (λ (x : NodeId). Follows p (In x (pos 0) (pos 0))) (sym e) (base begin.zero) in
        let m = meets p true_p a lo hi (pos 0) (pos 0) h.follows z in
        subst (λ (x : NodeId). Follows r (In x lo hi)) (sym e) (widened (base begin.zero) m.0 m.1)
    | inr ne ↦
        let there = (law p nf n (In a lo hi) h.follows).0 in
        elim there.1 [
          | inl e ↦ absurd (ne e)
          | inr e ↦ elim (is_narrow there.0 lo hi) [
            | inl v ↦ ranges_in (In a lo hi) ((there.0, ne, e, h, v), w)
            | inr v ↦ widened (kinds_in a there.0 e w) v.0 v.1
          ]
        ]
  ]

  -- a node of null's class is one number
  single : (x : NodeId) (e : ℤ) → Follows p (Eq x null e) → HasRange p x e e
  single x e d =
      let one : Follows p (In x e e) = in_as p (shifted d (base begin.zero)) (omega (arith, ints)) (omega (arith, ints)) in
      record { follows = one; least = λ m k f. let w = meets p true_p x e e m k one f in (w.1, w.0) }

  pub class_in : (x b : NodeId) (e : ℤ) → IsLeft lost x → IsLeastLeft p lost b → Follows p (Eq x b e) → Follows r (Eq x b e)
  class_in x b e w l d =
      let there = (law p nf n (Eq x b e) d).0 in
      elim (decide x b) [
        | inl s ↦
            let z = self_zero p true_p x e (eq_as p d refl (sym s) refl) in
            eq_as r (itself (nodes_in x there w)) refl s (sym z)
        | inr ne ↦ elim (decide b null) [
          | inl s ↦
              let x_in = range_in x e e w (single x e (eq_as p d refl s refl)) in
              eq_as r (fixed x_in (base begin.zero)) refl (sym s) (omega (arith, ints))
          | inr nz ↦ classes_in (Eq x b e) (ne, nz, there, w, l, d)
        ]
      ]

  -- what is plain follows
  pub plain_in : (starts : List NodeId) → ((i j : ℕ) (x y : NodeId) → ArePair starts i j x y → IsLeft lost x × IsLeft lost y × Follows r (Ne x y (pos 0))) → (g : Gap) → IsLeastLeft p lost g.left → IsLeastLeft p lost g.right → IsPlain p starts g → Follows r (gap_atom g)
  plain_in starts pairs g gl gr (inl a) = disjoint (range_in g.left a.lo a.hi gl.left a.left_range) (range_in g.right a.m a.k gr.left a.right_range) a.apart
  plain_in starts pairs g gl gr (inr k) =
      let u = k.1 in
      let m = u.4 in
      let t = pairs k.0 u.0 u.1 u.2 u.3 in
      moved_ne r u.1 u.2 g.left g.right (pos 0) m.e m.h g.by t.2 (class_in u.1 g.left m.e t.0 gl m.left_equal) (class_in u.2 g.right m.h t.1 gr m.right_equal) m.by_is
