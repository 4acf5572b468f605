-- What is written of disequalities is exactly what does not follow plainly.
use Rattle.std.proofs.Common.{◌≡◌, ◌≢◌, ℕ, ◌⊎◌, ℤ, pos, ◌+ℤ◌, ◌-ℤ◌, neg_ℤ, List, Option, Some, None, slice_get, Bool, true, false, refl, sym, ◌∙◌, subst, inl, inr, arith}
use Rattle.std.proofs.lemmas.Int.{ints}
use Rattle.mc_base.specs.declared.ids.NodeId.{NodeId}
use Rattle.mc_base.specs.declared.plain.Atom.{Atom}
use Rattle.mc_base.specs.declared.plain.Atom.TheVariants.{Eq, Ne, In}
use Rattle.mc_pure.specs.declared.rows.Row.{Row}
use Rattle.mc_pure.specs.Pure as begin
use Rattle.mc_pure.specs.Pure.{Pure, IsNode, Base, written, kind, block, apart}
use Rattle.mc_pure.specs.Derived.{Follows, base, differs}
use Rattle.mc_pure.specs.Normal.{Holds, IsNormal}
use Rattle.mc_pure.specs.Classes.{NormalSaysAll}
use Rattle.mc_pure.specs.declared.classes.ClassPlace.{ClassPlace}
use Rattle.mc_pure_ops.specs.declared.canon.gaps.Gap.{Gap}
use Rattle.mc_pure_ops.specs.Canon.Left.{IsLeastLeft, IsPlace}
use Rattle.mc_pure_ops.specs.Canon.Gaps.{ArePair, IsMoved, StartsGive, IsPlain, IsTurned, gap_atom, turned_gap, Shows, Gives, GapOf, PairGives, AtomGives, DifferenceLeft}
use Rattle.mc_pure_ops.proofs.CanonLemmas.Moving.{apart_to, gap_true}
use Rattle.mc_pure_ops.proofs.CanonLemmas.Plain.{range_of, between}

-- a disequality of least nodes, turned as it is written, that does not follow plainly
abbrev pub IsDifferenceLeft : Pure → Option NodeId → List NodeId → Bool → Atom → Type 0
IsDifferenceLeft p lost starts inside (Ne i j c) =
    IsLeastLeft p lost i × IsLeastLeft p lost j × IsTurned inside (record { left = i; right = j; by = c }) × Follows p (Ne i j c)
    × (IsPlain p starts (record { left = i; right = j; by = c }) → ⊥)
IsDifferenceLeft p lost starts inside (Eq i j c) = ⊥
IsDifferenceLeft p lost starts inside (In i l h) = ⊥

neg_neg : (c : ℤ) → neg_ℤ (neg_ℤ c) ≡ c
neg_neg c = omega (arith, ints)

module _ (p : Pure) (lost : Option NodeId) (starts : List NodeId) (inside : Bool) (f : Atom) where
  shows_difference : (g : Gap) → IsLeastLeft p lost g.left → IsLeastLeft p lost g.right → Follows p (gap_atom g) → Shows p starts inside g f → IsDifferenceLeft p lost starts inside f
  shows_difference g l r d s = subst (λ (z : Atom). IsDifferenceLeft p lost starts inside z) (sym s.is) (l, r, s.turned, d, s.new)

  pair_true : (x y : NodeId) (d : ℤ) → Follows p (Ne x y d) → PairGives p lost starts inside x y d f → IsDifferenceLeft p lost starts inside f
  pair_true x y d w k =
      let l = subst (λ (z : NodeId). IsLeastLeft p lost z) (sym k.1.left) k.1.left_is.least in
      let r = subst (λ (z : NodeId). IsLeastLeft p lost z) (sym k.1.right) k.1.right_is.least in
      let t = gap_true p lost x y d k.0 k.1 w in
      elim k.2 [
        | inl s ↦ shows_difference k.0 l r t s
        | inr s ↦ shows_difference (turned_gap k.0) r l (differs t) s
      ]

  atom_true : (w : Atom) → Follows p w → AtomGives p lost starts inside w f → IsDifferenceLeft p lost starts inside f
  atom_true (Ne x y d) t k = pair_true x y d t k
  atom_true (Eq x y d) t k = absurd k
  atom_true (In x l h) t k = absurd k

  pub difference_true : (nodes : List NodeId) → ((i : ℕ) (a : NodeId) → slice_get nodes i ≡ Some a → slice_get p.starts i ≡ Some a) → DifferenceLeft p lost starts inside nodes f → IsDifferenceLeft p lost starts inside f
  difference_true nodes fewer (inl k) = atom_true k.0 (base (written k.1.0 k.1.1)) k.2
  difference_true nodes fewer (inr k) =
      let u = k.1.1 in
      pair_true u.0 u.1 (pos 0) (base (apart k.0 k.1.0 u.2.differ (fewer k.0 u.0 u.2.first) (fewer k.1.0 u.1 u.2.second))) u.3

  moved_gap : (x y : NodeId) (d : ℤ) (g : Gap) → GapOf p lost x y d g → IsMoved p x y d g
  moved_gap x y d g k = record {
    e = k.left_place.offset;
    h = k.right_place.offset;
    left_equal = subst (λ (z : NodeId). Follows p (Eq x z k.left_place.offset)) (sym k.left) k.left_is.equal;
    right_equal = subst (λ (z : NodeId). Follows p (Eq y z k.right_place.offset)) (sym k.right) k.right_is.equal;
    by_is = k.by;
  }

  moved_back : (x y : NodeId) (g : Gap) → IsMoved p x y (pos 0) g → IsMoved p y x (pos 0) (turned_gap g)
  moved_back x y g m = let by = m.by_is in record { e = m.h; h = m.e; left_equal = m.right_equal; right_equal = m.left_equal; by_is = omega (arith, ints) }

  -- what starts of blocks give is not written
  pair_plain : (i j : ℕ) (x y : NodeId) → ArePair starts i j x y → PairGives p lost starts inside x y (pos 0) f → ⊥
  pair_plain i j x y w k =
      let m = moved_gap x y (pos 0) k.0 k.1 in
      elim k.2 [
        | inl s ↦ s.new (inr (i, (j, x, y, w, m)))
        | inr s ↦ s.new (inr (j, (i, y, x, record { differ = λ e. w.differ (sym e); first = w.second; second = w.first }, moved_back x y k.0 m)))
      ]

  module _ (nodes : List NodeId) (each : (i j : ℕ) (x y : NodeId) → ArePair p.starts i j x y → ArePair nodes i j x y ⊎ ArePair starts i j x y) where
    base_made : (w : Atom) (x y : NodeId) (d : ℤ) → Base p w → w ≡ Ne x y d → PairGives p lost starts inside x y d f → DifferenceLeft p lost starts inside nodes f
    base_made w x y d (written place e) g k = inl (w, (place, e), subst (λ (z : Atom). AtomGives p lost starts inside z f) (sym g) k)
    base_made _ x y d begin.zero g k = cc
    base_made _ x y d (kind place e) g k = cc
    base_made _ x y d (block place e) g k = cc
    base_made _ x y d (apart {a} {b} i j ne ea eb) g k =
        let sa : a ≡ x = cc in
        let sb : b ≡ y = cc in
        let sd : pos 0 ≡ d = cc in
        let w : ArePair p.starts i j x y = record { differ = ne; first = subst (λ (z : NodeId). slice_get p.starts i ≡ Some z) sa ea; second = subst (λ (z : NodeId). slice_get p.starts j ≡ Some z) sb eb } in
        let k0 = subst (λ (z : ℤ). PairGives p lost starts inside x y z f) (sym sd) k in
        elim (each i j x y w) [
          | inl u ↦ inr (i, (j, (x, y, u, k0)))
          | inr u ↦ absurd (pair_plain i j x y u k0)
        ]

module _ (law : NormalSaysAll) (p : Pure) (nf : NodeId → Row) (n : IsNormal p nf) (lost : Option NodeId) (starts : List NodeId) (inside : Bool) (nodes : List NodeId) (each : (i j : ℕ) (x y : NodeId) → ArePair p.starts i j x y → ArePair nodes i j x y ⊎ ArePair starts i j x y) where
  place_in : (x b : NodeId) → IsNode p.kinds x → IsLeastLeft p lost b → (nf x).rep ≡ (nf b).rep → IsPlace p lost x (record { least = b; offset = (nf x).off -ℤ (nf b).off })
  place_in x b nx l e = record { least = l; equal = between law p nf n x b nx l.node e }

  pub difference_made : (f : Atom) → IsDifferenceLeft p lost starts inside f → DifferenceLeft p lost starts inside nodes f
  difference_made (Eq i j c) k = absurd k
  difference_made (In i l h) k = absurd k
  difference_made (Ne i j c) k =
      let h = law p nf n (Ne i j c) k.3 in
      let g : Gap = record { left = i; right = j; by = c } in
      let s : Shows p starts inside g (Ne i j c) = record { is = refl; turned = k.2; new = k.4 } in
      elim h.2 [
        | inl a ↦ absurd (k.4 (inl (apart_to p g _ _ _ _ (range_of law p nf n i h.0) (range_of law p nf n j h.1) a)))
        | inr l ↦ elim l [
          | inl u ↦
              let o = n.known u.0 u.1 u.2 u.3 in
              let by = u.4.by in
              let m : GapOf p lost u.0 u.1 u.2 g = record { left_place = record { least = i; offset = (nf u.0).off -ℤ (nf i).off }; right_place = record { least = j; offset = (nf u.1).off -ℤ (nf j).off }; left_is = place_in u.0 i o.0 k.0 u.4.left; right_is = place_in u.1 j o.1 k.1 u.4.right; left = refl; right = refl; by = omega (arith, ints) } in
              base_made p lost starts inside (Ne i j c) nodes each (Ne u.0 u.1 u.2) u.0 u.1 u.2 u.3 refl (g, m, inl s)
          | inr u ↦
              let o = n.known u.0 u.1 u.2 u.3 in
              let by = u.4.by in
              let t : Gap = record { left = j; right = i; by = neg_ℤ c } in
              let m : GapOf p lost u.0 u.1 u.2 t = record { left_place = record { least = j; offset = (nf u.0).off -ℤ (nf j).off }; right_place = record { least = i; offset = (nf u.1).off -ℤ (nf i).off }; left_is = place_in u.0 j o.0 k.1 u.4.left; right_is = place_in u.1 i o.1 k.0 u.4.right; left = refl; right = refl; by = omega (arith, ints) } in
              let back = subst (λ (z : ℤ). let w : Gap = record { left = i; right = j; by = z } in Shows p starts inside w (Ne i j c)) (sym (neg_neg c)) s in
              base_made p lost starts inside (Ne i j c) nodes each (Ne u.0 u.1 u.2) u.0 u.1 u.2 u.3 refl (t, m, inr back)
        ]
      ]
