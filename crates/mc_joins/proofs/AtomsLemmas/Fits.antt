-- The atoms of a canonical list may be written.
use Rattle.std.proofs.Common.{◌≡◌, ◌⊎◌, ℕ, ℤ, ◌+ℤ◌, ◌<ℤ◌, List, [], Bool, None, Some, slice_get, subst, inl, inr, arith}
use Rattle.std.proofs.lemmas.Int.{ints}
use Rattle.mc_base.specs.declared.ids.NodeId.{NodeId}
use Rattle.mc_base.specs.declared.plain.Atom.{Atom}
use Rattle.mc_base.specs.declared.plain.Atom.TheVariants.{Eq, Ne, In}
use Rattle.mc_base.specs.Nodes.{null}
use Rattle.mc_pure.specs.Pure as begin
use Rattle.mc_pure.specs.Pure.{Pure, Base, IsNode, HasKind, AreOfOneKind, IsOffset, IsWellFormed, written, kind, block, apart}
use Rattle.mc_pure.specs.Known.{IsFit}
use Rattle.mc_pure.specs.Derived.{Follows, IsFalse}
use Rattle.mc_pure.specs.Normal.{low, high}
use Rattle.mc_pure.specs.Classes.{HasNormalForm, NormalSaysAll}
use Rattle.mc_pure_ops.specs.declared.canon.gaps.Gap.{Gap}
use Rattle.mc_pure_ops.specs.Canon.Left.{IsLeastLeft, IsRangeLeft, IsClassLeft}
use Rattle.mc_pure_ops.proofs.CanonLemmas.Exact.{IsDifferenceLeft}
use Rattle.mc_pure.proofs.Changing.{same_node}
use Rattle.mc_pure_ops.proofs.CanonLemmas.Moving.{apart_to, range_bounds}
use Rattle.mc_pure_ops.proofs.JoinLemmas.Follow.{not_below, range_full, eq_offset}
use Rattle.mc_rules_logic.proofs.FoldLemmas.KindsAgree.{Parted, IsNumber, KindsAgree, number_back, agree}
use Rattle.mc_joins.proofs.AtomsLemmas.Listing.{least_range}

module _ (says : NormalSaysAll) (p : Pure) (fit : IsFit p) (true_p : IsFalse p → ⊥) (form : HasNormalForm p) (bare : p.starts ≡ []) where
  no_start : (i : ℕ) (a : NodeId) → slice_get p.starts i ≡ Some a → ⊥
  no_start i a e = let none : slice_get {X = NodeId} [] i ≡ Some a = subst (λ (ns : List NodeId). slice_get ns i ≡ Some a) bare e in cc

  written_agrees : (f : Atom) → IsWellFormed p.kinds f → KindsAgree p f
  written_agrees (Eq a b c) w = inl w.0
  written_agrees (Ne a b c) w = inl w.0
  written_agrees (In a lo hi) w = tt

  base_agrees : (f : Atom) → Base p f → KindsAgree p f
  base_agrees f (written i e) = written_agrees f (fit.written i f e)
  base_agrees _ begin.zero = tt
  base_agrees _ (kind i e) = tt
  base_agrees _ (block i e) = tt
  base_agrees _ (apart {a} i j ne x y) = absurd (no_start i a x)

  -- the least of a class that is a number is node 0
  least_number : (b : NodeId) → IsLeastLeft p None b → IsNumber p b → b ≡ null
  least_number b l x = let less = l.least null x.0 tt x.1 in same_node b null (omega arith)

  pub range_well : (f : Atom) → IsRangeLeft p None f → IsWellFormed p.kinds f
  range_well (Eq a b c) k = absurd k.0
  range_well (Ne a b c) k = absurd k.0
  range_well (In n lo hi) k =
      let there : IsNode p.kinds n = (k.0.0, inr k.0.2) in
      let ends = range_bounds p n lo hi there k.0.3 in
      let full = not_below lo hi (range_full p true_p n lo hi k.0.3) in
      (there, (omega (arith, ints, ends.0), omega (arith, ints, ends.1, full)), (omega (arith, ints, ends.0, full), omega (arith, ints, ends.1)))

  pub class_well : (f : Atom) → IsClassLeft p None f → IsWellFormed p.kinds f
  class_well (Ne a b c) k = absurd k
  class_well (In n lo hi) k = absurd k
  class_well (Eq a b c) k = elim (agree p base_agrees (Eq a b c) k.5) [
    | inl one ↦ (one, eq_offset p true_p a b c k.2 k.4.node k.5)
    | inr num ↦ absurd (k.1 (least_number b k.4 (number_back p a b c k.5 num)))
  ]

  -- nodes whose ranges are not apart
  module _ (i j : NodeId) (c : ℤ) (l : IsLeastLeft p None i) (m : IsLeastLeft p None j) (meet : (high (form.nf i) <ℤ (low (form.nf j) +ℤ c)) ⊎ ((high (form.nf j) +ℤ c) <ℤ low (form.nf i)) → ⊥) where
    offset_well : IsOffset c
    offset_well =
        let x = range_bounds p i _ _ l.node (least_range says p fit true_p form i l.node) in
        let y = range_bounds p j _ _ m.node (least_range says p fit true_p form j m.node) in
        let u = not_below (low (form.nf j) +ℤ c) (high (form.nf i)) (λ w. meet (inl w)) in
        let v = not_below (low (form.nf i)) (high (form.nf j) +ℤ c) (λ w. meet (inr w)) in
        (omega (arith, ints, x.0, y.1, v), omega (arith, ints, x.1, y.0, u))

    not_parted : Parted p i j c → ⊥
    not_parted r =
        let x = (least_range says p fit true_p form i l.node).least r.lo r.hi r.left in
        let y = (least_range says p fit true_p form j m.node).least r.m r.k r.right in
        elim r.apart [
          | inl w ↦ meet (inl (omega (arith, ints, w, x.1, y.0)))
          | inr w ↦ meet (inr (omega (arith, ints, w, x.0, y.1)))
        ]

    kind_well : Follows p (Ne i j c) → AreOfOneKind p.kinds i j
    kind_well d = elim (agree p base_agrees (Ne i j c) d) [
      | inl one ↦ one
      | inr more ↦ elim more [
        | inl num ↦ (m.node.0, inl (least_number i l num), m.node.1)
        | inr rest ↦ elim rest [
          | inl num ↦ (l.node.0, l.node.1, inl (least_number j m num))
          | inr r ↦ absurd (not_parted r)
        ]
      ]
    ]

  pub difference_well : (inside : Bool) (f : Atom) → IsDifferenceLeft p None p.starts inside f → IsWellFormed p.kinds f
  difference_well inside (Eq a b c) k = absurd k
  difference_well inside (In n lo hi) k = absurd k
  difference_well inside (Ne i j c) k =
      let g : Gap = record { left = i; right = j; by = c } in
      let meet = λ (w : (high (form.nf i) <ℤ (low (form.nf j) +ℤ c)) ⊎ ((high (form.nf j) +ℤ c) <ℤ low (form.nf i))).
      k.4 (inl (apart_to p g _ _ _ _ (least_range says p fit true_p form i k.0.node) (least_range says p fit true_p form j k.1.node) w)) in
      (kind_well i j c k.0 k.1 meet k.3, offset_well i j c k.0 k.1 meet)
