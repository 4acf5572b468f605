-- What is written when a node is forgotten.
use Rattle.std.proofs.Common.{◌≡◌, ◌≢◌, ◌↔◌, ℕ, ◌⊎◌, ◌<◌, ℤ, pos, ◌+ℤ◌, ◌-ℤ◌, neg_ℤ, ◌<ℤ◌, List, [], ◌++◌, Option, Some, None, slice_get, Bool, true, false, append_assoc, refl, sym, ◌∙◌, ap, subst, inl, inr, arith}
use Rattle.std.proofs.lemmas.Int.{ints}
use Rattle.mc_base.specs.declared.ids.NodeId.{NodeId}
use Rattle.mc_base.specs.declared.plain.Kind.{Kind}
use Rattle.mc_base.specs.declared.plain.Atom.{Atom}
use Rattle.mc_base.specs.declared.plain.Atom.TheVariants.{Eq, Ne, In}
use Rattle.mc_base.specs.Nodes.{null}
use Rattle.mc_pure.specs.declared.rows.Row.{Row}
use Rattle.mc_pure.specs.Pure as begin
use Rattle.mc_pure.specs.Pure.{Pure, IsNode, Base, kind_of, kind_atom, written, kind, block, apart}
use Rattle.mc_pure.specs.Derived as derive
use Rattle.mc_pure.specs.Derived.{Follows, IsFalse, HasRange, base, turned, chained, widened, differs, disjoint, empty, more}
use Rattle.mc_pure.specs.Normal.{low, high, Apart, IsNormal}
use Rattle.mc_pure.specs.Rows.{IsTie}
use Rattle.mc_pure.specs.Classes.{HasNormalForm, NormalSaysAll}
use Rattle.mc_pure.specs.Laws.{FollowsFromMore}
use Rattle.mc_pure.specs.Canonical.{IsLeast, IsRangeAtom, IsClassAtom, IsDifference, IsListOf, ComesBefore, AreListed, plainly}
use Rattle.mc_pure.specs.declared.classes.ClassPlace.{ClassPlace}
use Rattle.mc_pure_ops.specs.declared.canon.gaps.Gap.{Gap}
use Rattle.mc_pure_ops.specs.Canon.Order.{Among, IsBefore, Added}
use Rattle.mc_pure_ops.specs.Canon.Left.{IsLeft, IsLeastLeft, IsPlace, IsLeftOut, LeavesOut, IsRangeLeft, IsClassLeft}
use Rattle.mc_pure_ops.specs.Canon.Gaps.{ArePair, IsPlain, IsTurned, gap_atom, turned_gap, DifferenceLeft}
use Rattle.mc_pure_ops.specs.Canon.Forgotten.{without_node, IsForgotten}
use Rattle.mc_pure.specs.Whole.{kinds_without, IsInside}
use Rattle.mc_pure_ops.proofs.CanonLemmas.Lists.{added_as}
use Rattle.mc_pure.proofs.Changing.{same_node, decide}
use Rattle.mc_pure.proofs.Placing.{place_of_kind}
use Rattle.mc_pure_ops.proofs.CanonLemmas.Nodes.{ne_as, place_kept, place_heir}
use Rattle.mc_pure_ops.proofs.CanonLemmas.Others as others
use Rattle.mc_pure_ops.proofs.CanonLemmas.Others.{kind_without, node_without, place_without, over_all}
use Rattle.mc_pure_ops.proofs.CanonLemmas.Plain.{range_of, plain}
use Rattle.mc_pure_ops.proofs.CanonLemmas.Exact.{IsDifferenceLeft, difference_true, difference_made}
use Rattle.mc_pure_ops.proofs.CanonLemmas.Within.{moved_ne, range_in, class_in, plain_in}
use Rattle.mc_pure_ops.proofs.CanonLemmas.Listing.{gained, listed, left_in, right_in, either_in, range_step, class_step, difference_step}
use Rattle.mc_pure_ops.proofs.JoinLemmas.Follow.{eq_as}

apart_or : (r s : Row) (c : ℤ) → Apart r s c ⊎ (Apart r s c → ⊥)
apart_or r s c = elim (first (high r) (low s +ℤ c)) [
  | inl x ↦ inl (inl x)
  | inr x ↦ elim (first (high s +ℤ c) (low r)) [
    | inl y ↦ inl (inr y)
    | inr y ↦ inr (λ k. elim k [ inl z ↦ x z | inr z ↦ y z ])
  ]
]
  where
    first : (a b : ℤ) → (a <ℤ b) ⊎ (a <ℤ b → ⊥)
    first a b = grind (arith, ints)

sign : (c : ℤ) → (pos 0 <ℤ c) ⊎ ((c ≡ pos 0) ⊎ (pos 0 <ℤ neg_ℤ c))
sign c = grind (arith, ints)

order : (i j : NodeId) → (j.0 < i.0) ⊎ ((i ≡ j) ⊎ (i.0 < j.0))
order i j = elim (numbers i.0 j.0) [ inl x ↦ inl x | inr x ↦ elim x [ inl y ↦ inr (inl (same i j y)) | inr y ↦ inr (inr y) ] ]
  where
    numbers : (m n : ℕ) → (n < m) ⊎ ((m ≡ n) ⊎ (m < n))
    numbers m n = grind arith

    same : (i j : NodeId) → i.0 ≡ j.0 → i ≡ j
    same i j e = same_node i j e

module _ (law : NormalSaysAll) (grows : FollowsFromMore) (p : Pure) (true_p : IsFalse p → ⊥) (nf : NodeId → Row) (n : IsNormal p nf) (least : (a : NodeId) → IsNode p.kinds a → IsLeast p (nf a).rep) (g : NodeId) (nz : g ≢ null) (heir : Option ClassPlace) (out : IsLeftOut p (Some g) heir) where
  abbrev lost : Option NodeId
  lost = Some g

  heir_place : (h : Option ClassPlace) (a : NodeId) → IsLeftOut p (Some g) h → IsNode p.kinds a → a ≢ g → (nf a).rep ≡ g → (P : ClassPlace) × IsPlace p lost a P
  heir_place None a o na w e = absurd (w (o.2 (subst (λ (z : NodeId). IsLeast p z) e (least a na)) a (nf a).off (eq_as p (n.sound a na).equal refl e refl)))
  heir_place (Some h) a o na w e =
      (record { least = h.least; offset = (nf a).off -ℤ h.offset }, place_heir p lost h a (record { least = (nf a).rep; offset = (nf a).off }) (record { least = h.least; offset = (nf a).off -ℤ h.offset }) o (least a na) (n.sound a na).equal (λ x. x e) refl refl)

  place_there : (a : NodeId) → IsNode p.kinds a → a ≢ g → (P : ClassPlace) × IsPlace p lost a P
  place_there a na w = elim (decide (nf a).rep g) [
    | inl e ↦ heir_place heir a out na w e
    | inr ne ↦ (record { least = (nf a).rep; offset = (nf a).off }, place_kept p lost a (record { least = (nf a).rep; offset = (nf a).off }) (least a na) (n.sound a na).equal ne)
  ]

  module _ (R E D I : List Atom) (rs : Added (IsRangeLeft p lost) [] R) (es : Added (IsClassLeft p lost) [] E) (ds : Added (DifferenceLeft p lost [] false p.starts) [] D) (is : Added (DifferenceLeft p lost [] true p.starts) [] I) where
    abbrev all : List Atom
    all = (R ++ (E ++ D)) ++ I

    abbrev q : Pure
    q = without_node p g all

    abbrev r : Pure
    r = plainly q (R ++ E)

    each : (i j : ℕ) (x y : NodeId) → ArePair p.starts i j x y → ArePair p.starts i j x y ⊎ (let none : List NodeId = [] in ArePair none i j x y)
    each i j x y w = inl w

    -- what is written follows, and leaves the node out
    range_true : (f : Atom) → IsRangeLeft p lost f → IsTie f × Follows p f × LeavesOut lost f
    range_true (In a l h) k = (tt, k.0.3.follows, k.1)
    range_true (Eq a b c) k = absurd k.0
    range_true (Ne a b c) k = absurd k.0

    class_true : (f : Atom) → IsClassLeft p lost f → IsTie f × Follows p f × LeavesOut lost f
    class_true (Eq a b c) k = (tt, k.5, (k.3, k.4.left))
    class_true (In a l h) k = absurd k
    class_true (Ne a b c) k = absurd k

    gap_true : (inside : Bool) (f : Atom) → IsDifferenceLeft p lost [] inside f → Follows p f × LeavesOut lost f
    gap_true inside (Ne i j c) k = (k.3, (k.0.left, k.1.left))
    gap_true inside (Eq a b c) k = absurd k
    gap_true inside (In a l h) k = absurd k

    tie_in : (f : Atom) → Among (R ++ E) f → IsTie f × Follows p f × LeavesOut lost f
    tie_in f m = elim (either_in R E f m) [
      | inl x ↦ range_true f (gained (IsRangeLeft p lost) R rs f x)
      | inr x ↦ class_true f (gained (IsClassLeft p lost) E es f x)
    ]

    made_true : (inside : Bool) (f : Atom) → DifferenceLeft p lost [] inside p.starts f → Follows p f × LeavesOut lost f
    made_true inside f k = gap_true inside f (difference_true p lost [] inside f p.starts (λ i a e. e) k)

    all_true : (f : Atom) → Among all f → Follows p f × LeavesOut lost f
    all_true f m = elim (either_in (R ++ (E ++ D)) I f m) [
      | inl x ↦ elim (either_in R (E ++ D) f x) [
        | inl y ↦ (let k = range_true f (gained (IsRangeLeft p lost) R rs f y) in (k.1, k.2))
        | inr y ↦ elim (either_in E D f y) [
          | inl z ↦ (let k = class_true f (gained (IsClassLeft p lost) E es f z) in (k.1, k.2))
          | inr z ↦ made_true false f (gained (DifferenceLeft p lost [] false p.starts) D ds f z)
        ]
      ]
      | inr x ↦ made_true true f (gained (DifferenceLeft p lost [] true p.starts) I is f x)
    ]

    base_true : (f : Atom) → Base q f → Follows p f × LeavesOut lost f
    base_true f (written place e) = all_true f (place, e)
    base_true _ begin.zero = (base begin.zero, λ e. nz (sym e))
    base_true _ (kind {n} {k} place e) = let w = place_without p.kinds g place n k e in (base (kind w.0 w.1), w.2)
    base_true _ (block place e) = cc
    base_true _ (apart i j ne x y) = cc

    node_true : (m : NodeId) → IsNode q.kinds m → IsNode p.kinds m
    node_true m h = (others.without_node p.kinds g m nz h).0

    to_p : (f : Atom) → Follows q f → Follows p f × LeavesOut lost f
    to_p f d = (grows q p node_true (λ h m. (base_true h m).0) f d, over_all q (λ m. IsLeft lost m) (λ m h. (others.without_node p.kinds g m nz h).1) (λ h m. (base_true h m).1) {f = f} d)

    -- what is written gives what followed
    nodes_in : (a : NodeId) → IsNode p.kinds a → IsLeft lost a → IsNode (kinds_without p.kinds g) a
    nodes_in a na w = node_without p.kinds g a na w

    kind_base : (s : Pure) → s.kinds ≡ kinds_without p.kinds g → (a : NodeId) (k : Kind) → kind_of p.kinds a ≡ Some k → IsLeft lost a → Follows s (kind_atom a k)
    kind_base s es a k e w =
        let m = place_of_kind s.kinds a k (ap (λ (z : _). kind_of z a) es ∙ kind_without p.kinds g a w ∙ e) in
        base (kind m.0 m.1)

    q_ranges : (f : Atom) → IsRangeLeft p lost f → Follows q f
    q_ranges f k = let m = left_in (R ++ (E ++ D)) I f (left_in R (E ++ D) f (rs.added f k)) in base (written m.0 m.1)

    q_classes : (f : Atom) → IsClassLeft p lost f → Follows q f
    q_classes f k = let m = left_in (R ++ (E ++ D)) I f (right_in R (E ++ D) f (left_in E D f (es.added f k))) in base (written m.0 m.1)

    q_range : (a : NodeId) (lo hi : ℤ) → IsLeft lost a → HasRange p a lo hi → Follows q (In a lo hi)
    q_range = range_in law p true_p nf n lost q nodes_in (kind_base q refl) q_ranges q_classes

    q_class : (x b : NodeId) (e : ℤ) → IsLeft lost x → IsLeastLeft p lost b → Follows p (Eq x b e) → Follows q (Eq x b e)
    q_class = class_in law p true_p nf n lost q nodes_in (kind_base q refl) q_ranges q_classes

    difference_in : (inside : Bool) (f : Atom) → IsDifferenceLeft p lost [] inside f → Follows q f
    difference_in false f k = let m = left_in (R ++ (E ++ D)) I f (right_in R (E ++ D) f (right_in E D f (ds.added f (difference_made law p nf n lost [] false p.starts each f k)))) in base (written m.0 m.1)
    difference_in true f k = let m = right_in (R ++ (E ++ D)) I f (is.added f (difference_made law p nf n lost [] true p.starts each f k)) in base (written m.0 m.1)

    turned_in : (inside : Bool) (w : Gap) → IsLeastLeft p lost w.left → IsLeastLeft p lost w.right → IsTurned inside w → Follows p (gap_atom w) → Follows q (gap_atom w)
    turned_in inside w l m t d = elim (apart_or (nf w.left) (nf w.right) w.by) [
      | inl a ↦ disjoint (q_range w.left _ _ l.left (range_of law p nf n w.left l.node)) (q_range w.right _ _ m.left (range_of law p nf n w.right m.node)) a
      | inr never ↦ difference_in inside (gap_atom w) (
        l,
        m,
        t,
        d,
        λ k. elim k [
          | inl a ↦ never (elim a.apart [
            | inl z ↦ (let x = law p nf n (In w.left a.lo a.hi) a.left_range.follows in let y = law p nf n (In w.right a.m a.k) a.right_range.follows in inl (omega (arith, ints, z, x.2, y.1)))
            | inr z ↦ (let x = law p nf n (In w.left a.lo a.hi) a.left_range.follows in let y = law p nf n (In w.right a.m a.k) a.right_range.follows in inr (omega (arith, ints, z, y.2, x.1)))
          ])
          | inr s ↦ (let e = s.1.3.first in cc)
        ],
      )
    ]

    least_in : (i j : NodeId) (c : ℤ) → IsLeastLeft p lost i → IsLeastLeft p lost j → Follows p (Ne i j c) → Follows q (Ne i j c)
    least_in i j c l m d =
        let w : Gap = record { left = i; right = j; by = c } in
        elim (order i j) [
          | inl x ↦ turned_in false w l m x d
          | inr x ↦ elim x [
            | inl e ↦ elim (sign c) [
              | inl y ↦ turned_in true w l m (e, y) d
              | inr y ↦ elim y [
                | inl z ↦ absurd (true_p (derive.apart {a = i} (subst (λ (u : NodeId). Follows p (Ne i u (pos 0))) (sym e) (ne_as p d z))))
                | inr z ↦ ne_as q (differs (turned_in true (turned_gap w) m l (sym e, z) (differs d))) (omega (arith, ints))
              ]
            ]
            | inr y ↦ ne_as q (differs (turned_in false (turned_gap w) m l y (differs d))) (omega (arith, ints))
          ]
        ]

    from_p : (f : Atom) → Follows p f → LeavesOut lost f → Follows q f
    from_p (In a l h) d w =
        let k = law p nf n (In a l h) d in
        widened (q_range a _ _ w (range_of law p nf n a k.0)) k.1 k.2
    from_p (Eq a b c) d w =
        let k = law p nf n (Eq a b c) d in
        let P = place_there a k.0 w.0 in
        let x = q_class a P.0.least P.0.offset w.0 P.1.least P.1.equal in
        let y = q_class b P.0.least (neg_ℤ c +ℤ P.0.offset) w.1 P.1.least (chained (turned d) P.1.equal) in
        eq_as q (chained x (turned y)) refl refl (omega (arith, ints))
    from_p (Ne a b c) d w =
        let k = law p nf n (Ne a b c) d in
        let P = place_there a k.0 w.0 in
        let Q = place_there b k.1 w.1 in
        let c' : ℤ = (Q.0.offset +ℤ c) -ℤ P.0.offset in
        let x = q_class a P.0.least P.0.offset w.0 P.1.least P.1.equal in
        let y = q_class b Q.0.least Q.0.offset w.1 Q.1.least Q.1.equal in
        let z = least_in P.0.least Q.0.least c' P.1.least Q.1.least (moved_ne p a b P.0.least Q.0.least c P.0.offset Q.0.offset c' d P.1.equal Q.1.equal refl) in
        moved_ne q P.0.least Q.0.least a b c' (neg_ℤ P.0.offset) (neg_ℤ Q.0.offset) c z (turned x) (turned y) (omega (arith, ints))

    same : (f : Atom) → Follows q f ↔ (Follows p f × LeavesOut lost f)
    same f = (to_p f, λ k. from_p f k.0 k.1)

    true_q : IsFalse q → ⊥
    true_q (empty {a} {lo} {hi} x d) = true_p (empty x (to_p (In a lo hi) d).0)
    true_q (derive.apart {a} d) = true_p (derive.apart (to_p (Ne a a (pos 0)) d).0)
    true_q (more {a} {c} x d) = true_p (more x (to_p (Eq a a c) d).0)

    -- the atoms of the list, as those of what is left
    range_to : (a : NodeId) (lo hi : ℤ) → HasRange p a lo hi → IsLeft lost a → HasRange q a lo hi
    range_to a lo hi h w = record { follows = from_p (In a lo hi) h.follows w; least = λ m k d. h.least m k (to_p (In a m k) d).0 }

    range_from : (a : NodeId) (lo hi : ℤ) → HasRange q a lo hi → HasRange p a lo hi × IsLeft lost a
    range_from a lo hi h =
        let w = to_p (In a lo hi) h.follows in
        (record { follows = w.0; least = λ m k d. h.least m k (from_p (In a m k) d w.1) }, w.1)

    least_to : (b : NodeId) → IsLeastLeft p lost b → IsLeast q b
    least_to b l = (node_without p.kinds g b l.node l.left, λ m c d. let w = to_p (Eq b m c) d in l.least m c w.1.1 w.0)

    least_from : (b : NodeId) → IsLeast q b → IsLeastLeft p lost b
    least_from b l =
        let w = others.without_node p.kinds g b nz l.0 in
        record { node = w.0; left = w.1; least = λ m c v d. l.1 m c (from_p (Eq b m c) d (w.1, v)) }

    range_atom_to : (f : Atom) → IsRangeAtom q f → IsRangeLeft p lost f
    range_atom_to (Eq a b c) k = absurd k
    range_atom_to (Ne a b c) k = absurd k
    range_atom_to (In a lo hi) k =
        let w = range_from a lo hi k.3 in
        ((k.0, k.1, sym (kind_without p.kinds g a w.1) ∙ k.2, w.0, k.4), w.1)

    range_atom_from : (f : Atom) → IsRangeLeft p lost f → IsRangeAtom q f
    range_atom_from (Eq a b c) k = absurd k.0
    range_atom_from (Ne a b c) k = absurd k.0
    range_atom_from (In a lo hi) k = (k.0.0, k.0.1, kind_without p.kinds g a k.1 ∙ k.0.2, range_to a lo hi k.0.3 k.1, k.0.4)

    class_atom_to : (f : Atom) → IsClassAtom q f → IsClassLeft p lost f
    class_atom_to (In a l h) k = absurd k
    class_atom_to (Ne a b c) k = absurd k
    class_atom_to (Eq a b c) k =
        let w = to_p (Eq a b c) k.3 in
        (k.0, k.1, (law p nf n (Eq a b c) w.0).0, w.1.0, least_from b k.2, w.0)

    class_atom_from : (f : Atom) → IsClassLeft p lost f → IsClassAtom q f
    class_atom_from (In a l h) k = absurd k
    class_atom_from (Ne a b c) k = absurd k
    class_atom_from (Eq a b c) k = (k.0, k.1, least_to b k.4, from_p (Eq a b c) k.5 (k.3, k.4.left))

    -- what is entailed by the ranges and equalities alone
    r_base : (f : Atom) → Base r f → (IsTie f × Follows p f) ⊎ ((i j : ℕ) × (x y : NodeId) × (let none : List NodeId = [] in ArePair none i j x y) × (f ≡ Ne x y (pos 0)))
    r_base f (written place e) = let k = tie_in f (place, e) in inl (k.0, k.1)
    r_base _ begin.zero = inl (tt, base begin.zero)
    r_base _ (kind {n} {k} place e) = let w = place_without p.kinds g place n k e in inl (tt, base (kind w.0 w.1))
    r_base _ (block place e) = cc
    r_base _ (apart i j ne x y) = cc

    none_fewer : (i : ℕ) (a : NodeId) → (let none : List NodeId = [] in slice_get none i ≡ Some a) → slice_get p.starts i ≡ Some a
    none_fewer i a e = cc

    r_plain : (i j : NodeId) (c : ℤ) → Follows r (Ne i j c) → IsPlain p [] (record { left = i; right = j; by = c })
    r_plain i j c d = plain law p nf n [] none_fewer grows r (node_true, r_base) i j c d

    r_ranges : (f : Atom) → IsRangeLeft p lost f → Follows r f
    r_ranges f k = let m = left_in R E f (rs.added f k) in base (written m.0 m.1)

    r_classes : (f : Atom) → IsClassLeft p lost f → Follows r f
    r_classes f k = let m = right_in R E f (es.added f k) in base (written m.0 m.1)

    no_pairs : (i j : ℕ) (x y : NodeId) → (let none : List NodeId = [] in ArePair none i j x y) → IsLeft lost x × IsLeft lost y × Follows r (Ne x y (pos 0))
    no_pairs i j x y w = let e = w.first in cc

    plain_r : (w : Gap) → IsLeastLeft p lost w.left → IsLeastLeft p lost w.right → IsPlain p [] w → Follows r (gap_atom w)
    plain_r w l m k = plain_in law p true_p nf n lost r nodes_in (kind_base r refl) r_ranges r_classes [] no_pairs w l m k

    difference_to : (f : Atom) → IsDifference q r f → IsDifferenceLeft p lost [] false f
    difference_to (Eq a b c) k = absurd k
    difference_to (In a l h) k = absurd k
    difference_to (Ne i j c) k =
        let l = least_from i k.0 in
        let m = least_from j k.1 in
        (l, m, k.2, (to_p (Ne i j c) k.3).0, λ w. k.4 (plain_r (record { left = i; right = j; by = c }) l m w))

    difference_from : (f : Atom) → IsDifferenceLeft p lost [] false f → IsDifference q r f
    difference_from (Eq a b c) k = absurd k
    difference_from (In a l h) k = absurd k
    difference_from (Ne i j c) k = (least_to i k.0, least_to j k.1, k.2, from_p (Ne i j c) k.3 (k.0.left, k.1.left), λ d. k.4 (r_plain i j c d))

    inside_to : (f : Atom) → IsInside q r f → IsDifferenceLeft p lost [] true f
    inside_to (Eq a b c) k = absurd k
    inside_to (In a l h) k = absurd k
    inside_to (Ne i j c) k =
        let l = least_from i k.0 in
        let m = subst (λ (z : NodeId). IsLeastLeft p lost z) k.1 l in
        (l, m, (k.1, k.2), (to_p (Ne i j c) k.3).0, λ w. k.4 (plain_r (record { left = i; right = j; by = c }) l m w))

    inside_from : (f : Atom) → IsDifferenceLeft p lost [] true f → IsInside q r f
    inside_from (Eq a b c) k = absurd k
    inside_from (In a l h) k = absurd k
    inside_from (Ne i j c) k = (least_to i k.0, k.2.0, k.2.1, from_p (Ne i j c) k.3 (k.0.left, k.1.left), λ d. k.4 (r_plain i j c d))

    next_difference : (f h : Atom) → IsDifference q r f → IsDifference q r h → IsBefore f h → ComesBefore f h
    next_difference (Eq a b c) h x y w = absurd x
    next_difference (In a l k) h x y w = absurd x
    next_difference (Ne a b c) (Eq i j k) x y w = absurd y
    next_difference (Ne a b c) (In i m k) x y w = absurd y
    next_difference (Ne a b c) (Ne i j k) x y w = difference_step a b i j c k w

    next_inside : (f h : Atom) → IsInside q r f → IsInside q r h → IsBefore f h → ComesBefore f h
    next_inside (Eq a b c) h x y w = absurd x
    next_inside (In a l k) h x y w = absurd x
    next_inside (Ne a b c) (Eq i j k) x y w = absurd y
    next_inside (Ne a b c) (In i m k) x y w = absurd y
    next_inside (Ne a b c) (Ne i j k) x y w = difference_step a b i j c k w

    canonical : IsListOf q (R ++ (E ++ D))
    canonical = record {
      ranges = R;
      equalities = E;
      differences = D;
      together = refl;
      ranges_listed = listed (IsRangeAtom q) R (range_step q true_q) (added_as (IsRangeLeft p lost) (IsRangeAtom q) [] R range_atom_to range_atom_from rs);
      equalities_listed = listed (IsClassAtom q) E (class_step q true_q) (added_as (IsClassLeft p lost) (IsClassAtom q) [] E class_atom_to class_atom_from es);
      differences_listed = listed (IsDifference q r) D next_difference (added_as (DifferenceLeft p lost [] false p.starts) (IsDifference q r) [] D (λ f k. difference_made law p nf n lost [] false p.starts each f (difference_to f k)) (λ f k. difference_from f (difference_true p lost [] false f p.starts (λ i a e. e) k)) ds);
    }

    inner_listed : AreListed (IsInside q r) I
    inner_listed = listed (IsInside q r) I next_inside (added_as (DifferenceLeft p lost [] true p.starts) (IsInside q r) [] I (λ f k. difference_made law p nf n lost [] true p.starts each f (inside_to f k)) (λ f k. inside_from f (difference_true p lost [] true f p.starts (λ i a e. e) k)) is)

    forgotten_all : IsForgotten p g all
    unfolding canonical
    forgotten_all = record {
      same = same;
      listed = record { list = R ++ (E ++ D); inner = I; together = refl; canonical = canonical; inner_listed = inner_listed };
    }

    pub forgotten : (atoms : List Atom) → atoms ≡ (R ++ (E ++ D)) ++ I → IsForgotten p g atoms
    forgotten atoms e = subst (λ (z : List Atom). IsForgotten p g z) (sym e) forgotten_all

-- the four lists, one after the other
pub forgotten_list : (law : NormalSaysAll) (grows : FollowsFromMore) (p : Pure) → (IsFalse p → ⊥) → HasNormalForm p → (g : NodeId) → g ≢ null → (lost : Option NodeId) (heir : Option ClassPlace) → lost ≡ Some g → IsLeftOut p lost heir → (R E D I first second atoms : List Atom) (s u : List NodeId) → s ≡ p.starts → u ≡ p.starts → Added (IsRangeLeft p lost) [] R → Added (IsClassLeft p lost) [] E → Added (DifferenceLeft p lost [] false s) [] D → Added (DifferenceLeft p lost [] true u) [] I → first ≡ R ++ E → second ≡ first ++ D → atoms ≡ second ++ I → IsForgotten p g atoms
forgotten_list law grows p t form g nz lost heir l out R E D I first second atoms s u es eu ra ea da ia f h a =
    let out' = subst (λ (z : Option NodeId). IsLeftOut p z heir) l out in
    let ra' = subst (λ (z : Option NodeId). Added (IsRangeLeft p z) [] R) l ra in
    let ea' = subst (λ (z : Option NodeId). Added (IsClassLeft p z) [] E) l ea in
    let da' = subst (λ (z : Option NodeId). Added (DifferenceLeft p z [] false p.starts) [] D) l (subst (λ (z : List NodeId). Added (DifferenceLeft p lost [] false z) [] D) es da) in
    let ia' = subst (λ (z : Option NodeId). Added (DifferenceLeft p z [] true p.starts) [] I) l (subst (λ (z : List NodeId). Added (DifferenceLeft p lost [] true z) [] I) eu ia) in
    let three : second ≡ R ++ (E ++ D) = h ∙ ap (λ (z : List Atom). z ++ D) f ∙ append_assoc R E D in
    let together : atoms ≡ (R ++ (E ++ D)) ++ I = a ∙ ap (λ (z : List Atom). z ++ I) three in
    forgotten law grows p t form.nf form.normal form.least g nz heir out' R E D I ra' ea' da' ia' atoms together
