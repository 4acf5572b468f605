-- What is known, where it is not false, has a canonical list with the disequalities inside one class, which says all of it.
use Rattle.std.proofs.Common.{◌≡◌, ◌⊎◌, ◌↔◌, ◌<◌, ℕ, ℤ, pos, ◌+ℤ◌, ◌-ℤ◌, neg_ℤ, ◌<ℤ◌, List, [], ◌++◌, Bool, true, false, None, Some, slice_get, refl, sym, subst, inl, inr, arith}
use Rattle.std.proofs.lemmas.Int.{ints}
use Rattle.mc_base.specs.declared.ids.NodeId.{NodeId}
use Rattle.mc_base.specs.declared.plain.Atom.{Atom}
use Rattle.mc_base.specs.declared.plain.Atom.TheVariants.{Eq, Ne, In}
use Rattle.mc_base.specs.declared.plain.Kind.{Kind}
use Rattle.mc_pure.specs.Pure as begin
use Rattle.mc_pure.specs.Pure.{Pure, Base, IsNode, IsWellFormed, kind_of, kind_atom, written, kind, block, apart}
use Rattle.mc_pure.specs.Derived as derive
use Rattle.mc_pure.specs.Derived.{Follows, IsFalse, base, turned, chained, widened, differs}
use Rattle.mc_pure.specs.Rows.{IsTie}
use Rattle.mc_pure.specs.Known.{IsFit}
use Rattle.mc_pure.specs.Laws.{FollowsFromMore}
use Rattle.mc_pure.specs.Canonical.{IsLeast, IsRangeAtom, IsClassAtom, IsDifference, IsListOf, ComesBefore, AreListed, IsCanonical, plainly}
use Rattle.mc_pure.specs.Whole.{IsInside, IsWholeList}
use Rattle.mc_pure.specs.Classes.{HasNormalForm, NormalSaysAll}
use Rattle.mc_pure_ops.specs.declared.canon.gaps.Gap.{Gap}
use Rattle.mc_pure_ops.specs.Canon.Order.{Among, IsBefore, Added}
use Rattle.mc_pure_ops.specs.Canon.Left.{IsLeft, IsLeastLeft, LeavesOut, IsRangeLeft, IsClassLeft}
use Rattle.mc_pure_ops.specs.Canon.Gaps.{ArePair, IsTurned, DifferenceLeft, gap_atom, turned_gap}
use Rattle.mc_pure_ops.proofs.CanonLemmas.Lists.{added_as}
use Rattle.mc_pure.proofs.Changing.{same_node}
use Rattle.mc_pure_ops.proofs.CanonLemmas.Nodes.{ne_as, least_whole, whole_least}
use Rattle.mc_pure.proofs.Placing.{place_of_kind}
use Rattle.mc_pure_ops.proofs.CanonLemmas.Plain.{range_of, plain}
use Rattle.mc_pure_ops.proofs.CanonLemmas.Exact.{IsDifferenceLeft, difference_true, difference_made}
use Rattle.mc_pure_ops.proofs.CanonLemmas.Within.{moved_ne, range_in, class_in, plain_in}
use Rattle.mc_pure_ops.proofs.CanonLemmas.Listing.{gained, listed, left_in, right_in, either_in, range_step, class_step, difference_step}
use Rattle.mc_pure_ops.proofs.JoinLemmas.Follow.{eq_as}
use Rattle.mc_joins.proofs.AtomsLemmas.Fits.{range_well, class_well, difference_well}
use Rattle.mc_joins.proofs.AtomsLemmas.Listing.{place, place_of, plain_or, ranges, classes, differences}
use Rattle.mc_joins.proofs.AtomsLemmas.Sorting.{in_order}

sign : (c : ℤ) → (pos 0 <ℤ c) ⊎ ((c ≡ pos 0) ⊎ (pos 0 <ℤ neg_ℤ c))
sign c = grind (arith, ints)

order : (i j : NodeId) → (j.0 < i.0) ⊎ ((i ≡ j) ⊎ (i.0 < j.0))
order i j = elim (numbers i.0 j.0) [ inl x ↦ inl x | inr x ↦ elim x [ inl y ↦ inr (inl (same_node i j y)) | inr y ↦ inr (inr y) ] ]
  where
    numbers : (m n : ℕ) → (n < m) ⊎ ((m ≡ n) ⊎ (m < n))
    numbers m n = grind arith

-- ---- what is listed for one is listed for another from which the same follows

listed_as : (P Q : Atom → Type 0) (xs : List Atom) → ((f : Atom) → P f → Q f) → ((f : Atom) → Q f → P f) → AreListed P xs → AreListed Q xs
listed_as P Q xs to from l = record { order = l.order; exact = λ f. ((λ c. to f ((l.exact f).0 c)), (λ q. (l.exact f).1 (from f q))) }

module _ (p : Pure) (all : List Atom) (to : (f : Atom) → Follows p f → Follows (plainly p all) f) (from : (f : Atom) → Follows (plainly p all) f → Follows p f) where
  abbrev q : Pure
  q = plainly p all

  range_to : (f : Atom) → IsRangeAtom p f → IsRangeAtom q f
  range_to (Eq a b c) r = absurd r
  range_to (Ne a b c) r = absurd r
  range_to (In n lo hi) r = (r.0, r.1, r.2, record { follows = to (In n lo hi) r.3.follows; least = λ m k h. r.3.least m k (from (In n m k) h) }, r.4)

  range_from : (f : Atom) → IsRangeAtom q f → IsRangeAtom p f
  range_from (Eq a b c) r = absurd r
  range_from (Ne a b c) r = absurd r
  range_from (In n lo hi) r = (r.0, r.1, r.2, record { follows = from (In n lo hi) r.3.follows; least = λ m k h. r.3.least m k (to (In n m k) h) }, r.4)

  least_to : (b : NodeId) → IsLeast p b → IsLeast q b
  least_to b l = (l.0, λ m c h. l.1 m c (from (Eq b m c) h))

  least_from : (b : NodeId) → IsLeast q b → IsLeast p b
  least_from b l = (l.0, λ m c h. l.1 m c (to (Eq b m c) h))

  class_to : (f : Atom) → IsClassAtom p f → IsClassAtom q f
  class_to (Eq a b c) r = (r.0, r.1, least_to b r.2, to (Eq a b c) r.3)
  class_to (Ne a b c) r = absurd r
  class_to (In n lo hi) r = absurd r

  class_from : (f : Atom) → IsClassAtom q f → IsClassAtom p f
  class_from (Eq a b c) r = (r.0, r.1, least_from b r.2, from (Eq a b c) r.3)
  class_from (Ne a b c) r = absurd r
  class_from (In n lo hi) r = absurd r

  difference_to : (plain : Pure) (f : Atom) → IsDifference p plain f → IsDifference q plain f
  difference_to plain (Eq a b c) r = absurd r
  difference_to plain (Ne i j c) r = (least_to i r.0, least_to j r.1, r.2, to (Ne i j c) r.3, r.4)
  difference_to plain (In n lo hi) r = absurd r

  difference_from : (plain : Pure) (f : Atom) → IsDifference q plain f → IsDifference p plain f
  difference_from plain (Eq a b c) r = absurd r
  difference_from plain (Ne i j c) r = (least_from i r.0, least_from j r.1, r.2, from (Ne i j c) r.3, r.4)
  difference_from plain (In n lo hi) r = absurd r

  inside_to : (plain : Pure) (f : Atom) → IsInside p plain f → IsInside q plain f
  inside_to plain (Eq a b c) r = absurd r
  inside_to plain (Ne i j c) r = (least_to i r.0, r.1, r.2, to (Ne i j c) r.3, r.4)
  inside_to plain (In n lo hi) r = absurd r

  inside_from : (plain : Pure) (f : Atom) → IsInside q plain f → IsInside p plain f
  inside_from plain (Eq a b c) r = absurd r
  inside_from plain (Ne i j c) r = (least_from i r.0, r.1, r.2, from (Ne i j c) r.3, r.4)
  inside_from plain (In n lo hi) r = absurd r

  list_moves : (atoms : List Atom) → IsListOf p atoms → IsListOf q atoms
  list_moves atoms l =
      let plain : Pure = plainly p (l.ranges ++ l.equalities) in
      record {
        ranges = l.ranges;
        equalities = l.equalities;
        differences = l.differences;
        together = l.together;
        ranges_listed = listed_as (IsRangeAtom p) (IsRangeAtom q) l.ranges range_to range_from l.ranges_listed;
        equalities_listed = listed_as (IsClassAtom p) (IsClassAtom q) l.equalities class_to class_from l.equalities_listed;
        differences_listed = listed_as (IsDifference p plain) (IsDifference q plain) l.differences (difference_to plain) (difference_from plain) l.differences_listed;
      }

  pub whole_moves : (atoms : List Atom) → IsWholeList p atoms → IsWholeList q atoms
  unfolding list_moves
  whole_moves atoms w =
      let plain : Pure = plainly p (w.canonical.ranges ++ w.canonical.equalities) in
      record {
        list = w.list;
        inner = w.inner;
        together = w.together;
        canonical = list_moves w.list w.canonical;
        inner_listed = listed_as (IsInside p plain) (IsInside q plain) w.inner (inside_to plain) (inside_from plain) w.inner_listed;
      }

-- ---- the list and what it says

-- a list of atoms that may be written, is whole, and says all that follows
pub record SaysAll (p : Pure) (atoms : List Atom) : Type 0 where
  pub well : (f : Atom) → Among atoms f → IsWellFormed p.kinds f
  pub listed : IsWholeList (plainly p atoms) atoms
  pub same : (f : Atom) → Follows (plainly p atoms) f ↔ Follows p f

module _ (says : NormalSaysAll) (grows : FollowsFromMore) (p : Pure) (fit : IsFit p) (true_p : IsFalse p → ⊥) (form : HasNormalForm p) where
  module _ (R E D I : List Atom) (rs : Added (IsRangeLeft p None) [] R) (es : Added (IsClassLeft p None) [] E) (ds : Added (DifferenceLeft p None p.starts false []) [] D) (is : Added (DifferenceLeft p None p.starts true []) [] I) where
    abbrev all : List Atom
    all = (R ++ (E ++ D)) ++ I

    abbrev own : Pure
    own = plainly p all

    abbrev r : Pure
    r = plainly p (R ++ E)

    -- what is listed follows
    range_true : (f : Atom) → IsRangeLeft p None f → IsTie f × Follows p f
    range_true (In a l h) k = (tt, k.0.3.follows)
    range_true (Eq a b c) k = absurd k.0
    range_true (Ne a b c) k = absurd k.0

    class_true : (f : Atom) → IsClassLeft p None f → IsTie f × Follows p f
    class_true (Eq a b c) k = (tt, k.5)
    class_true (In a l h) k = absurd k
    class_true (Ne a b c) k = absurd k

    no_nodes : (i : ℕ) (a : NodeId) → (let none : List NodeId = [] in slice_get none i ≡ Some a) → slice_get p.starts i ≡ Some a
    no_nodes i a e = cc

    gap_true : (inside : Bool) (f : Atom) → IsDifferenceLeft p None p.starts inside f → Follows p f
    gap_true inside (Ne i j c) k = k.3
    gap_true inside (Eq a b c) k = absurd k
    gap_true inside (In a l h) k = absurd k

    made_true : (inside : Bool) (f : Atom) → DifferenceLeft p None p.starts inside [] f → Follows p f
    made_true inside f k = gap_true inside f (difference_true p None p.starts inside f [] no_nodes k)

    tie_in : (f : Atom) → Among (R ++ E) f → IsTie f × Follows p f
    tie_in f m = elim (either_in R E f m) [
      | inl x ↦ range_true f (gained (IsRangeLeft p None) R rs f x)
      | inr x ↦ class_true f (gained (IsClassLeft p None) E es f x)
    ]

    all_true : (f : Atom) → Among all f → Follows p f
    all_true f m = elim (either_in (R ++ (E ++ D)) I f m) [
      | inl x ↦ elim (either_in R (E ++ D) f x) [
        | inl y ↦ (range_true f (gained (IsRangeLeft p None) R rs f y)).1
        | inr y ↦ elim (either_in E D f y) [
          | inl z ↦ (class_true f (gained (IsClassLeft p None) E es f z)).1
          | inr z ↦ made_true false f (gained (DifferenceLeft p None p.starts false []) D ds f z)
        ]
      ]
      | inr x ↦ made_true true f (gained (DifferenceLeft p None p.starts true []) I is f x)
    ]

    base_true : (f : Atom) → Base own f → Follows p f
    base_true f (written i e) = all_true f (i, e)
    base_true _ begin.zero = base begin.zero
    base_true _ (kind i e) = base (kind i e)
    base_true _ (block i e) = base (block i e)
    base_true _ (apart i j ne x y) = base (apart i j ne x y)

    to_p : (f : Atom) → Follows own f → Follows p f
    to_p f d = grows own p (λ n h. h) base_true f d

    -- and gives what follows
    kinds_in : (a : NodeId) (k : Kind) → kind_of p.kinds a ≡ Some k → IsLeft None a → Follows own (kind_atom a k)
    kinds_in a k e w = let m = place_of_kind p.kinds a k e in base (kind m.0 m.1)

    pairs_in : (i j : ℕ) (x y : NodeId) → ArePair p.starts i j x y → IsLeft None x × IsLeft None y × Follows own (Ne x y (pos 0))
    pairs_in i j x y w = (tt, tt, base (apart i j w.differ w.first w.second))

    ranges_in : (f : Atom) → IsRangeLeft p None f → Follows own f
    ranges_in f k = let m = left_in (R ++ (E ++ D)) I f (left_in R (E ++ D) f (rs.added f k)) in base (written m.0 m.1)

    classes_in : (f : Atom) → IsClassLeft p None f → Follows own f
    classes_in f k = let m = left_in (R ++ (E ++ D)) I f (right_in R (E ++ D) f (left_in E D f (es.added f k))) in base (written m.0 m.1)

    each : (i j : ℕ) (x y : NodeId) → ArePair p.starts i j x y → (let none : List NodeId = [] in ArePair none i j x y) ⊎ ArePair p.starts i j x y
    each i j x y w = inr w

    difference_in : (inside : Bool) (f : Atom) → IsDifferenceLeft p None p.starts inside f → Follows own f
    difference_in false f k =
        let m = left_in (R ++ (E ++ D)) I f (right_in R (E ++ D) f (right_in E D f (ds.added f (difference_made says p form.nf form.normal None p.starts false [] each f k)))) in
        base (written m.0 m.1)
    difference_in true f k = let m = right_in (R ++ (E ++ D)) I f (is.added f (difference_made says p form.nf form.normal None p.starts true [] each f k)) in base (written m.0 m.1)

    turned_in : (inside : Bool) (w : Gap) → IsLeastLeft p None w.left → IsLeastLeft p None w.right → IsTurned inside w → Follows p (gap_atom w) → Follows own (gap_atom w)
    turned_in inside w l m t d = elim (plain_or says p fit true_p form w l.node m.node) [
      | inl plainly_so ↦ plain_in says p true_p form.nf form.normal None own (λ a h x. h) kinds_in ranges_in classes_in p.starts pairs_in w l m plainly_so
      | inr new ↦ difference_in inside (gap_atom w) (l, m, t, d, new)
    ]

    least_in : (i j : NodeId) (c : ℤ) → IsLeastLeft p None i → IsLeastLeft p None j → Follows p (Ne i j c) → Follows own (Ne i j c)
    least_in i j c l m d =
        let w : Gap = record { left = i; right = j; by = c } in
        elim (order i j) [
          | inl x ↦ turned_in false w l m x d
          | inr x ↦ elim x [
            | inl e ↦ elim (sign c) [
              | inl y ↦ turned_in true w l m (e, y) d
              | inr y ↦ elim y [
                | inl z ↦ absurd (true_p (derive.apart {a = i} (subst (λ (u : NodeId). Follows p (Ne i u (pos 0))) (sym e) (ne_as p d z))))
                | inr z ↦ ne_as own (differs (turned_in true (turned_gap w) m l (sym e, z) (differs d))) (omega (arith, ints))
              ]
            ]
            | inr y ↦ ne_as own (differs (turned_in false (turned_gap w) m l y (differs d))) (omega (arith, ints))
          ]
        ]

    own_class : (x b : NodeId) (e : ℤ) → IsLeastLeft p None b → Follows p (Eq x b e) → Follows own (Eq x b e)
    own_class x b e l d = class_in says p true_p form.nf form.normal None own (λ a h w. h) kinds_in ranges_in classes_in x b e tt l d

    from_p : (f : Atom) → Follows p f → Follows own f
    from_p (In a l h) d =
        let k = says p form.nf form.normal (In a l h) d in
        widened (range_in says p true_p form.nf form.normal None own (λ n there w. there) kinds_in ranges_in classes_in a _ _ tt (range_of says p form.nf form.normal a k.0)) k.1 k.2
    from_p (Eq a b c) d =
        let k = says p form.nf form.normal (Eq a b c) d in
        let P = place says p fit true_p form a k.0 in
        let P' = place_of says p fit true_p form a in
        let x = own_class a P'.least P'.offset P.least P.equal in
        let y = own_class b P'.least (neg_ℤ c +ℤ P'.offset) P.least (chained (turned d) P.equal) in
        eq_as own (chained x (turned y)) refl refl (omega (arith, ints))
    from_p (Ne a b c) d =
        let k = says p form.nf form.normal (Ne a b c) d in
        let P = place says p fit true_p form a k.0 in
        let Q = place says p fit true_p form b k.1 in
        let P' = place_of says p fit true_p form a in
        let Q' = place_of says p fit true_p form b in
        let c' : ℤ = (Q'.offset +ℤ c) -ℤ P'.offset in
        let x = own_class a P'.least P'.offset P.least P.equal in
        let y = own_class b Q'.least Q'.offset Q.least Q.equal in
        let z = least_in P'.least Q'.least c' P.least Q.least (moved_ne p a b P'.least Q'.least c P'.offset Q'.offset c' d P.equal Q.equal refl) in
        moved_ne own P'.least Q'.least a b c' (neg_ℤ P'.offset) (neg_ℤ Q'.offset) c z (turned x) (turned y) (omega (arith, ints))

    -- the disequalities inside one class
    base_in : (f : Atom) → Base r f → (IsTie f × Follows p f) ⊎ ((i j : ℕ) × (x y : NodeId) × ArePair p.starts i j x y × (f ≡ Ne x y (pos 0)))
    base_in f (written i e) = inl (tie_in f (i, e))
    base_in _ begin.zero = inl (tt, base begin.zero)
    base_in _ (kind i e) = inl (tt, base (kind i e))
    base_in _ (block i e) = inl (tt, base (block i e))
    base_in _ (apart {a} {b} i j ne x y) = inr (i, j, a, b, record { differ = ne; first = x; second = y }, refl)

    r_ranges : (f : Atom) → IsRangeLeft p None f → Follows r f
    r_ranges f k = let m = left_in R E f (rs.added f k) in base (written m.0 m.1)

    r_classes : (f : Atom) → IsClassLeft p None f → Follows r f
    r_classes f k = let m = right_in R E f (es.added f k) in base (written m.0 m.1)

    r_kinds : (a : NodeId) (k : Kind) → kind_of p.kinds a ≡ Some k → IsLeft None a → Follows r (kind_atom a k)
    r_kinds a k e w = let m = place_of_kind p.kinds a k e in base (kind m.0 m.1)

    r_pairs : (i j : ℕ) (x y : NodeId) → ArePair p.starts i j x y → IsLeft None x × IsLeft None y × Follows r (Ne x y (pos 0))
    r_pairs i j x y w = (tt, tt, base (apart i j w.differ w.first w.second))

    inside_left : (f : Atom) → IsInside p r f → IsDifferenceLeft p None p.starts true f
    inside_left (Eq a b c) k = absurd k
    inside_left (In a l h) k = absurd k
    inside_left (Ne i j c) k =
        let l = least_whole p i k.0 in
        let m = subst (λ (z : NodeId). IsLeastLeft p None z) k.1 l in
        (l, m, (k.1, k.2), k.3, λ w. k.4 (plain_in says p true_p form.nf form.normal None r (λ a h x. h) r_kinds r_ranges r_classes p.starts r_pairs (record { left = i; right = j; by = c }) l m w))

    left_inside : (f : Atom) → IsDifferenceLeft p None p.starts true f → IsInside p r f
    left_inside (Eq a b c) k = absurd k
    left_inside (In a l h) k = absurd k
    left_inside (Ne i j c) k =
        (whole_least p i k.0, k.2.0, k.2.1, k.3, λ d. k.4 (plain says p form.nf form.normal p.starts (λ x a e. e) grows r ((λ m h. h), base_in) i j c d))

    next_inside : (f g : Atom) → IsInside p r f → IsInside p r g → IsBefore f g → ComesBefore f g
    next_inside (Eq a b c) g x y w = absurd x
    next_inside (In a l h) g x y w = absurd x
    next_inside (Ne a b c) (Eq i j k) x y w = absurd y
    next_inside (Ne a b c) (In i m k) x y w = absurd y
    next_inside (Ne a b c) (Ne i j k) x y w = difference_step a b i j c k w

    inner_listed : AreListed (IsInside p r) I
    inner_listed =
        listed (IsInside p r) I next_inside (added_as (DifferenceLeft p None p.starts true []) (IsInside p r) [] I
        (λ f k. difference_made says p form.nf form.normal None p.starts true [] each f (inside_left f k))
        (λ f k. left_inside f (difference_true p None p.starts true f [] no_nodes k))
        is)

    -- the canonical list
    leaves_none : (f : Atom) → LeavesOut None f
    leaves_none (Eq a b c) = (tt, tt)
    leaves_none (Ne a b c) = (tt, tt)
    leaves_none (In a l h) = tt

    class_left : (f : Atom) → IsClassAtom p f → IsClassLeft p None f
    class_left (Eq a b c) k = (k.0, k.1, (says p form.nf form.normal (Eq a b c) k.3).0, tt, least_whole p b k.2, k.3)
    class_left (In a l h) k = absurd k
    class_left (Ne a b c) k = absurd k

    left_class : (f : Atom) → IsClassLeft p None f → IsClassAtom p f
    left_class (Eq a b c) k = (k.0, k.1, whole_least p b k.4, k.5)
    left_class (In a l h) k = absurd k
    left_class (Ne a b c) k = absurd k

    difference_left : (f : Atom) → IsDifference p r f → IsDifferenceLeft p None p.starts false f
    difference_left (Eq a b c) k = absurd k
    difference_left (In a l h) k = absurd k
    difference_left (Ne i j c) k =
        let l = least_whole p i k.0 in
        let m = least_whole p j k.1 in
        (l, m, k.2, k.3, λ w. k.4 (plain_in says p true_p form.nf form.normal None r (λ a h x. h) r_kinds r_ranges r_classes p.starts r_pairs (record { left = i; right = j; by = c }) l m w))

    left_difference : (f : Atom) → IsDifferenceLeft p None p.starts false f → IsDifference p r f
    left_difference (Eq a b c) k = absurd k
    left_difference (In a l h) k = absurd k
    left_difference (Ne i j c) k =
        (whole_least p i k.0, whole_least p j k.1, k.2, k.3, λ d. k.4 (plain says p form.nf form.normal p.starts (λ x a e. e) grows r ((λ m h. h), base_in) i j c d))

    next_difference : (f g : Atom) → IsDifference p r f → IsDifference p r g → IsBefore f g → ComesBefore f g
    next_difference (Eq a b c) g x y w = absurd x
    next_difference (In a l h) g x y w = absurd x
    next_difference (Ne a b c) (Eq i j k) x y w = absurd y
    next_difference (Ne a b c) (In i m k) x y w = absurd y
    next_difference (Ne a b c) (Ne i j k) x y w = difference_step a b i j c k w

    canonical : IsListOf p (R ++ (E ++ D))
    canonical = record {
      ranges = R;
      equalities = E;
      differences = D;
      together = refl;
      ranges_listed = listed (IsRangeAtom p) R (range_step p true_p) (added_as (IsRangeLeft p None) (IsRangeAtom p) [] R (λ f k. (k, leaves_none f)) (λ f k. k.0) rs);
      equalities_listed = listed (IsClassAtom p) E (class_step p true_p) (added_as (IsClassLeft p None) (IsClassAtom p) [] E class_left left_class es);
      differences_listed =
          listed (IsDifference p r) D next_difference (added_as (DifferenceLeft p None p.starts false []) (IsDifference p r) [] D
          (λ f k. difference_made says p form.nf form.normal None p.starts false [] each f (difference_left f k))
          (λ f k. left_difference f (difference_true p None p.starts false f [] no_nodes k))
          ds);
    }

    whole : IsWholeList p all
    unfolding canonical
    whole = record { list = R ++ (E ++ D); inner = I; together = refl; canonical = canonical; inner_listed = inner_listed }

    pub is_canonical : IsCanonical p (R ++ (E ++ D))
    is_canonical = inr (true_p, canonical)

    module _ (bare : p.starts ≡ []) where
      made_well : (inside : Bool) (f : Atom) → DifferenceLeft p None p.starts inside [] f → IsWellFormed p.kinds f
      made_well inside f k = difference_well says p fit true_p form bare inside f (difference_true p None p.starts inside f [] no_nodes k)

      all_well : (f : Atom) → Among all f → IsWellFormed p.kinds f
      all_well f m = elim (either_in (R ++ (E ++ D)) I f m) [
        | inl x ↦ elim (either_in R (E ++ D) f x) [
          | inl y ↦ range_well says p fit true_p form bare f (gained (IsRangeLeft p None) R rs f y)
          | inr y ↦ elim (either_in E D f y) [
            | inl z ↦ class_well says p fit true_p form bare f (gained (IsClassLeft p None) E es f z)
            | inr z ↦ made_well false f (gained (DifferenceLeft p None p.starts false []) D ds f z)
          ]
        ]
        | inr x ↦ made_well true f (gained (DifferenceLeft p None p.starts true []) I is f x)
      ]

      pub says_all : SaysAll p all
      says_all = record { well = all_well; listed = whole_moves p all from_p to_p all whole; same = λ f. (to_p f, from_p f) }

  pub canonical_list : (atoms : List Atom) × IsCanonical p atoms
  canonical_list =
      let R = in_order (IsRangeLeft p None) (ranges says p fit true_p form) in
      let E = in_order (IsClassLeft p None) (classes says p fit true_p form) in
      let D = in_order (DifferenceLeft p None p.starts false []) (differences says p fit true_p form false) in
      let I = in_order (DifferenceLeft p None p.starts true []) (differences says p fit true_p form true) in
      (R.0 ++ (E.0 ++ D.0), is_canonical R.0 E.0 D.0 I.0 R.1 E.1 D.1 I.1)

  pub whole_list : p.starts ≡ [] → (atoms : List Atom) × SaysAll p atoms
  whole_list bare =
      let R = in_order (IsRangeLeft p None) (ranges says p fit true_p form) in
      let E = in_order (IsClassLeft p None) (classes says p fit true_p form) in
      let D = in_order (DifferenceLeft p None p.starts false []) (differences says p fit true_p form false) in
      let I = in_order (DifferenceLeft p None p.starts true []) (differences says p fit true_p form true) in
      ((R.0 ++ (E.0 ++ D.0)) ++ I.0, says_all R.0 E.0 D.0 I.0 R.1 E.1 D.1 I.1 bare)
