-- What is known on both sides of a join is finitely many atoms, so there is a list of them.
use Rattle.std.proofs.Common.{◌≡◌, ◌⊎◌, ◌<◌, ◌≤◌, ◌++◌, ℕ, ℤ, pos, negsuc, ◌-ℤ◌, ◌≤ℤ◌, ◌<ℤ◌, List, [], ◌∷◌, Bool, true, false, Option, Some, None, All, Contains, slice_get, length, refl, sym, ◌∙◌, ap, subst, inl, inr, arith}
use Rattle.std.proofs.lemmas.Int.{ints}
use Rattle.std.proofs.lemmas.Option.{slice_get_within, slice_get-get_or, get_or_from_slice_get}
use Rattle.std.proofs.lemmas.List.Elements.{All-nil, All-cons, All-head, All-tail}
use Rattle.std.specs.Int.{int_max, int_min}
use Rattle.mc_base.specs.declared.ids.NodeId.{NodeId}
use Rattle.mc_base.specs.declared.plain.Atom.{Atom}
use Rattle.mc_base.specs.declared.plain.Atom.TheVariants.{Eq, Ne, In}
use Rattle.mc_base.specs.declared.plain.Kind.{Kind}
use Rattle.mc_base.specs.declared.plain.Kind.TheVariants.{Int, Ptr}
use Rattle.mc_base.specs.Nodes.{null}
use Rattle.mc_base.specs.Ranges.Thresholds.{IsNearestAbove, IsNearestBelow, WidensUp, WidensDown}
use Rattle.mc_pure.specs.Pure.{Pure, Kinds, IsNode, HasKind, AreOfOneKind, IsOffset, IsBound, IsWellFormed, kind_of}
use Rattle.mc_pure.specs.Known.{IsFit}
use Rattle.mc_pure.specs.Derived.{Follows, Derived, IsFalse, HasRange}
use Rattle.mc_pure.specs.Normal.{low, high}
use Rattle.mc_pure.specs.Classes.{HasNormalForm, NormalSaysAll, EachHasNormalForm, EachIsDecided}
use Rattle.mc_pure.specs.Laws.{FollowsFromMore}
use Rattle.mc_pure.specs.Nodes.{RiseFrom}
use Rattle.mc_pure.specs.Canonical.{IsCanonical}
use Rattle.mc_pure_ops.specs.declared.join.equalities.Shift.{Shift}
use Rattle.mc_pure_ops.specs.Join.Joint.{Pairs, AreJoinable, AreJointKinds, HaveOneKind, IsKindOfPair, IsLate, IsJointRange, IsJoin}
use Rattle.mc_pure_ops.specs.Join.Gains.{Gains}
use Rattle.mc_pure_ops.specs.Join.Parts.{node, EqualityAt, DifferenceAt, ListedAt, RangeAt, Below, AtPlace, HasAll, MayBeKind, IsDistance}
use Rattle.mc_pure_ops.specs.Join.Parts as parts
use Rattle.mc_pure.proofs.Changing.{decide}
use Rattle.mc_pure_ops.proofs.CanonLemmas.Plain.{between}
use Rattle.mc_pure_ops.proofs.JoinLemmas.Follow.{range_once, offset_once}
use Rattle.mc_pure_ops.proofs.JoinLemmas.Pairing.{Pair, pair_same, by_left, by_right, no_kind, none_left, none_right, one_equality, one_difference, one_listed}
use Rattle.mc_pure_ops.proofs.JoinLemmas.Whole.{joined}
use Rattle.mc_joins.proofs.AtomsLemmas.Finite.{Among, Either, Finite, finite_none, finite_one, finite_as, finite_or, finite_list, finite_with, finite_where, finite_below, finite_at, among_left, among_right, among_either}
use Rattle.mc_joins.proofs.AtomsLemmas.Listing.{at_most, one_or, both_or, as_or, item_or, least_range}

-- ---- atoms that may be written

kind_same : (a b : Kind) → Either (a ≡ b)
kind_same Int Int = inl refl
kind_same Int Ptr = inr (λ e. cc)
kind_same Ptr Int = inr (λ e. cc)
kind_same Ptr Ptr = inl refl

kind_is : (o : Option Kind) (kind : Kind) → Either (o ≡ Some kind)
kind_is None kind = inr (λ e. cc)
kind_is (Some own) kind = as_or (own ≡ kind) (Some own ≡ Some kind) (λ e. ap (λ (k : Kind). Some k) e) (λ e. cc) (kind_same own kind)

below_or : (a b : ℤ) → Either (a ≤ℤ b)
below_or a b = grind (arith, ints)

module _ (kinds : Kinds) where
  pub has_or : (kind : Kind) (n : NodeId) → Either (HasKind kinds kind n)
  has_or kind n = one_or (n ≡ null) (kind_of kinds n ≡ Some kind) (decide n null) (kind_is (kind_of kinds n) kind)

  pub some_kind : (D : Kind → Type 0) → ((kind : Kind) → Either (D kind)) → Either ((kind : Kind) × D kind)
  some_kind D dec = elim (dec Int) [
    | inl d ↦ inl (Int, d)
    | inr not_int ↦ elim (dec Ptr) [
      | inl d ↦ inl (Ptr, d)
      | inr not_ptr ↦ inr (λ k. none not_int not_ptr k.0 k.1)
    ]
  ]
    where
      none : (D Int → ⊥) → (D Ptr → ⊥) → (kind : Kind) → D kind → ⊥
      none not_int not_ptr Int d = not_int d
      none not_int not_ptr Ptr d = not_ptr d

  node_or : (n : NodeId) → Either (IsNode kinds n)
  node_or n = some_kind (λ kind. HasKind kinds kind n) (λ kind. has_or kind n)

  one_kind_or : (a b : NodeId) → Either (AreOfOneKind kinds a b)
  one_kind_or a b =
      as_or ((kind : Kind) × (HasKind kinds kind a × HasKind kinds kind b)) (AreOfOneKind kinds a b) (λ w. (w.0, w.1.0, w.1.1)) (λ w. (w.0, (w.1, w.2)))
      (some_kind (λ kind. HasKind kinds kind a × HasKind kinds kind b) (λ kind. both_or _ _ (has_or kind a) (has_or kind b)))

  offset_or : (c : ℤ) → Either (IsOffset c)
  offset_or c = both_or _ _ (below_or (negsuc 4611686022722355199) c) (below_or c (pos 4611686022722355200))

  bound_or : (c : ℤ) → Either (IsBound c)
  bound_or c = both_or _ _ (below_or (negsuc 4611686018427387903) c) (below_or c (pos 4611686018427387904))

  well_or : (f : Atom) → Either (IsWellFormed kinds f)
  well_or (Eq a b c) = both_or _ _ (one_kind_or a b) (offset_or c)
  well_or (Ne a b c) = both_or _ _ (one_kind_or a b) (offset_or c)
  well_or (In a lo hi) =
      as_or (IsNode kinds a × (IsBound lo × IsBound hi)) (IsWellFormed kinds (In a lo hi)) (λ w. (w.0, w.1.0, w.1.1)) (λ w. (w.0, (w.1, w.2)))
      (both_or _ _ (node_or a) (both_or _ _ (bound_or lo) (bound_or hi)))

-- finitely many atoms are written besides
written : (P : Atom → Type 0) → Finite P → (old : Pure) → (new : Pure) × Gains P old new
written P f old =
    let those = finite_where P (IsWellFormed old.kinds) f (λ g p. well_or old.kinds g) in (
      record { kinds = old.kinds; written = old.written ++ those.list; starts = old.starts },
      record {
        kinds = refl;
        starts = refl;
        from = λ g m. elim (among_either old.written those.list g m) [
          | inl k ↦ inl k
          | inr k ↦ (let w = those.sound g k in inr (w.1, w.0))
        ];
        kept = λ g m. among_left old.written those.list g m;
        added = λ g w p. among_right old.written those.list g (those.full g (p, w));
      },
    )

-- ---- ends of ranges

all_or : (D : ℤ → Type 0) → ((x : ℤ) → Either (D x)) → (xs : List ℤ) → Either (All D xs)
all_or D dec [] = inl (All-nil D)
all_or D dec (x ∷ xs) = elim (dec x) [
  | inr never ↦ inr (λ a. never (All-head D x xs a))
  | inl d ↦ elim (all_or D dec xs) [
    | inr never ↦ inr (λ a. never (All-tail D x xs a))
    | inl rest ↦ inl (All-cons D x xs d rest)
  ]
]

pub if_or : (P Q : Type 0) → Either P → Either Q → Either (P → Q)
if_or P Q (inr never) q = inl (λ p. absurd (never p))
if_or P Q (inl p) (inl q) = inl (λ w. q)
if_or P Q (inl p) (inr never) = inr (λ f. never (f p))

contains_from : (xs : List ℤ) (x : ℤ) → Among xs x → Contains xs x
contains_from xs x m = (m.0, slice_get_within xs m.0 x m.1, get_or_from_slice_get xs m.0 x x m.1)

contains_to : (xs : List ℤ) (x : ℤ) → Contains xs x → Among xs x
contains_to xs x m = (m.0, slice_get-get_or xs m.0 x m.1 ∙ ap (λ (z : ℤ). Some z) m.2)

module _ (thresholds : List ℤ) where
  candidates : (last : ℤ) → Finite (λ (e : ℤ). Contains thresholds e ⊎ (e ≡ last))
  candidates last =
      finite_as (λ (e : ℤ). Among thresholds e ⊎ (e ≡ last)) (λ (e : ℤ). Contains thresholds e ⊎ (e ≡ last))
      (λ e w. elim w [ inl m ↦ inl (contains_from thresholds e m) | inr s ↦ inr s ])
      (λ e w. elim w [ inl m ↦ inl (contains_to thresholds e m) | inr s ↦ inr s ])
      (finite_or (Among thresholds) (λ (e : ℤ). e ≡ last) (finite_list thresholds) (finite_one (λ (e : ℤ). e ≡ last) last refl (λ y e. e)))

  nearest_above : (number : ℤ) → Finite (IsNearestAbove thresholds number)
  nearest_above number =
      finite_as (λ e. (Contains thresholds e ⊎ (e ≡ pos 2147483647)) × ((number ≤ℤ e) × All (λ t. number ≤ℤ t → e ≤ℤ t) thresholds)) (IsNearestAbove thresholds number)
      (λ e w. record { reached = w.1.0; among = w.0; nearest = w.1.1 })
      (λ e w. (w.among, (w.reached, w.nearest)))
      (finite_where (λ (e : ℤ). Contains thresholds e ⊎ (e ≡ pos 2147483647)) (λ e. (number ≤ℤ e) × All (λ t. number ≤ℤ t → e ≤ℤ t) thresholds) (candidates (pos 2147483647))
      (λ e w. both_or _ _ (below_or number e) (all_or (λ t. number ≤ℤ t → e ≤ℤ t) (λ t. if_or _ _ (below_or number t) (below_or e t)) thresholds)))

  nearest_below : (number : ℤ) → Finite (IsNearestBelow thresholds number)
  nearest_below number =
      finite_as (λ e. (Contains thresholds e ⊎ (e ≡ negsuc 2147483647)) × ((e ≤ℤ number) × All (λ t. t ≤ℤ number → t ≤ℤ e) thresholds)) (IsNearestBelow thresholds number)
      (λ e w. record { reached = w.1.0; among = w.0; nearest = w.1.1 })
      (λ e w. (w.among, (w.reached, w.nearest)))
      (finite_where (λ (e : ℤ). Contains thresholds e ⊎ (e ≡ negsuc 2147483647)) (λ e. (e ≤ℤ number) × All (λ t. t ≤ℤ number → t ≤ℤ e) thresholds) (candidates (negsuc 2147483647))
      (λ e w. both_or _ _ (below_or e number) (all_or (λ t. t ≤ℤ number → t ≤ℤ e) (λ t. if_or _ _ (below_or t number) (below_or t e)) thresholds)))

  order : (a b : ℤ) → (a ≤ℤ b) ⊎ (b <ℤ a)
  order a b = grind (arith, ints)

  not_both : (a b : ℤ) → a ≤ℤ b → b <ℤ a → ⊥
  not_both a b x y = omega (arith, ints)

  up : (old new : ℤ) → Finite (WidensUp thresholds old new)
  up old new = elim (order new old) [
    | inl kept ↦ finite_one (WidensUp thresholds old new) old (record { kept = λ k. refl; moved = λ less. absurd (not_both new old kept less) }) (λ e w. w.kept kept)
    | inr moved ↦ finite_as (IsNearestAbove thresholds new) (WidensUp thresholds old new) (λ e w. record { kept = λ k. absurd (not_both new old k moved); moved = λ less. w }) (λ e w. w.moved moved) (nearest_above new)
  ]

  down : (old new : ℤ) → Finite (WidensDown thresholds old new)
  down old new = elim (order old new) [
    | inl kept ↦ finite_one (WidensDown thresholds old new) old (record { kept = λ k. refl; moved = λ less. absurd (not_both old new kept less) }) (λ e w. w.kept kept)
    | inr moved ↦ finite_as (IsNearestBelow thresholds new) (WidensDown thresholds old new) (λ e w. record { kept = λ k. absurd (not_both old new k moved); moved = λ less. w }) (λ e w. w.moved moved) (nearest_below new)
  ]

late_or : (kind : Kind) (round : ℕ) → Either (IsLate kind round)
late_or Int round = at round
  where
    at : (n : ℕ) → Either (3 ≤ n)
    at n = grind arith
late_or Ptr round = inr (λ h. h)

-- the ranges of a pair
module _ (kind : Kind) (round : ℕ) (thresholds : List ℤ) (l h m k : ℤ) (n : NodeId) where
  abbrev pub RangeOf : Atom → Type 0
  RangeOf f = (lo : ℤ) × (hi : ℤ) × (IsJointRange kind round thresholds l h m k lo hi × (f ≡ In n lo hi))

  in_as : {lo hi x y : ℤ} → lo ≡ x → hi ≡ y → In n lo hi ≡ In n x y
  in_as p q = cc

  pub joint_ranges : Finite RangeOf
  joint_ranges = elim (late_or kind round) [
    | inr soon ↦
        finite_one RangeOf (In n (int_min l m) (int_max h k)) (int_min l m, int_max h k, (record { hull = λ no. (refl, refl); wide = λ late. absurd (soon late) }, refl))
        (λ f w. (let ends = w.2.0.hull soon in w.2.1 ∙ in_as ends.0 ends.1))
    | inl late ↦
        finite_as (λ (f : Atom). (lo : ℤ) × WidensDown thresholds l (int_min l m) lo × ((hi : ℤ) × WidensUp thresholds h (int_max h k) hi × (f ≡ In n lo hi))) RangeOf
        (λ f w. (w.0, w.2.0, (record { hull = λ no. absurd (no late); wide = λ x. (w.1, w.2.1) }, w.2.2)))
        (λ f w. (let wide = w.2.0.wide late in (w.0, wide.0, (w.1, wide.1, w.2.1))))
        (finite_with (λ (lo : ℤ) (f : Atom). (hi : ℤ) × WidensUp thresholds h (int_max h k) hi × (f ≡ In n lo hi)) (WidensDown thresholds l (int_min l m)) (down thresholds l (int_min l m))
        (λ lo w. finite_with (λ (hi : ℤ) (f : Atom). f ≡ In n lo hi) (WidensUp thresholds h (int_max h k)) (up thresholds h (int_max h k))
        (λ hi v. finite_one (λ (f : Atom). f ≡ In n lo hi) (In n lo hi) refl (λ g e. e))))
  ]

range_is : (kind other : Kind) (round : ℕ) (t : List ℤ) (x h y k x' h' y' k' lo hi : ℤ) → kind ≡ other → x ≡ x' → h ≡ h' → y ≡ y' → k ≡ k' → IsJointRange kind round t x h y k lo hi
    → IsJointRange other round t x' h' y' k' lo hi
range_is kind other round t x h y k x' h' y' k' lo hi e p q r s j =
    subst (λ (z : Kind). IsJointRange z round t x' h' y' k' lo hi) e
    (subst (λ (z : ℤ). IsJointRange kind round t z h' y' k' lo hi) p
    (subst (λ (z : ℤ). IsJointRange kind round t x z y' k' lo hi) q
    (subst (λ (z : ℤ). IsJointRange kind round t x h z k' lo hi) r
    (subst (λ (z : ℤ). IsJointRange kind round t x h y z lo hi) s j))))

-- ---- both sides

-- one side: it is fit and not false, and what follows is decided
pub record IsSide (p : Pure) : Type 0 where
  pub fit : IsFit p
  pub consistent : IsFalse p → ⊥
  pub form : HasNormalForm p
  pub decided : (f : Atom) → Either (Derived p f)

-- the laws on which lists rest
pub record ListLaws : Type 0 where
  pub says : NormalSaysAll
  pub grows : FollowsFromMore
  pub has : EachHasNormalForm
  pub decided : EachIsDecided

pub form_of : ListLaws → (p : Pure) → RiseFrom 1 p.kinds → IsFit p → (IsFalse p → ⊥) → HasNormalForm p
form_of laws p rise fit consistent = elim (laws.has p rise fit) [ inl wrong ↦ absurd (consistent wrong) | inr form ↦ form ]

or_by : (b : Bool) (P : Type 0) → (b ≡ true → P) → (P → b ≡ true) → Either P
or_by true P to from = inl (to refl)
or_by false P to from = inr (λ p. let e = from p in cc)

pub side_of : ListLaws → (p : Pure) → RiseFrom 1 p.kinds → IsFit p → (IsFalse p → ⊥) → IsSide p
side_of laws p rise fit consistent =
    let test = laws.decided p rise fit in
    record { fit = fit; consistent = consistent; form = form_of laws p rise fit consistent; decided = λ f. or_by (test.0 f) (Derived p f) (test.1 f).0 (test.1 f).1 }

module _ (says : NormalSaysAll) (left right : Pure) (L : IsSide left) (R : IsSide right) (pairs : Pairs) (ready : AreJoinable left right pairs) (round : ℕ) (thresholds : List ℤ) where
  -- ranges
  module _ (i : ℕ) (P : Pair) (there : slice_get pairs i ≡ Some P) where
    one : HaveOneKind left right P.0 P.1
    one = ready.1 (node i) P.0 P.1 there

    left_there : IsNode left.kinds P.0
    left_there = (one.0, one.1)

    right_there : IsNode right.kinds P.1
    right_there = (one.0, one.2)

    kind_of_both : (o : Option Kind) × MayBeKind left right P.0 P.1 o
    kind_of_both = elim (decide P.0 null) [
      | inr other ↦ (kind_of left.kinds P.0, by_left left right P.0 P.1 (kind_of left.kinds P.0) one (λ e. other (ap (λ (i : ℕ). let n : NodeId = record { 0 = i } in n) e)) refl)
      | inl e ↦ elim (decide P.1 null) [
        | inr other ↦ (kind_of right.kinds P.1, by_right left right P.0 P.1 (kind_of right.kinds P.1) one (λ e. other (ap (λ (i : ℕ). let n : NodeId = record { 0 = i } in n) e)) refl)
        | inl d ↦ (None, no_kind left right P.0 P.1 (ap (λ (n : NodeId). n.0) e) (ap (λ (n : NodeId). n.0) d))
      ]
    ]

    range_by : (o : Option Kind) → MayBeKind left right P.0 P.1 o → Finite (RangeAt left right pairs round thresholds i)
    range_by None none =
        finite_none (RangeAt left right pairs round thresholds i)
        (λ f w. (let s = pair_same pairs i P w.l w.r there w.pair in
        none w.kind (subst (λ (z : NodeId). IsKindOfPair left right z P.1 w.kind) (sym s.0) (subst (λ (z : NodeId). IsKindOfPair left right w.l z w.kind) (sym s.1) w.kind_is))))
    range_by (Some kind) is =
        let x = low (L.form.nf P.0) in
        let h = high (L.form.nf P.0) in
        let y = low (R.form.nf P.1) in
        let k = high (R.form.nf P.1) in
        let own = least_range says left L.fit L.consistent L.form P.0 left_there in
        let others = least_range says right R.fit R.consistent R.form P.1 right_there in
        finite_as (RangeOf kind round thresholds x h y k (node i)) (RangeAt left right pairs round thresholds i)
        (λ f w. record {
          kind = kind;
          l = P.0;
          r = P.1;
          pair = there;
          kind_is = is.0;
          x = x;
          h = h;
          y = y;
          k = k;
          left_range = own;
          right_range = others;
          lo = w.0;
          hi = w.1;
          range = w.2.0;
          is = w.2.1;
        })
        (λ f w. (let s = pair_same pairs i P w.l w.r there w.pair in
        let kind_is : w.kind ≡ kind =
        is.1 w.kind (subst (λ (z : NodeId). IsKindOfPair left right z P.1 w.kind) (sym s.0) (subst (λ (z : NodeId). IsKindOfPair left right w.l z w.kind) (sym s.1) w.kind_is)) in
        let a = range_once left L.consistent P.0 w.x w.h x h (subst (λ (z : NodeId). HasRange left z w.x w.h) (sym s.0) w.left_range) own in
        let b = range_once right R.consistent P.1 w.y w.k y k (subst (λ (z : NodeId). HasRange right z w.y w.k) (sym s.1) w.right_range) others in
        (w.lo, w.hi, (range_is w.kind kind round thresholds w.x w.h w.y w.k x h y k w.lo w.hi kind_is a.0 a.1 b.0 b.1 w.range, w.is))))
        (joint_ranges kind round thresholds x h y k (node i))

    pub range_at : Finite (RangeAt left right pairs round thresholds i)
    range_at = let o = kind_of_both in range_by o.0 o.1

  -- equalities and disequalities
  module _ (i j : ℕ) (P Q : Pair) (first : slice_get pairs i ≡ Some P) (second : slice_get pairs j ≡ Some Q) where
    distance : (o : Option Shift) × IsDistance left P.0 Q.0 o
    distance =
        let here = left_there i P first in
        let there = left_there j Q second in
        elim (decide (L.form.nf P.0).rep (L.form.nf Q.0).rep) [
          | inl e ↦ (
            Some (record { by = (L.form.nf P.0).off -ℤ (L.form.nf Q.0).off }),
            (between says left L.form.nf L.form.normal P.0 Q.0 here there e, λ c f. offset_once left L.consistent P.0 Q.0 c _ f (between says left L.form.nf L.form.normal P.0 Q.0 here there e)),
          )
          | inr other ↦ (None, λ c f. other (says left L.form.nf L.form.normal (Eq P.0 Q.0 c) f).2)
        ]

    equality_by : (o : Option Shift) → IsDistance left P.0 Q.0 o → Finite (EqualityAt left right pairs i j)
    equality_by None none = at_most (EqualityAt left right pairs i j) None (none_left left right pairs i j P Q first second none)
    equality_by (Some d) is = elim (R.decided (Eq P.1 Q.1 d.by)) [
      | inl g ↦ at_most (EqualityAt left right pairs i j) (Some (Eq (node i) (node j) d.by)) (one_equality left right pairs i j P Q first second R.consistent d is g)
      | inr never ↦ at_most (EqualityAt left right pairs i j) None (none_right left right pairs i j P Q first second d is never)
    ]

    pub equality_at : Finite (EqualityAt left right pairs i j)
    equality_at = let o = distance in equality_by o.0 o.1

    pub difference_at : Finite (DifferenceAt left right pairs i j)
    difference_at = elim (both_or _ _ (L.decided (Ne P.0 Q.0 (pos 0))) (R.decided (Ne P.1 Q.1 (pos 0)))) [
      | inl g ↦ at_most (DifferenceAt left right pairs i j) (Some (Ne (node i) (node j) (pos 0))) (one_difference left right pairs i j P Q first second L.consistent R.consistent g.0 g.1)
      | inr never ↦ finite_none (DifferenceAt left right pairs i j) (λ f w.
          let s = pair_same pairs i P w.l w.r first w.first in
          let t = pair_same pairs j Q w.m w.k second w.second in
          never (
            inl (subst (λ (z : NodeId). Follows left (Ne z Q.0 (pos 0))) (sym s.0) (subst (λ (z : NodeId). Follows left (Ne w.l z (pos 0))) (sym t.0) w.on_left)),
            inl (subst (λ (z : NodeId). Follows right (Ne z Q.1 (pos 0))) (sym s.1) (subst (λ (z : NodeId). Follows right (Ne w.r z (pos 0))) (sym t.1) w.on_right)),
          ))
    ]

below : (S : ℕ → Atom → Type 0) (n : ℕ) → ((i : ℕ) → Finite (S i)) → Finite (Below S n)
below S n f = finite_with S (λ (k : ℕ). k < n) (finite_below n) (λ i l. f i)

-- ---- disequalities that are listed on one side

module _ (other : Pure) (O : IsSide other) (ps : Pairs) where
  module _ (i j : ℕ) (P Q : Pair) (first : slice_get ps i ≡ Some P) (second : slice_get ps j ≡ Some Q) where
    abbrev Gives : NodeId → NodeId → ℤ → Type 0
    Gives a b c = (a ≡ P.0) × ((b ≡ Q.0) × Derived other (Ne P.1 Q.1 c))

    listed_gives : (a b : NodeId) (c : ℤ) (f : Atom) → ListedAt other ps (Ne a b c) i j f → Gives a b c
    listed_gives a b c f w =
        let s = pair_same ps i P w.l w.r first w.first in
        let t = pair_same ps j Q w.m w.k second w.second in
        let left : a ≡ w.l = left_of w.listed in
        let right : b ≡ w.m = right_of w.listed in
        let by : w.c ≡ c = by_of w.listed in (
          left ∙ sym s.0,
          (
            right ∙ sym t.0,
            inl (subst (λ (z : ℤ). Follows other (Ne P.1 Q.1 z)) by
                (subst (λ (z : NodeId). Follows other (Ne z Q.1 w.c)) (sym s.1) (subst (λ (z : NodeId). Follows other (Ne w.r z w.c)) (sym t.1) w.on_other))),
          ),
        )
      where
        left_of : {x y u v : NodeId} {m n : ℤ} → Ne x y m ≡ Ne u v n → x ≡ u
        left_of e = cc

        right_of : {x y u v : NodeId} {m n : ℤ} → Ne x y m ≡ Ne u v n → y ≡ v
        right_of e = cc

        by_of : {x y u v : NodeId} {m n : ℤ} → Ne x y m ≡ Ne u v n → n ≡ m
        by_of e = cc

    gives_or : (a b : NodeId) (c : ℤ) → Either (Gives a b c)
    gives_or a b c = both_or _ _ (decide a P.0) (both_or _ _ (decide b Q.0) (O.decided (Ne P.1 Q.1 c)))

    listed_by : (a b : NodeId) (c : ℤ) → Finite (ListedAt other ps (Ne a b c) i j)
    listed_by a b c = elim (gives_or a b c) [
      | inl g ↦ at_most (ListedAt other ps (Ne a b c) i j) (Some (Ne (node i) (node j) c))
          (one_listed other other ps i j P Q first second O.consistent (Ne a b c) a b c refl (ap (λ (n : NodeId). n.0) g.0) (ap (λ (n : NodeId). n.0) g.1.0) g.1.1)
      | inr never ↦ finite_none (ListedAt other ps (Ne a b c) i j) (λ f w. never (listed_gives a b c f w))
    ]

    listed_at : (atom : Atom) → Finite (ListedAt other ps atom i j)
    listed_at (Eq a b c) = finite_none (ListedAt other ps (Eq a b c) i j) (λ f w. let e = w.listed in cc)
    listed_at (In a l h) = finite_none (ListedAt other ps (In a l h) i j) (λ f w. let e = w.listed in cc)
    listed_at (Ne a b c) = listed_by a b c

  listed_any : (atom : Atom) (i j : ℕ) → Finite (ListedAt other ps atom i j)
  listed_any atom i j = elim (item_or ps i) [
    | inr none ↦ finite_none (ListedAt other ps atom i j) (λ f w. none ((w.l, w.r), w.first))
    | inl P ↦ elim (item_or ps j) [
      | inr none ↦ finite_none (ListedAt other ps atom i j) (λ f w. none ((w.m, w.k), w.second))
      | inl Q ↦ listed_at i j P.0 Q.0 P.1 Q.1 atom
    ]
  ]

  abbrev Row : Atom → ℕ → Atom → Type 0
  Row atom i = Below (ListedAt other ps atom i) (length ps)

  abbrev Table : Atom → Atom → Type 0
  Table atom = Below (Row atom) (length ps)

  pub listed_all : (list : List Atom) → Finite (Below (AtPlace Table list) (length list))
  listed_all list =
      below (AtPlace Table list) (length list) (λ i.
      finite_with Table (λ (atom : Atom). slice_get list i ≡ Some atom) (finite_at list i) (λ atom e.
      below (Row atom) (length ps) (λ k. below (ListedAt other ps atom k) (length ps) (listed_any atom k))))

-- ---- the list

module _ (says : NormalSaysAll) (left right : Pure) (L : IsSide left) (R : IsSide right) (pairs : Pairs) (ready : AreJoinable left right pairs) (round : ℕ) (thresholds : List ℤ) where
  range_any : (i : ℕ) → Finite (RangeAt left right pairs round thresholds i)
  range_any i = elim (item_or pairs i) [
    | inr none ↦ finite_none (RangeAt left right pairs round thresholds i) (λ f w. none ((w.l, w.r), w.pair))
    | inl P ↦ range_at says left right L R pairs ready round thresholds i P.0 P.1
  ]

  equality_any : (i j : ℕ) → Finite (EqualityAt left right pairs i j)
  equality_any i j = elim (item_or pairs i) [
    | inr none ↦ finite_none (EqualityAt left right pairs i j) (λ f w. none ((w.l, w.r), w.first))
    | inl P ↦ elim (item_or pairs j) [
      | inr none ↦ finite_none (EqualityAt left right pairs i j) (λ f w. none ((w.m, w.k), w.second))
      | inl Q ↦ equality_at says left right L R pairs ready round thresholds i j P.0 Q.0 P.1 Q.1
    ]
  ]

  difference_any : (i j : ℕ) → Finite (DifferenceAt left right pairs i j)
  difference_any i j = elim (item_or pairs i) [
    | inr none ↦ finite_none (DifferenceAt left right pairs i j) (λ f w. none ((w.l, w.r), w.first))
    | inl P ↦ elim (item_or pairs j) [
      | inr none ↦ finite_none (DifferenceAt left right pairs i j) (λ f w. none ((w.m, w.k), w.second))
      | inl Q ↦ difference_at says left right L R pairs ready round thresholds i j P.0 Q.0 P.1 Q.1
    ]
  ]

  -- there are atoms of the join over these nodes
  pub joint_list : (kinds : Kinds) → AreJointKinds left right pairs kinds → (left_list right_list : List Atom) → IsCanonical left left_list → IsCanonical right right_list
      → (joint : List Atom) × IsJoin left right pairs round thresholds (record { kinds = kinds; written = joint; starts = [] })
  joint_list kinds are left_list right_list lc rc =
      let n = length pairs in
      let none : Pure = record { kinds = kinds; written = []; starts = [] } in
      let a = written (Below (RangeAt left right pairs round thresholds) n) (below (RangeAt left right pairs round thresholds) n range_any) none in
      let b = written (Below (λ i. Below (EqualityAt left right pairs i) i) n) (below (λ i. Below (EqualityAt left right pairs i) i) n (λ i. below (EqualityAt left right pairs i) i (equality_any i))) a.0 in
      let c = written (Below (λ i. Below (DifferenceAt left right pairs i) i) n) (below (λ i. Below (DifferenceAt left right pairs i) i) n (λ i. below (DifferenceAt left right pairs i) i (difference_any i))) b.0 in
      let d = written _ (listed_all right R pairs left_list) c.0 in
      let e = written _ (listed_all left L (parts.turned pairs) right_list) d.0 in
      let join : IsJoin left right pairs round thresholds e.0 =
      joined left right pairs left_list right_list round thresholds L.consistent R.consistent lc rc ready none a.0 b.0 c.0 d.0 e.0
      (record { kinds = are; written = refl; starts = refl }) a.1 b.1 c.1 d.1 e.1 in
      let same : e.0.kinds ≡ kinds = e.1.kinds ∙ (d.1.kinds ∙ (c.1.kinds ∙ (b.1.kinds ∙ a.1.kinds))) in
      let bare : e.0.starts ≡ [] = join.starts in
      let is : e.0 ≡ record { kinds = kinds; written = e.0.written; starts = [] } = pure_same e.0 kinds same bare in
      (e.0.written, subst (λ (p : Pure). IsJoin left right pairs round thresholds p) is join)
    where
      pure_same : (p : Pure) (ks : Kinds) → p.kinds ≡ ks → p.starts ≡ [] → p ≡ record { kinds = ks; written = p.written; starts = [] }
      pure_same p ks k s =
          ap (λ (z : Kinds). let q : Pure = record { kinds = z; written = p.written; starts = p.starts } in q) k
          ∙ ap (λ (z : List NodeId). let q : Pure = record { kinds = ks; written = p.written; starts = z } in q) s
