-- What is known, where it is never false, has a canonical list.
use Rattle.std.proofs.Common.{◌≡◌, ◌≢◌, ◌⊎◌, ◌<◌, ℕ, zero, suc, ℤ, pos, ◌+ℤ◌, ◌-ℤ◌, ◌<ℤ◌, List, [], ◌∷◌, Bool, true, false, Option, Some, None, slice_get, length, refl, sym, ◌∙◌, subst, inl, inr, arith}
use Rattle.std.proofs.lemmas.Int.{ints}
use Rattle.std.proofs.lemmas.Option.{slice_get_within}
use Rattle.mc_base.specs.declared.ids.NodeId.{NodeId}
use Rattle.mc_base.specs.declared.plain.Atom.{Atom}
use Rattle.mc_base.specs.declared.plain.Atom.TheVariants.{Eq, Ne, In}
use Rattle.mc_base.specs.declared.plain.Kind.{Kind}
use Rattle.mc_base.specs.Nodes.{null}
use Rattle.mc_pure.specs.Pure.{Pure, IsNode, kind_of, low_of, high_of}
use Rattle.mc_pure.specs.Rows.{nodes_of}
use Rattle.mc_pure.specs.Known.{IsFit}
use Rattle.mc_pure.specs.Derived.{IsFalse, HasRange}
use Rattle.mc_pure.specs.Normal.{low, high}
use Rattle.mc_pure.specs.Classes.{HasNormalForm, NormalSaysAll}
use Rattle.mc_pure.specs.declared.classes.ClassPlace.{ClassPlace}
use Rattle.mc_pure_ops.specs.declared.canon.gaps.Gap.{Gap}
use Rattle.mc_pure_ops.specs.Canon.Order.{GivesAtMost}
use Rattle.mc_pure_ops.specs.Canon.Left.{IsPlace, IsRangeLeft, IsClassLeft, OfNode, OfNodes}
use Rattle.mc_pure_ops.specs.Canon.Gaps.{ArePair, IsMoved, MovedPlaces, StartGives, StartsGive, AreApart, IsPlain, IsTurned, Shows, Gives, GapOf, PairGives, AtomGives, WrittenGives, PairsGive, DifferenceLeft, gap_atom, turned_gap}
use Rattle.mc_pure_ops.proofs.CanonLemmas.Moving.{apart_to, apart_from, moved_to, moved_from, gap_once}
use Rattle.mc_pure_ops.proofs.CanonLemmas.Nodes.{node_there, whole_place}
use Rattle.mc_pure.proofs.Changing.{decide}
use Rattle.mc_pure.proofs.Placing.{node_place}
use Rattle.mc_pure_ops.proofs.CanonLemmas.Plain.{range_of}
use Rattle.mc_pure_ops.proofs.CanonLemmas.Single.{null_range, wide_range, narrow_range, null_class, self_class, other_class}
use Rattle.mc_joins.proofs.AtomsLemmas.Finite.{Among, Either, Finite, finite_none, finite_one, finite_as, finite_or, finite_list, finite_with}

pub at_most : (P : Atom → Type 0) (o : Option Atom) → GivesAtMost P o → Finite P
at_most P None m = finite_none P m
at_most P (Some f) m = finite_one P f m.0 m.1

pub less_or : (a b : ℤ) → Either (a <ℤ b)
less_or a b = grind (arith, ints)

pub same_or : (a b : ℤ) → Either (a ≡ b)
same_or a b = grind (arith, ints)

number_less : (a b : ℕ) → Either (a < b)
number_less a b = grind arith

pub number_same : (a b : ℕ) → Either (a ≡ b)
number_same a b = grind arith

pub one_or : (P Q : Type 0) → Either P → Either Q → Either (P ⊎ Q)
one_or P Q (inl p) b = inl (inl p)
one_or P Q (inr never) (inl q) = inl (inr q)
one_or P Q (inr none) (inr never) = inr (λ w. elim w [ inl p ↦ none p | inr q ↦ never q ])

pub both_or : (P Q : Type 0) → Either P → Either Q → Either (P × Q)
both_or P Q (inr never) b = inr (λ w. never w.0)
both_or P Q (inl p) (inl q) = inl (p, q)
both_or P Q (inl p) (inr never) = inr (λ w. never w.1)

pub as_or : (P Q : Type 0) → (P → Q) → (Q → P) → Either P → Either Q
as_or P Q to from (inl p) = inl (to p)
as_or P Q to from (inr never) = inr (λ q. never (from q))

-- something is at a place, or nothing
pub item_or : {X : Type 0} (xs : List X) (i : ℕ) → Either ((x : X) × (slice_get xs i ≡ Some x))
item_or [] i = inr (λ k. let e = k.1 in cc)
item_or (x ∷ xs) zero = inl (x, refl)
item_or (x ∷ xs) (suc i) = item_or xs i

-- it holds of one of the first numbers, or of none
exists_below : (D : ℕ → Type 0) → ((i : ℕ) → Either (D i)) → (n : ℕ) → ((i : ℕ) × D i) ⊎ ((i : ℕ) → i < n → D i → ⊥)
exists_below D dec zero = inr (λ i l d. omega arith)
exists_below D dec (suc n) = elim (dec n) [
  | inl d ↦ inl (n, d)
  | inr never ↦ elim (exists_below D dec n) [
    | inl k ↦ inl k
    | inr none ↦ inr (λ i l d. elim (number_same i n) [
      | inl e ↦ never (subst D e d)
      | inr other ↦ none i (omega (arith, l, other)) d
    ])
  ]
]

exists_within : (D : ℕ → Type 0) (n : ℕ) → ((i : ℕ) → Either (D i)) → ((i : ℕ) → D i → i < n) → Either ((i : ℕ) × D i)
exists_within D n dec within = elim (exists_below D dec n) [ inl k ↦ inl k | inr none ↦ inr (λ k. none k.0 (within k.0 k.1) k.1) ]

module _ (says : NormalSaysAll) (p : Pure) (fit : IsFit p) (true_p : IsFalse p → ⊥) (form : HasNormalForm p) where
  abbrev pub place_of : NodeId → ClassPlace
  place_of n = record { least = (form.nf n).rep; offset = (form.nf n).off }

  pub place : (n : NodeId) → IsNode p.kinds n → IsPlace p None n (place_of n)
  place n there = whole_place p n (place_of n) (form.least n there) (form.normal.sound n there).equal

  pub least_range : (n : NodeId) → IsNode p.kinds n → HasRange p n (low (form.nf n)) (high (form.nf n))
  least_range n there = range_of says p form.nf form.normal n there

  -- ---- ranges and equalities

  range_by : (n : NodeId) → n ≢ null → IsNode p.kinds n → (kind : Kind) → kind_of p.kinds n ≡ Some kind → Finite (OfNode (IsRangeLeft p None) n)
  range_by n other there kind is =
      let lo = low (form.nf n) in
      let hi = high (form.nf n) in
      elim (one_or (low_of kind <ℤ lo) (hi <ℤ high_of kind) (less_or (low_of kind) lo) (less_or hi (high_of kind))) [
        | inl narrow ↦ at_most (OfNode (IsRangeLeft p None) n) (Some (In n lo hi)) (narrow_range p None n true_p lo hi kind (In n lo hi) other tt (least_range n there) is narrow refl)
        | inr wide ↦ at_most (OfNode (IsRangeLeft p None) n) None (wide_range p None n true_p lo hi kind (least_range n there) is wide)
      ]

  range_here : (n : NodeId) → IsNode p.kinds n → Finite (OfNode (IsRangeLeft p None) n)
  range_here n there = elim (decide n null) [
    | inl e ↦ at_most (OfNode (IsRangeLeft p None) n) None (null_range p None n e)
    | inr other ↦ elim there.1 [
      | inl e ↦ absurd (other e)
      | inr is ↦ range_by n other there there.0 is
    ]
  ]

  class_here : (n : NodeId) → IsNode p.kinds n → Finite (OfNode (IsClassLeft p None) n)
  class_here n there =
      let P = place_of n in
      elim (decide P.least null) [
        | inl e ↦ at_most (OfNode (IsClassLeft p None) n) None (null_class p None n true_p P (place n there) e)
        | inr other ↦ elim (decide P.least n) [
          | inl e ↦ at_most (OfNode (IsClassLeft p None) n) None (self_class p None n true_p P (place n there) e)
          | inr apart ↦ at_most (OfNode (IsClassLeft p None) n) (Some (Eq n P.least P.offset)) (other_class p None n true_p P (place n there) (Eq n P.least P.offset) other apart there tt refl)
        ]
      ]

  of_nodes : (P : Atom → Type 0) → ((n : NodeId) → IsNode p.kinds n → Finite (OfNode P n)) → Finite (OfNodes P (nodes_of p.kinds))
  of_nodes P each = finite_with (OfNode P) (Among (nodes_of p.kinds)) (finite_list (nodes_of p.kinds)) (λ n m. each n (node_there p.kinds m.0 n m.1))

  range_node : (f : Atom) → IsRangeLeft p None f → OfNodes (IsRangeLeft p None) (nodes_of p.kinds) f
  range_node (In a lo hi) k = (a, node_place p.kinds a (k.0.0, inr k.0.2), (k, refl))
  range_node (Eq a b c) k = absurd k.0
  range_node (Ne a b c) k = absurd k.0

  class_node : (f : Atom) → IsClassLeft p None f → OfNodes (IsClassLeft p None) (nodes_of p.kinds) f
  class_node (Eq a b c) k = (a, node_place p.kinds a k.2, (k, refl))
  class_node (In a lo hi) k = absurd k
  class_node (Ne a b c) k = absurd k

  pub ranges : Finite (IsRangeLeft p None)
  ranges = finite_as (OfNodes (IsRangeLeft p None) (nodes_of p.kinds)) (IsRangeLeft p None) (λ f k. k.2.0) range_node (of_nodes (IsRangeLeft p None) range_here)

  pub classes : Finite (IsClassLeft p None)
  classes = finite_as (OfNodes (IsClassLeft p None) (nodes_of p.kinds)) (IsClassLeft p None) (λ f k. k.2.0) class_node (of_nodes (IsClassLeft p None) class_here)

  -- ---- disequalities

  module _ (g : Gap) (left_there : IsNode p.kinds g.left) (right_there : IsNode p.kinds g.right) where
    apart_or : Either (AreApart p g)
    apart_or =
        let l = low (form.nf g.left) in
        let h = high (form.nf g.left) in
        let m = low (form.nf g.right) in
        let k = high (form.nf g.right) in
        as_or ((h <ℤ (m +ℤ g.by)) ⊎ ((k +ℤ g.by) <ℤ l)) (AreApart p g)
        (apart_to p g l h m k (least_range g.left left_there) (least_range g.right right_there))
        (apart_from p true_p g l h m k (least_range g.left left_there) (least_range g.right right_there))
        (one_or (h <ℤ (m +ℤ g.by)) ((k +ℤ g.by) <ℤ l) (less_or h (m +ℤ g.by)) (less_or (k +ℤ g.by) l))

    places_or : (first second left right : ClassPlace) → Either (MovedPlaces first second left right (pos 0) g.by)
    places_or first second left right =
        as_or ((first.least ≡ left.least) × ((second.least ≡ right.least) × (g.by +ℤ (first.offset -ℤ left.offset) ≡ (second.offset -ℤ right.offset) +ℤ pos 0)))
        (MovedPlaces first second left right (pos 0) g.by)
        (λ k. record { left_is = k.0; right_is = k.1.0; by_is = k.1.1 })
        (λ m. (m.left_is, (m.right_is, m.by_is)))
        (both_or _ _ (decide first.least left.least) (both_or _ _ (decide second.least right.least) (same_or (g.by +ℤ (first.offset -ℤ left.offset)) ((second.offset -ℤ right.offset) +ℤ pos 0))))

    moved_or : (x y : NodeId) → IsNode p.kinds x → IsNode p.kinds y → Either (IsMoved p x y (pos 0) g)
    moved_or x y nx ny =
        as_or (MovedPlaces (place_of x) (place_of y) (place_of g.left) (place_of g.right) (pos 0) g.by) (IsMoved p x y (pos 0) g)
        (moved_to p true_p x y (pos 0) g (place_of x) (place_of y) (place_of g.left) (place_of g.right) (place x nx) (place y ny) (place g.left left_there) (place g.right right_there))
        (moved_from p true_p x y (pos 0) g (place_of x) (place_of y) (place_of g.left) (place_of g.right) (place x nx) (place y ny) (place g.left left_there) (place g.right right_there))
        (places_or (place_of x) (place_of y) (place_of g.left) (place_of g.right))

    abbrev AtStarts : ℕ → ℕ → Type 0
    AtStarts i j = (x y : NodeId) × ArePair p.starts i j x y × IsMoved p x y (pos 0) g

    at_items : (i j : ℕ) (x y : NodeId) → slice_get p.starts i ≡ Some x → slice_get p.starts j ≡ Some y → i ≢ j → Either (AtStarts i j)
    at_items i j x y e d other = elim (moved_or x y (fit.starts i x e) (fit.starts j y d)) [
      | inl m ↦ inl (x, y, record { differ = other; first = e; second = d }, m)
      | inr never ↦ inr (λ k.
          let same_x : k.0 ≡ x = some_node k.0 x (sym k.2.first ∙ e) in
          let same_y : k.1 ≡ y = some_node k.1 y (sym k.2.second ∙ d) in
          never (subst (λ (z : NodeId). IsMoved p z y (pos 0) g) same_x (subst (λ (z : NodeId). IsMoved p k.0 z (pos 0) g) same_y k.3)))
    ]
      where
        some_node : (a b : NodeId) → Some a ≡ Some b → a ≡ b
        some_node a b e = cc

    at_starts : (i j : ℕ) → Either (AtStarts i j)
    at_starts i j = elim (item_or p.starts i) [
      | inr none ↦ inr (λ k. none (k.0, k.2.first))
      | inl x ↦ elim (item_or p.starts j) [
        | inr none ↦ inr (λ k. none (k.1, k.2.second))
        | inl y ↦ elim (number_same i j) [
          | inl e ↦ inr (λ k. k.2.differ e)
          | inr other ↦ at_items i j x.0 y.0 x.1 y.1 other
        ]
      ]
    ]

    start_or : (i : ℕ) → Either (StartGives p p.starts g i)
    start_or i =
        as_or ((j : ℕ) × (AtStarts i j)) (StartGives p p.starts g i)
        (λ k. (k.0, k.1.0, k.1.1, k.1.2, k.1.3))
        (λ k. (k.0, (k.1, k.2, k.3, k.4)))
        (exists_within (AtStarts i) (length p.starts) (at_starts i) (λ j k. slice_get_within p.starts j k.1 k.2.second))

    starts_or : Either (StartsGive p p.starts g)
    starts_or = exists_within (StartGives p p.starts g) (length p.starts) start_or (λ i k. slice_get_within p.starts i k.1 k.3.first)

    pub plain_or : Either (IsPlain p p.starts g)
    plain_or = one_or (AreApart p g) (StartsGive p p.starts g) apart_or starts_or

    turned_or : (inside : Bool) → Either (IsTurned inside g)
    turned_or true = both_or (g.left ≡ g.right) (pos 0 <ℤ g.by) (decide g.left g.right) (less_or (pos 0) g.by)
    turned_or false = number_less g.right.0 g.left.0

    pub shown : (inside : Bool) → Finite (Shows p p.starts inside g)
    shown inside = elim (turned_or inside) [
      | inr never ↦ finite_none (Shows p p.starts inside g) (λ f s. never s.turned)
      | inl turned ↦ elim plain_or [
        | inl plain ↦ finite_none (Shows p p.starts inside g) (λ f s. s.new plain)
        | inr new ↦ finite_one (Shows p p.starts inside g) (gap_atom g) (record { is = refl; turned = turned; new = new }) (λ f s. s.is)
      ]
    ]

  given : (inside : Bool) (g : Gap) → IsNode p.kinds g.left → IsNode p.kinds g.right → Finite (Gives p p.starts inside g)
  given inside g l r = finite_or (Shows p p.starts inside g) (Shows p p.starts inside (turned_gap g)) (shown g l r inside) (shown (turned_gap g) r l inside)

  of_pair : (inside : Bool) (x y : NodeId) (d : ℤ) → IsNode p.kinds x → IsNode p.kinds y → Finite (PairGives p None p.starts inside x y d)
  of_pair inside x y d nx ny =
      let P = place_of x in
      let Q = place_of y in
      let g : Gap = record { left = P.least; right = Q.least; by = (Q.offset +ℤ d) -ℤ P.offset } in
      let here : GapOf p None x y d g = record { left_place = P; right_place = Q; left_is = place x nx; right_is = place y ny; left = refl; right = refl; by = refl } in
      finite_as (Gives p p.starts inside g) (PairGives p None p.starts inside x y d)
      (λ f k. (g, here, k))
      (λ f k. subst (λ (z : Gap). Gives p p.starts inside z f) (gap_once p true_p None x y d k.0 g k.1 here) k.2)
      (given inside g (place x nx).least.node (place y ny).least.node)

  of_atom : (inside : Bool) (w : Atom) → Among p.written w → Finite (AtomGives p None p.starts inside w)
  of_atom inside (Eq a b c) m = finite_none (AtomGives p None p.starts inside (Eq a b c)) (λ f k. k)
  of_atom inside (In a l h) m = finite_none (AtomGives p None p.starts inside (In a l h)) (λ f k. k)
  of_atom inside (Ne a b c) m = let w = fit.written m.0 (Ne a b c) m.1 in of_pair inside a b c (w.0.0, w.0.1) (w.0.0, w.0.2)

  no_pairs : (inside : Bool) (f : Atom) → PairsGive p None p.starts inside [] f → ⊥
  no_pairs inside f k = let e = k.1.1.2.first in cc

  pub differences : (inside : Bool) → Finite (DifferenceLeft p None p.starts inside [])
  differences inside =
      finite_or (WrittenGives p None p.starts inside) (PairsGive p None p.starts inside [])
      (finite_with (AtomGives p None p.starts inside) (Among p.written) (finite_list p.written) (of_atom inside))
      (finite_none (PairsGive p None p.starts inside []) (no_pairs inside))
