-- What is written where a node is forgotten, atom by atom.
use Rattle.std.proofs.Common.{◌≡◌, ◌≢◌, ◌⊎◌, inl, inr, ℕ, zero, suc, ◌+◌, ◌<◌, ◌≤◌, ℤ, pos, ◌+ℤ◌, ◌-ℤ◌, ◌<ℤ◌, Bool, true, false, List, [], ◌++◌, length, Option, Some, None, slice_get, get_or, refl, subst, arith}
use Rattle.std.proofs.lemmas.Int.{ints}
use Rattle.std.proofs.lemmas.Option.{slice_get_within}
use Rattle.mc_base.specs.declared.ids.NodeId.{NodeId}
use Rattle.mc_base.specs.declared.plain.Kind.{Kind}
use Rattle.mc_base.specs.declared.plain.Atom.{Atom}
use Rattle.mc_base.specs.declared.plain.Atom.TheVariants.{Eq, Ne, In}
use Rattle.mc_base.specs.Nodes.{null}
use Rattle.mc_pure.specs.declared.classes.ClassPlace.{ClassPlace}
use Rattle.mc_pure.specs.Canonical.{IsLeast}
use Rattle.mc_pure.specs.Classes.{HasNormalForm, NormalSaysAll}
use Rattle.mc_pure.specs.Derived.{Follows, IsFalse, HasRange}
use Rattle.mc_pure.specs.Laws.{FollowsFromMore}
use Rattle.mc_pure.specs.Normal.{low, high}
use Rattle.mc_pure.specs.Pure.{Pure, IsNode, kind_of, low_of, high_of, written}
use Rattle.mc_pure.specs.Rows.{nodes_of}
use Rattle.mc_pure_ops.specs.declared.canon.gaps.Gap.{Gap}
use Rattle.mc_pure_ops.specs.Canon.Forgotten.{IsForgotten, IsHeirBelow, IsNextHeir}
use Rattle.mc_pure_ops.specs.Canon.Gaps.{AreNodes, IsPlain, IsTurned, gap_atom, turned_gap, Shows, Gives, PairGives, AtomGives, WrittenGives, PairsGiveAt, PairsGiveOf, PairsGive, DifferenceLeft}
use Rattle.mc_pure_ops.specs.Canon.Left.{IsLeftOut, FindsPlace, IsRangeLeft, IsClassLeft, OfNode}
use Rattle.mc_pure_ops.specs.Canon.Order.{GivesAtMost}
use Rattle.mc_pure_ops.proofs.CanonLemmas.Forgets.{forgotten_list}
use Rattle.mc_pure_ops.proofs.CanonLemmas.Heirs.{heir_same, heir_other, heir_kept, heir_first, heir_nearer, none_below, next_below, is_left_out}
use Rattle.mc_pure_ops.proofs.CanonLemmas.Moving.{apart_to, apart_from, gives_first, gives_second, pair_found, no_first, no_second}
use Rattle.mc_pure_ops.proofs.CanonLemmas.Nodes.{node_there, place_kept, place_heir, place_none}
use Rattle.mc_pure.proofs.Changing.{decide}
use Rattle.mc_pure.proofs.Placing.{node_place}
use Rattle.mc_pure_ops.proofs.CanonLemmas.Plain.{range_of}
use Rattle.mc_pure_ops.proofs.CanonLemmas.Single.{null_range, lost_range, no_kind_range, wide_range, narrow_range, lost_class, no_class, null_class, self_class, other_class}
use Rattle.mc_pure_ops.proofs.CanonLemmas.Taken.{starts_there, node_at, listed_at, itself_none, pair_of_places}
use Rattle.mc_rules_logic.proofs.ListedLemmas.Adding.{Addable, OfSome, none_addable, at_most_addable, both_addable, addable_as, listed_addable, numbers_addable}

less_or : (m n : ℕ) → (m < n) ⊎ (n ≤ m)
less_or m n = grind arith

at_most_or : (m n : ℕ) → (m ≤ n) ⊎ (m ≤ n → ⊥)
at_most_or m n = grind arith

below_or : (m n : ℕ) → (m < n) ⊎ (m < n → ⊥)
below_or m n = grind arith

same_or : (m n : ℕ) → (m ≡ n) ⊎ (m ≢ n)
same_or m n = grind arith

below_or_ℤ : (a b : ℤ) → (a <ℤ b) ⊎ (a <ℤ b → ⊥)
below_or_ℤ a b = grind (arith, ints)

either_or : {A B : Type 0} → A ⊎ (A → ⊥) → B ⊎ (B → ⊥) → (A ⊎ B) ⊎ (A ⊎ B → ⊥)
either_or (inl a) b = inl (inl a)
either_or (inr na) (inl b) = inl (inr b)
either_or (inr na) (inr nb) = inr (λ x. elim x [ inl a ↦ na a | inr b ↦ nb b ])

-- an atom to write, or none
abbrev Choice : (Atom → Type 0) → Type 0
Choice P = (o : Option Atom) × GivesAtMost P o

module _ (law : NormalSaysAll) (p : Pure) (true_p : IsFalse p → ⊥) (form : HasNormalForm p) (lost : NodeId) (there : IsNode p.kinds lost) (nz : lost ≢ null) where
  abbrev nodes : List NodeId
  nodes = nodes_of p.kinds

  -- a node's place among all nodes
  abbrev own : NodeId → ClassPlace
  own a = record { least = (form.nf a).rep; offset = (form.nf a).off }

  own_equal : (a : NodeId) → IsNode p.kinds a → Follows p (Eq a (own a).least (own a).offset)
  own_equal a na = (form.normal.sound a na).equal

  own_range : (a : NodeId) → IsNode p.kinds a → HasRange p a (low (form.nf a)) (high (form.nf a))
  own_range a na = range_of law p form.nf form.normal a na

  -- ---- the least node beside the one that is left out

  abbrev NextHeir : NodeId → Option ClassPlace → Type 0
  NextHeir other old = (new : Option ClassPlace) × IsNextHeir p lost other old new

  nearer : (other : NodeId) → IsNode p.kinds other → (own other).least ≡ lost → other ≢ lost → (old : Option ClassPlace) → NextHeir other old
  nearer other node e ne None =
      let new : ClassPlace = record { least = other; offset = (own other).offset } in
      (Some new, heir_first p lost other node (own other) new (own_equal other node) e ne refl refl)
  nearer other node e ne (Some best) = elim (at_most_or best.least.0 other.0) [
    | inl l ↦ (Some best, heir_kept p lost other best l)
    | inr gt ↦
        let new : ClassPlace = record { least = other; offset = (own other).offset } in
        (Some new, heir_nearer p lost other node (own other) new (own_equal other node) e ne refl refl best gt)
  ]

  next_heir : (other : NodeId) → IsNode p.kinds other → (old : Option ClassPlace) → NextHeir other old
  next_heir other node old = elim (decide other lost) [
    | inl e ↦ (old, heir_same p lost other e old)
    | inr ne ↦ elim (decide (own other).least lost) [
      | inl e ↦ nearer other node e ne old
      | inr away ↦ (old, heir_other p lost other true_p (own other) (form.least other node) (own_equal other node) away old)
    ]
  ]

  abbrev HeirBelow : ℕ → Type 0
  HeirBelow i = (heir : Option ClassPlace) × (IsLeast p lost → IsHeirBelow p lost nodes i heir)

  next : (i : ℕ) → i < length nodes → HeirBelow i → HeirBelow (suc i)
  next i l old =
      let h = next_heir (get_or nodes i null) (listed_at p nodes i null refl l) old.0 in
      (h.0, λ least. subst (λ (z : ℕ). IsHeirBelow p lost nodes z h.0) (up i) (next_below p lost nodes i null old.0 h.0 l old.1 h.1 least))
    where
      up : (i : ℕ) → i + 1 ≡ suc i
      up i = omega arith

  heirs : (i : ℕ) → i ≤ length nodes → HeirBelow i
  heirs zero l = (None, λ least. none_below p lost nodes)
  heirs (suc i) l = next i (omega arith) (heirs i (omega arith))

  found : HeirBelow (length nodes)
  found = heirs (length nodes) (omega arith)

  abbrev heir : Option ClassPlace
  heir = found.0

  out : IsLeftOut p (Some lost) heir
  out = is_left_out law p form lost (Some lost) nodes (length nodes) heir refl refl (omega arith) there nz found.1

  -- ---- places

  abbrev PlaceOf : NodeId → Type 0
  PlaceOf a = (o : Option ClassPlace) × FindsPlace p (Some lost) a o

  by_heir : (a : NodeId) → IsNode p.kinds a → (own a).least ≡ lost → (h : Option ClassPlace) → IsLeftOut p (Some lost) h → PlaceOf a
  by_heir a na e None o = (None, place_none p (Some lost) a (own a) o (form.least a na) (own_equal a na) (λ ne. ne e))
  by_heir a na e (Some h) o =
      let new : ClassPlace = record { least = h.least; offset = (own a).offset -ℤ h.offset } in
      (Some new, place_heir p (Some lost) h a (own a) new o (form.least a na) (own_equal a na) (λ ne. ne e) refl refl)

  place_of : (a : NodeId) → IsNode p.kinds a → PlaceOf a
  place_of a na = elim (decide (own a).least lost) [
    | inl e ↦ by_heir a na e heir out
    | inr ne ↦ (Some (own a), place_kept p (Some lost) a (own a) (form.least a na) (own_equal a na) ne)
  ]

  -- ---- ranges

  by_kind : (a : NodeId) → IsNode p.kinds a → a ≢ null → a ≢ lost → (k : Option Kind) → kind_of p.kinds a ≡ k → Choice (OfNode (IsRangeLeft p (Some lost)) a)
  by_kind a na nn ne None e = (None, no_kind_range p (Some lost) a e)
  by_kind a na nn ne (Some kind) e =
      let lo = low (form.nf a) in
      let hi = high (form.nf a) in
      elim (either_or (below_or_ℤ (low_of kind) lo) (below_or_ℤ hi (high_of kind))) [
        | inl v ↦ (Some (In a lo hi), narrow_range p (Some lost) a true_p lo hi kind (In a lo hi) nn ne (own_range a na) e v refl)
        | inr w ↦ (None, wide_range p (Some lost) a true_p lo hi kind (own_range a na) e w)
      ]

  range_choice : (a : NodeId) → IsNode p.kinds a → Choice (OfNode (IsRangeLeft p (Some lost)) a)
  range_choice a na = elim (decide a null) [
    | inl e ↦ (None, null_range p (Some lost) a e)
    | inr nn ↦ elim (decide a lost) [
      | inl e ↦ (None, lost_range p (Some lost) a (λ ne. ne e))
      | inr ne ↦ by_kind a na nn ne (kind_of p.kinds a) refl
    ]
  ]

  -- ---- equalities

  by_place : (a : NodeId) → IsNode p.kinds a → a ≢ lost → (o : Option ClassPlace) → FindsPlace p (Some lost) a o → Choice (OfNode (IsClassLeft p (Some lost)) a)
  by_place a na ne None w = (None, no_class p (Some lost) a w)
  by_place a na ne (Some place) here = elim (decide place.least null) [
    | inl e ↦ (None, null_class p (Some lost) a true_p place here e)
    | inr nn ↦ elim (decide place.least a) [
      | inl e ↦ (None, self_class p (Some lost) a true_p place here e)
      | inr other ↦ (Some (Eq a place.least place.offset), other_class p (Some lost) a true_p place here (Eq a place.least place.offset) nn other na ne refl)
    ]
  ]

  class_choice : (a : NodeId) → IsNode p.kinds a → Choice (OfNode (IsClassLeft p (Some lost)) a)
  class_choice a na = elim (decide a lost) [
    | inl e ↦ (None, lost_class p (Some lost) a (λ ne. ne e))
    | inr ne ↦ (let place = place_of a na in by_place a na ne place.0 place.1)
  ]

  -- ---- disequalities

  turned_or : (inside : Bool) (g : Gap) → IsTurned inside g ⊎ (IsTurned inside g → ⊥)
  turned_or true g = elim (decide g.left g.right) [
    | inl e ↦ elim (below_or_ℤ (pos 0) g.by) [ inl l ↦ inl (e, l) | inr l ↦ inr (λ k. l k.1) ]
    | inr ne ↦ inr (λ k. ne k.0)
  ]
  turned_or false g = below_or g.right.0 g.left.0

  plain_or : (g : Gap) → IsNode p.kinds g.left → IsNode p.kinds g.right → IsPlain p [] g ⊎ (IsPlain p [] g → ⊥)
  plain_or g nl nr =
      let l = own_range g.left nl in
      let r = own_range g.right nr in
      elim (either_or (below_or_ℤ (high (form.nf g.left)) (low (form.nf g.right) +ℤ g.by)) (below_or_ℤ (high (form.nf g.right) +ℤ g.by) (low (form.nf g.left)))) [
        | inl a ↦ inl (inl (apart_to p g (low (form.nf g.left)) (high (form.nf g.left)) (low (form.nf g.right)) (high (form.nf g.right)) l r a))
        | inr never ↦ inr (λ k. elim k [
          | inl a ↦ never (apart_from p true_p g (low (form.nf g.left)) (high (form.nf g.left)) (low (form.nf g.right)) (high (form.nf g.right)) l r a)
          | inr s ↦ (let e = s.1.3.first in cc)
        ])
      ]

  shown : (inside : Bool) (g : Gap) → IsNode p.kinds g.left → IsNode p.kinds g.right → Choice (Shows p [] inside g)
  shown inside g nl nr = elim (turned_or inside g) [
    | inr w ↦ (None, λ f s. w s.turned)
    | inl turned ↦ elim (plain_or g nl nr) [
      | inl plain ↦ (None, λ f s. s.new plain)
      | inr new ↦ (Some (gap_atom g), (record { is = refl; turned = turned; new = new }, λ f s. s.is))
    ]
  ]

  either_way : (inside : Bool) (g : Gap) → IsNode p.kinds g.left → IsNode p.kinds g.right → (o : Option Atom) → GivesAtMost (Shows p [] inside g) o → Choice (Gives p [] inside g)
  either_way inside g nl nr (Some f) m = (Some f, gives_first p [] inside g f m)
  either_way inside g nl nr None m =
      let s = shown inside (turned_gap g) nr nl in
      (s.0, gives_second p [] inside g (turned_gap g) s.0 refl refl refl m s.1)

  gives : (inside : Bool) (g : Gap) → IsNode p.kinds g.left → IsNode p.kinds g.right → Choice (Gives p [] inside g)
  gives inside g nl nr = let s = shown inside g nl nr in either_way inside g nl nr s.0 s.1

  by_places : (inside : Bool) (x y : NodeId) (d : ℤ) (o : Option ClassPlace) → FindsPlace p (Some lost) x o → (u : Option ClassPlace) → FindsPlace p (Some lost) y u → Choice (PairGives p (Some lost) [] inside x y d)
  by_places inside x y d None w u v = (None, no_first p true_p (Some lost) [] inside x y d w)
  by_places inside x y d (Some first) w None v = (None, no_second p true_p (Some lost) [] inside x y d v)
  by_places inside x y d (Some first) w (Some second) v =
      let g : Gap = record { left = first.least; right = second.least; by = (second.offset +ℤ d) -ℤ first.offset } in
      let s = gives inside g w.least.node v.least.node in
      (s.0, pair_found p true_p (Some lost) [] inside x y d first second g s.0 w v refl refl refl s.1)

  pair_choice : (inside : Bool) (x y : NodeId) (d : ℤ) → IsNode p.kinds x → IsNode p.kinds y → Choice (PairGives p (Some lost) [] inside x y d)
  pair_choice inside x y d nx ny =
      let a = place_of x nx in
      let b = place_of y ny in
      by_places inside x y d a.0 a.1 b.0 b.1

  atom_addable : (inside : Bool) (k : ℕ) (w : Atom) → slice_get p.written k ≡ Some w → Addable (AtomGives p (Some lost) [] inside w)
  atom_addable inside k (Eq x y d) e = none_addable (AtomGives p (Some lost) [] inside (Eq x y d)) (λ g h. h)
  atom_addable inside k (In x lo hi) e = none_addable (AtomGives p (Some lost) [] inside (In x lo hi)) (λ g h. h)
  atom_addable inside k (Ne x y d) e =
      let known = form.normal.known x y d (written k e) in
      let s = pair_choice inside x y d known.0 known.1 in
      at_most_addable (PairGives p (Some lost) [] inside x y d) s.0 s.1

  written_addable : (inside : Bool) → Addable (WrittenGives p (Some lost) [] inside)
  written_addable inside = listed_addable (AtomGives p (Some lost) [] inside) p.written (atom_addable inside)

  starts_are : AreNodes p p.starts
  starts_are = starts_there law p form p.starts refl

  abbrev At : Bool → ℕ → ℕ → Atom → Type 0
  At inside i j = PairsGiveAt p (Some lost) [] inside p.starts i j

  two_addable : (inside : Bool) (i j : ℕ) → i < length p.starts → j < length p.starts → i ≢ j → Addable (At inside i j)
  two_addable inside i j li lj ne =
      let x = get_or p.starts i null in
      let y = get_or p.starts j null in
      let s = pair_choice inside x y (pos 0) (node_at p p.starts i null starts_are li) (node_at p p.starts j null starts_are lj) in
      at_most_addable (At inside i j) s.0 (pair_of_places p (Some lost) [] inside p.starts i j null s.0 li lj ne s.1)

  first_within : (inside : Bool) (i j : ℕ) (g : Atom) → length p.starts ≤ i → At inside i j g → ⊥
  first_within inside i j g l u = let w = slice_get_within p.starts i u.0 u.2.first in omega arith

  second_within : (inside : Bool) (i j : ℕ) (g : Atom) → length p.starts ≤ j → At inside i j g → ⊥
  second_within inside i j g l u = let w = slice_get_within p.starts j u.1 u.2.second in omega arith

  at_addable : (inside : Bool) (i j : ℕ) → Addable (At inside i j)
  at_addable inside i j = elim (same_or i j) [
    | inl e ↦ at_most_addable (At inside i j) None (itself_none p (Some lost) [] inside p.starts i j e)
    | inr ne ↦ elim (less_or i (length p.starts)) [
      | inr l ↦ none_addable (At inside i j) (λ g. first_within inside i j g l)
      | inl li ↦ elim (less_or j (length p.starts)) [
        | inr l ↦ none_addable (At inside i j) (λ g. second_within inside i j g l)
        | inl lj ↦ two_addable inside i j li lj ne
      ]
    ]
  ]

  of_addable : (inside : Bool) (i : ℕ) → Addable (PairsGiveOf p (Some lost) [] inside p.starts i)
  of_addable inside i = numbers_addable (At inside i) (length p.starts) (λ j g l. second_within inside i j g l) (at_addable inside i)

  pairs_addable : (inside : Bool) → Addable (PairsGive p (Some lost) [] inside p.starts)
  pairs_addable inside =
      numbers_addable (PairsGiveOf p (Some lost) [] inside p.starts) (length p.starts) (λ i g l u. first_within inside i u.0 g l u.1) (of_addable inside)

  difference_addable : (inside : Bool) → Addable (DifferenceLeft p (Some lost) [] inside p.starts)
  difference_addable inside =
      both_addable (WrittenGives p (Some lost) [] inside) (PairsGive p (Some lost) [] inside p.starts) (DifferenceLeft p (Some lost) [] inside p.starts)
      (λ g d. d) (λ g d. d) (written_addable inside) (pairs_addable inside)

  -- ---- of each node

  range_node : (f : Atom) → IsRangeLeft p (Some lost) f → OfSome (OfNode (IsRangeLeft p (Some lost))) nodes f
  range_node (In a lo hi) k = (a, node_place p.kinds a (k.0.0, inr k.0.2), (k, refl))
  range_node (Eq a b c) k = absurd k.0
  range_node (Ne a b c) k = absurd k.0

  ranges_addable : Addable (IsRangeLeft p (Some lost))
  ranges_addable =
      addable_as (OfSome (OfNode (IsRangeLeft p (Some lost))) nodes) (IsRangeLeft p (Some lost)) range_node (λ f k. k.2.0)
      (listed_addable (OfNode (IsRangeLeft p (Some lost))) nodes (λ k a e. let s = range_choice a (node_there p.kinds k a e) in at_most_addable (OfNode (IsRangeLeft p (Some lost)) a) s.0 s.1))

  class_node : (f : Atom) → IsClassLeft p (Some lost) f → OfSome (OfNode (IsClassLeft p (Some lost))) nodes f
  class_node (Eq a b c) k = (a, node_place p.kinds a k.2, (k, refl))
  class_node (In a lo hi) k = absurd k
  class_node (Ne a b c) k = absurd k

  classes_addable : Addable (IsClassLeft p (Some lost))
  classes_addable =
      addable_as (OfSome (OfNode (IsClassLeft p (Some lost))) nodes) (IsClassLeft p (Some lost)) class_node (λ f k. k.2.0)
      (listed_addable (OfNode (IsClassLeft p (Some lost))) nodes (λ k a e. let s = class_choice a (node_there p.kinds k a e) in at_most_addable (OfNode (IsClassLeft p (Some lost)) a) s.0 s.1))

  -- ---- the list

  pub forgotten : FollowsFromMore → (atoms : List Atom) × IsForgotten p lost atoms
  forgotten grows =
      let r = ranges_addable [] in
      let e = classes_addable [] in
      let d = difference_addable false [] in
      let i = difference_addable true [] in
      let atoms : List Atom = ((r.0 ++ e.0) ++ d.0) ++ i.0 in
      (atoms, forgotten_list law grows p true_p form lost nz (Some lost) heir refl out r.0 e.0 d.0 i.0 (r.0 ++ e.0) ((r.0 ++ e.0) ++ d.0) atoms p.starts p.starts refl refl r.1 e.1 d.1 i.1 refl refl refl)
