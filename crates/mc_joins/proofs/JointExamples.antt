-- Small joins with their atoms.
use Rattle.std.proofs.Common.{◌≡◌, ◌≢◌, ◌⊎◌, ◌++◌, ℕ, zero, suc, ℤ, pos, negsuc, ◌+ℤ◌, ◌≤ℤ◌, ◌<ℤ◌, ◌≤◌, ◌<◌, List, [], ◌∷◌, Some, slice_get, refl, sym, ◌∙◌, ap, subst, inl, inr, arith, None, get_or}
use Rattle.std.specs.Prelude.{slice_index_or}
use Rattle.std.specs.List.{AllByRecursion}
use Rattle.std.proofs.lemmas.Int.{ints, clamps}
use Rattle.mc_base.specs.declared.ids.NodeId.{NodeId}
use Rattle.mc_base.specs.declared.plain.Kind.{Kind}
use Rattle.mc_base.specs.declared.plain.Kind.TheVariants.{Int, Ptr}
use Rattle.mc_base.specs.declared.plain.Atom.{Atom}
use Rattle.mc_base.specs.declared.plain.Atom.TheVariants.{Eq, Ne, In}
use Rattle.mc_base.specs.Atoms.{IsTrueAtom}
use Rattle.mc_base.specs.Kinds.{InKind}
use Rattle.mc_base.specs.Nodes.{Valuation, null}
use Rattle.mc_pure.specs.Derived.{Follows, HasRange, base, turned, shifted, differs, differs_along, disjoint}
use Rattle.mc_pure.specs.Examples.{node}
use Rattle.mc_pure.specs.Laws as pure
use Rattle.mc_pure.specs.Laws.{FollowsFromMore, TrueIsNotFalse}
use Rattle.mc_pure.specs.Pure as known
use Rattle.mc_pure.specs.Canonical.{IsLeast, IsRangeAtom, IsClassAtom, IsCanonical, plainly, IsDifference, IsListOf}
use Rattle.mc_pure.specs.Pure.{Pure, Kinds, IsNode, IsWellFormed, kind_of, low_of, high_of, Base, kind_atom}
use Rattle.mc_pure.specs.Rows.{nodes_of}
use Rattle.mc_pure_ops.specs.Join.Joint.{Pairs, IsJoint, IsJointRange, IsLate, sides, IsOfBoth}
use Rattle.mc_pure_ops.specs.Canon.Order.{Among}
use Rattle.mc_pure_ops.proofs.CanonLemmas.Listing.{contains_from, contains_to, either_in, right_in, left_in}
use Rattle.mc_pure_ops.proofs.CanonLemmas.Nodes.{in_as, ne_as, whole_least}
use Rattle.mc_pure.proofs.Placing.{node_place, place_of_kind}
use Rattle.mc_state.specs.State.{State, pure_of}
use Rattle.mc_kernel.proofs.Plain.{known_of}
use Rattle.mc_joins.specs.JointExamples.{two_kinds, two_known, two_turned, tied, pointers, TiedCountersJoin, TurnedJoins, OneClassJoins}
use Rattle.mc_joins.specs.Joinings.{Joining, begun, Pair}
use Rattle.mc_joins.specs.Parts.{Basis}
use Rattle.mc_joins.specs.Same.Laws.{FalseRenamed}
use Rattle.mc_joins.specs.Whole.{AreJointAtoms, Joins, over_nodes, result_of}
use Rattle.mc_joins.proofs.AtomsLemmas.Joint.{ListLaws, IsSide, side_of}
use Rattle.mc_joins.proofs.AtomsLemmas.Kinds.{joinable, joint_kinds}
use Rattle.mc_joins.proofs.AtomsLemmas.Present.{atoms_there}
use Rattle.mc_joins.proofs.JointKinds.{Proper}
use Rattle.mc_kernel.proofs.Plain.{base_true, not_false}
use Rattle.std.specs.Int.{int_max}
use Rattle.mc_base.specs.Ranges.Thresholds.{WidensUp}
use Rattle.mc_pure_ops.specs.Canon.Left.{IsLeft, IsRangeLeft, IsClassLeft}
use Rattle.mc_pure.proofs.Changing.{number}
use Rattle.mc_pure_ops.proofs.CanonLemmas.Within.{range_in}
use Rattle.mc_pure_ops.proofs.JoinLemmas.Follow.{range_once}
use Rattle.mc_rules_logic.specs.Fold.Changed.{alone}
use Rattle.mc_joins.proofs.AtomsLemmas.Listing.{least_range}

-- numbers for nodes 1 and 2
abbrev pub two_values : ℤ → ℤ → Valuation
two_values a b zero = pos 0
two_values a b (suc zero) = a
two_values a b (suc (suc n)) = b

-- the laws on which it rests
pub record ExampleLaws : Type 0 where
  pub lists : ListLaws
  pub renamed : FalseRenamed
  pub truth : pure.DerivedIsTrue
  pub true_is : TrueIsNotFalse

fits_at : (P : Atom → Type 0) (xs : List Atom) → AllByRecursion P xs → (i : ℕ) (f : Atom) → slice_get xs i ≡ Some f → P f
fits_at P [] a i f e = absurd (cc e)
fits_at P (x ∷ xs) a zero f e = let same : x ≡ f = cc e in subst P same a.0
fits_at P (x ∷ xs) a (suc i) f e = fits_at P xs a.1 i f e

-- ---- joins of two states that know two variables

module _ (laws : ExampleLaws) (kind : Kind) where
  -- well formed atoms that are true by some numbers
  side_by : (atoms : List Atom) (a b : ℤ) → AllByRecursion (IsWellFormed (two_kinds kind)) atoms → InKind kind a → InKind kind b → AllByRecursion (IsTrueAtom (two_values a b)) atoms
      → IsSide (known_of (two_kinds kind) atoms)
  side_by atoms a b well ka kb are =
      side_of laws.lists (known_of (two_kinds kind) atoms) (omega arith, (omega arith, tt))
      (record { written = fits_at (IsWellFormed (two_kinds kind)) atoms well; starts = λ i x e. absurd (cc e) })
      (not_false (two_values a b) (two_kinds kind) atoms refl (ka, (kb, tt)) are laws.true_is)

  -- the ends of a range are those of two numbers of the node
  first_range : (atoms : List Atom) (lo hi b c : ℤ) → Follows (known_of (two_kinds kind) atoms) (In (node 1) lo hi) → InKind kind lo → InKind kind hi → InKind kind b → InKind kind c
      → AllByRecursion (IsTrueAtom (two_values lo b)) atoms → AllByRecursion (IsTrueAtom (two_values hi c)) atoms → HasRange (known_of (two_kinds kind) atoms) (node 1) lo hi
  first_range atoms lo hi b c d kl kh kb kc low high = record {
    follows = d;
    least = λ m k f. (
      (laws.truth (known_of (two_kinds kind) atoms) (two_values lo b) (base_true (two_values lo b) (two_kinds kind) atoms refl (kl, (kb, tt)) low) (In (node 1) m k) (inl f)).0,
      (laws.truth (known_of (two_kinds kind) atoms) (two_values hi c) (base_true (two_values hi c) (two_kinds kind) atoms refl (kh, (kc, tt)) high) (In (node 1) m k) (inl f)).1,
    );
  }

  second_range : (atoms : List Atom) (lo hi a c : ℤ) → Follows (known_of (two_kinds kind) atoms) (In (node 2) lo hi) → InKind kind lo → InKind kind hi → InKind kind a → InKind kind c
      → AllByRecursion (IsTrueAtom (two_values a lo)) atoms → AllByRecursion (IsTrueAtom (two_values c hi)) atoms → HasRange (known_of (two_kinds kind) atoms) (node 2) lo hi
  second_range atoms lo hi a c d kl kh ka kc low high = record {
    follows = d;
    least = λ m k f. (
      (laws.truth (known_of (two_kinds kind) atoms) (two_values a lo) (base_true (two_values a lo) (two_kinds kind) atoms refl (ka, (kl, tt)) low) (In (node 2) m k) (inl f)).0,
      (laws.truth (known_of (two_kinds kind) atoms) (two_values c hi) (base_true (two_values c hi) (two_kinds kind) atoms refl (kc, (kh, tt)) high) (In (node 2) m k) (inl f)).1,
    );
  }

-- ---- counters that go up together

abbrev pub marks : List ℤ
marks = pos 0 ∷ pos 10 ∷ []

late : IsLate Int 3
late = let three : 3 ≤ 3 = omega arith in three

nearest : (least : ℤ) → pos 0 <ℤ least → (k : ℕ) (d : ℤ) → k < 2 → least ≤ℤ slice_index_or marks k d → pos 10 ≤ℤ slice_index_or marks k d
nearest least more zero d less above = let wrong : least ≤ℤ pos 0 = above in absurd (let no : ⊥ = omega (arith, ints) in no)
nearest least more (suc zero) d less above = let same : pos 10 ≤ℤ pos 10 = omega (arith, ints) in same
nearest least more (suc (suc k)) d less above = absurd (let no : ⊥ = omega arith in no)

-- a low end that stays, and a high one that goes to 10
widens : (l h k : ℤ) → h <ℤ k → pos 0 <ℤ k → k ≤ℤ pos 10 → IsJointRange Int 3 marks l h l k l (pos 10)
widens l h k more positive low = record {
  hull = λ no. absurd (no late);
  wide = λ is. (
    record { kept = λ e. refl; moved = λ less. absurd (let no : ⊥ = omega (arith, ints, clamps, less) in no) },
    record {
      kept = λ e. absurd (let no : ⊥ = omega (arith, ints, clamps, e, more) in no);
      moved = λ less. record {
        reached = omega (arith, ints, clamps, more, low);
        among = inl (1, omega arith, refl);
        nearest = nearest _ (omega (arith, ints, clamps, more, positive));
      };
    },
  );
}

-- a node is 0, 1 or 2
pub nodes_are : (n : NodeId) → IsNode (two_kinds Int) n → (n ≡ null) ⊎ ((n ≡ node 1) ⊎ (n ≡ node 2))
nodes_are n there = let p = node_place (two_kinds Int) n there in at p.0 p.1
  where
    at : (i : ℕ) → slice_get (nodes_of (two_kinds Int)) i ≡ Some n → (n ≡ null) ⊎ ((n ≡ node 1) ⊎ (n ≡ node 2))
    at zero e = inl (cc e)
    at (suc zero) e = inr (inl (cc e))
    at (suc (suc zero)) e = inr (inr (cc e))
    at (suc (suc (suc i))) e = absurd (cc e)

some_pair : {x y : Pair} → Some x ≡ Some y → x ≡ y
some_pair e = cc

some_first : {a b c d : NodeId} → (let x : Pair = (a, b) in let y : Pair = (c, d) in Some x ≡ Some y) → a ≡ c
some_first {a} {b} {c} {d} e = ap (λ (p : Pair). p.0) (some_pair {x = (a, b)} {y = (c, d)} e)

some_second : {a b c d : NodeId} → (let x : Pair = (a, b) in let y : Pair = (c, d) in Some x ≡ Some y) → b ≡ d
some_second {a} {b} {c} {d} e = ap (λ (p : Pair). p.1) (some_pair {x = (a, b)} {y = (c, d)} e)

-- such a node that has a kind is an int other than node 0
int_is : (n : NodeId) (kind : Kind) → kind_of (two_kinds Int) n ≡ Some kind → (kind ≡ Int) × (n ≢ null)
int_is n kind e = at (nodes_are n (kind, inr e))
  where
    here : {m : NodeId} → n ≡ m → kind_of (two_kinds Int) m ≡ Some kind
    here same = subst (λ (u : NodeId). kind_of (two_kinds Int) u ≡ Some kind) same e

    some_kind : {k : Kind} → Some Int ≡ Some k → k ≡ Int
    some_kind e = cc

    at : (n ≡ null) ⊎ ((n ≡ node 1) ⊎ (n ≡ node 2)) → (kind ≡ Int) × (n ≢ null)
    at (inl same) = absurd (let none = here same in cc)
    at (inr (inl same)) = (some_kind (here same), λ z. let number_is : 1 ≡ 0 = number (sym same ∙ z) in omega arith)
    at (inr (inr same)) = (some_kind (here same), λ z. let number_is : 2 ≡ 0 = number (sym same ∙ z) in omega arith)

ends_are : (x h y k x' h' y' k' lo hi : ℤ) → x' ≡ x → h' ≡ h → y' ≡ y → k' ≡ k → IsJointRange Int 3 marks x h y k lo hi → IsJointRange Int 3 marks x' h' y' k' lo hi
ends_are x h y k x' h' y' k' lo hi p q r s j =
    subst (λ (z : ℤ). IsJointRange Int 3 marks z h' y' k' lo hi) (sym p)
    (subst (λ (z : ℤ). IsJointRange Int 3 marks x z y' k' lo hi) (sym q)
    (subst (λ (z : ℤ). IsJointRange Int 3 marks x h z k' lo hi) (sym r)
    (subst (λ (z : ℤ). IsJointRange Int 3 marks x h y z lo hi) (sym s) j)))

-- a high end that passes the old one goes to 10 or beyond
far_end : (old new hi : ℤ) → old <ℤ new → pos 0 <ℤ new → WidensUp marks old new hi → pos 10 ≤ℤ hi
far_end old new hi more positive w =
    let near = w.moved more in
    elim near.among [
      | inl c ↦ listed_end c.0 c.1 c.2 near.reached
      | inr e ↦ omega (arith, ints, e)
    ]
  where
    listed_end : (i : ℕ) → i < 2 → get_or marks i hi ≡ hi → new ≤ℤ hi → pos 10 ≤ℤ hi
    listed_end zero less e reached = let zero_is : pos 0 ≡ hi = e in absurd (let no : ⊥ = omega (arith, ints, zero_is, reached, positive) in no)
    listed_end (suc zero) less e reached = let ten : pos 10 ≡ hi = e in omega (arith, ints, ten)
    listed_end (suc (suc i)) less e reached = absurd (let no : ⊥ = omega (arith, less) in no)

-- where no disequality is known from the beginning, none is on the canonical list
no_gap_listed : (laws : ExampleLaws) (p : Pure) (side : IsSide p) → p.starts ≡ [] → ((a b : NodeId) (c : ℤ) → Among p.written (Ne a b c) → ⊥) → (list : List Atom) → IsCanonical p list
    → (a b : NodeId) (c : ℤ) → Among list (Ne a b c) → ⊥
no_gap_listed laws p side bare none list (inl wrong) a b c m = side.consistent wrong.0
no_gap_listed laws p side bare none list (inr is) a b c m =
    let l = is.1 in
    elim (either_in l.ranges (l.equalities ++ l.differences) (Ne a b c) (subst (λ (fs : List Atom). Among fs (Ne a b c)) l.together m)) [
      | inl k ↦ (l.ranges_listed.exact (Ne a b c)).0 (contains_from l.ranges (Ne a b c) k)
      | inr k ↦ elim (either_in l.equalities l.differences (Ne a b c) k) [
        | inl e ↦ (l.equalities_listed.exact (Ne a b c)).0 (contains_from l.equalities (Ne a b c) e)
        | inr d ↦ by_ranges l ((l.differences_listed.exact (Ne a b c)).0 (contains_from l.differences (Ne a b c) d))
      ]
    ]
  where
    no_base : (x y : NodeId) (d : ℤ) (f : Atom) → Base p f → f ≡ Ne x y d → ⊥
    no_base x y d f (known.written i e) same = none x y d (i, subst (λ (g : Atom). slice_get p.written i ≡ Some g) same e)
    no_base x y d _ known.zero same = cc
    no_base x y d _ (known.kind i e) same = cc
    no_base x y d _ (known.block i e) same = cc
    no_base x y d _ (known.apart {a} i j ne e k) same =
        let nothing : slice_get {X = NodeId} [] i ≡ Some a = subst (λ (ns : List NodeId). slice_get ns i ≡ Some a) bare e in cc

    class_of : (f : Atom) → IsClassLeft p None f → IsClassAtom p f
    class_of (Eq x y e) k = (k.0, k.1, whole_least p y k.4, k.5)
    class_of (Ne x y e) k = absurd k
    class_of (In n lo hi) k = absurd k

    by_ranges : (l : IsListOf p list) → IsDifference p (plainly p (l.ranges ++ l.equalities)) (Ne a b c) → ⊥
    by_ranges l d =
        let r : Pure = plainly p (l.ranges ++ l.equalities) in
        let kinds_in : (n : NodeId) (k : Kind) → kind_of p.kinds n ≡ Some k → IsLeft None n → Follows r (kind_atom n k) =
        λ n k e left. let at = place_of_kind p.kinds n k e in base (known.kind at.0 at.1) in
        let ranges_in : (f : Atom) → IsRangeLeft p None f → Follows r f =
        λ f k. let at = left_in l.ranges l.equalities f (contains_to l.ranges f ((l.ranges_listed.exact f).1 k.0)) in base (known.written at.0 at.1) in
        let classes_in : (f : Atom) → IsClassLeft p None f → Follows r f =
        λ f k. let at = right_in l.ranges l.equalities f (contains_to l.equalities f ((l.equalities_listed.exact f).1 (class_of f k))) in base (known.written at.0 at.1) in
        let h = laws.lists.says p side.form.nf side.form.normal (Ne a b c) d.3 in
        let in_r = range_in laws.lists.says p side.consistent side.form.nf side.form.normal None r (λ n there left. there) kinds_in ranges_in classes_in in
        elim h.2 [
          | inl apart ↦ d.4 (disjoint (in_r a _ _ tt (least_range laws.lists.says p side.fit side.consistent side.form a h.0)) (in_r b _ _ tt (least_range laws.lists.says p side.fit side.consistent side.form b h.1)) apart)
          | inr listed_one ↦ elim listed_one [ inl u ↦ no_base u.0 u.1 u.2 (Ne u.0 u.1 u.2) u.3 refl | inr u ↦ no_base u.0 u.1 u.2 (Ne u.0 u.1 u.2) u.3 refl ]
        ]

-- ---- the joins

-- two states in which both variables are the same two nodes
module _ (laws : ExampleLaws) (kind : Kind) (A B : List Atom) (L : IsSide (known_of (two_kinds kind) A)) (R : IsSide (known_of (two_kinds kind) B)) (round : ℕ) (thresholds : List ℤ) where
  abbrev left : State
  left = two_known kind A

  abbrev right : State
  right = two_known kind B

  abbrev last : Joining
  last = begun left right

  abbrev rest : Pairs
  rest = (node 1, node 1) ∷ (node 2, node 2) ∷ []

  proper : AllByRecursion (Proper (two_kinds kind) (two_kinds kind)) rest
  proper = (((kind, inr refl, inr refl), λ e d. let no : ⊥ = omega (arith, e) in no), (((kind, inr refl, inr refl), λ e d. let no : ⊥ = omega (arith, e) in no), tt))

  pub joint_there : (atoms : List Atom) × AreJointAtoms round thresholds last (result_of left right last atoms)
  joint_there = atoms_there laws.lists laws.renamed round thresholds left right last L R (joinable last refl rest refl proper) (joint_kinds last refl rest refl proper)

  pub is_whole : (w : Basis) (atoms : List Atom) → AreJointAtoms round thresholds last (result_of left right last atoms) → Joins w round thresholds left right [] (result_of left right last atoms)
  is_whole w atoms a = record { last = last; reached = refl; done = refl; gives = refl; atoms = a }

-- what joint atoms give is entailed in what the join gives
says_joint : (round : ℕ) (thresholds : List ℤ) (j : Joining) (t : State) (a : AreJointAtoms round thresholds j t) (f : Atom)
    → IsJoint (sides (pure_of j.left.state) (pure_of j.right.state) j.pairs a.join.left_list a.join.right_list round thresholds) t.kinds f → Follows (over_nodes t a.joint) f
says_joint round thresholds j t a f is = a.join.complete f is

module _ (laws : ExampleLaws) where
  -- counters
  abbrev pub counters_of : ℤ → Pure
  counters_of high = known_of (two_kinds Int) (tied high)

  int_of : (z : ℤ) → pos 0 ≤ℤ z → z ≤ℤ pos 3 → InKind Int z
  int_of z low high = (omega (arith, ints), omega (arith, ints))

  tied_side : (high : ℤ) → pos 0 ≤ℤ high → high ≤ℤ pos 2 → IsSide (counters_of high)
  tied_side high low top =
      side_by laws Int (tied high) (pos 0) (pos 1)
      (((Int, inr refl), (omega (arith, ints), omega (arith, ints)), (omega (arith, ints), omega (arith, ints))), (((Int, inr refl, inr refl), (omega (arith, ints), omega (arith, ints))), tt))
      (omega (arith, ints), omega (arith, ints)) (omega (arith, ints), omega (arith, ints)) ((omega (arith, ints), low), (refl, tt))

  tied_range : (high : ℤ) → pos 0 ≤ℤ high → high ≤ℤ pos 2 → HasRange (counters_of high) (node 2) (pos 1) (high +ℤ pos 1)
  tied_range high low top =
      second_range laws Int (tied high) (pos 1) (high +ℤ pos 1) (pos 0) high
      (in_as (counters_of high) (shifted {a = node 2} {b = node 1} (base (known.written 1 refl)) (base (known.written 0 refl))) (omega (arith, ints)) refl)
      (omega (arith, ints), omega (arith, ints)) (omega (arith, ints), omega (arith, ints)) (omega (arith, ints), omega (arith, ints)) (omega (arith, ints), omega (arith, ints))
      ((omega (arith, ints), low), (refl, tt)) ((low, omega (arith, ints)), (refl, tt))

  tied_first : (high : ℤ) → pos 0 ≤ℤ high → high ≤ℤ pos 2 → HasRange (counters_of high) (node 1) (pos 0) high
  tied_first high low top =
      first_range laws Int (tied high) (pos 0) high (pos 1) (high +ℤ pos 1)
      (base (known.written 0 refl))
      (omega (arith, ints), omega (arith, ints)) (omega (arith, ints), omega (arith, ints)) (omega (arith, ints), omega (arith, ints)) (omega (arith, ints), omega (arith, ints))
      ((omega (arith, ints), low), (refl, tt)) ((low, omega (arith, ints)), (refl, tt))

  tied_no_gap : (high : ℤ) (a b : NodeId) (c : ℤ) → Among (tied high) (Ne a b c) → ⊥
  tied_no_gap high a b c m = at m.0 m.1
    where
      at : (i : ℕ) → slice_get (tied high) i ≡ Some (Ne a b c) → ⊥
      at zero e = cc
      at (suc zero) e = cc
      at (suc (suc i)) e = cc

  abbrev pub tied_left : State
  tied_left = two_known Int (tied (pos 1))

  abbrev pub tied_right : State
  tied_right = two_known Int (tied (pos 2))

  abbrev pub tied_last : Joining
  tied_last = begun tied_left tied_right

  pub side_one : IsSide (counters_of (pos 1))
  side_one = tied_side (pos 1) (omega (arith, ints)) (omega (arith, ints))

  pub side_two : IsSide (counters_of (pos 2))
  side_two = tied_side (pos 2) (omega (arith, ints)) (omega (arith, ints))

  -- such a state is true by any counters that lie in its range
  pub counter_true : (high : ℤ) → pos 1 ≤ℤ high → (y : ℤ) → pos 0 ≤ℤ y → y ≤ℤ high → high ≤ℤ pos 2 → (f : Atom) → Follows (counters_of high) f → IsTrueAtom (two_values y (y +ℤ pos 1)) f
  counter_true high most y from to top f d =
      laws.truth (counters_of high) (two_values y (y +ℤ pos 1))
      (base_true (two_values y (y +ℤ pos 1)) (two_kinds Int) (tied high) refl ((omega (arith, ints, from, to, top), omega (arith, ints, from, to, top)), ((omega (arith, ints, from, to, top), omega (arith, ints, from, to, top)), tt)) ((from, to), (refl, tt))) f
      (inl d)

  left_true : (y : ℤ) → pos 0 ≤ℤ y → y ≤ℤ pos 1 → (f : Atom) → Follows (counters_of (pos 1)) f → IsTrueAtom (two_values y (y +ℤ pos 1)) f
  left_true y from to = counter_true (pos 1) (omega (arith, ints)) y from to (omega (arith, ints))

  -- counters from 0 to 9 meet what the join gives
  module _ (x : ℤ) (low : pos 0 ≤ℤ x) (top : x ≤ℤ pos 9) (t : State) (kinds : t.kinds ≡ two_kinds Int) (a : AreJointAtoms 3 marks tied_last t) where
    abbrev v : Valuation
    v = two_values x (x +ℤ pos 1)

    tie_holds : (i k : ℕ) (c : ℤ) → two_values (pos 0) (pos 1) i ≡ two_values (pos 0) (pos 1) k +ℤ c → two_values (pos 1) (pos 2) i ≡ two_values (pos 1) (pos 2) k +ℤ c → v i ≡ v k +ℤ c
    tie_holds zero zero c p q = p
    tie_holds zero (suc zero) c p q = absurd (let no : ⊥ = omega (arith, ints, p, q) in no)
    tie_holds zero (suc (suc k)) c p q = absurd (let no : ⊥ = omega (arith, ints, p, q) in no)
    tie_holds (suc zero) zero c p q = absurd (let no : ⊥ = omega (arith, ints, p, q) in no)
    tie_holds (suc zero) (suc zero) c p q = omega (arith, ints, p, q)
    tie_holds (suc zero) (suc (suc k)) c p q = omega (arith, ints, p, q)
    tie_holds (suc (suc i)) zero c p q = absurd (let no : ⊥ = omega (arith, ints, p, q) in no)
    tie_holds (suc (suc i)) (suc zero) c p q = omega (arith, ints, p, q)
    tie_holds (suc (suc i)) (suc (suc k)) c p q = omega (arith, ints, p, q)

    gap_holds : (i k : ℕ) → (two_values (pos 0) (pos 1) i ≡ two_values (pos 0) (pos 1) k +ℤ pos 0 → ⊥) → v i ≡ v k +ℤ pos 0 → ⊥
    gap_holds zero zero p e = p refl
    gap_holds zero (suc zero) p e = p refl
    gap_holds zero (suc (suc k)) p e = omega (arith, ints, e, low)
    gap_holds (suc zero) zero p e = p refl
    gap_holds (suc zero) (suc zero) p e = p refl
    gap_holds (suc zero) (suc (suc k)) p e = omega (arith, ints, e)
    gap_holds (suc (suc i)) zero p e = omega (arith, ints, e, low)
    gap_holds (suc (suc i)) (suc zero) p e = omega (arith, ints, e)
    gap_holds (suc (suc i)) (suc (suc k)) p e = p refl

    -- where the new range goes on beyond the old one, it is widened to 10 or beyond
    wide_holds : (l h k lo hi z : ℤ) → l ≤ℤ z → z ≤ℤ pos 10 → h <ℤ k → pos 0 <ℤ k → IsJointRange Int 3 marks l h l k lo hi → (lo ≤ℤ z) × (z ≤ℤ hi)
    wide_holds l h k lo hi z from to more positive j =
        let wide = j.wide late in
        let low_is : lo ≡ l = wide.0.kept (omega (arith, ints, clamps)) in
        let far : pos 10 ≤ℤ hi = far_end h (int_max h k) hi (omega (arith, ints, clamps, more)) (omega (arith, ints, clamps, more, positive)) wide.1 in
        (omega (arith, ints, low_is, from), omega (arith, ints, far, to))

    range_at : (n l r : NodeId) (y h z k lo hi : ℤ) (i : ℕ) → n.0 ≡ i → n ≢ null → slice_get tied_last.pairs i ≡ Some (l, r) → HasRange (counters_of (pos 1)) l y h → HasRange (counters_of (pos 2)) r z k
        → IsJointRange Int 3 marks y h z k lo hi → (lo ≤ℤ v i) × (v i ≤ℤ hi)
    range_at n l r y h z k lo hi zero is other e p q j = absurd (other (ap (λ (m : ℕ). let x : NodeId = record { 0 = m } in x) is))
    range_at n l r y h z k lo hi (suc zero) is other e p q j =
        let b = range_once (counters_of (pos 1)) side_one.consistent (node 1) (pos 0) (pos 1) y h (tied_first (pos 1) (omega (arith, ints)) (omega (arith, ints))) (subst (λ (u : NodeId). HasRange (counters_of (pos 1)) u y h) (sym (some_first e)) p) in
        let d = range_once (counters_of (pos 2)) side_two.consistent (node 1) (pos 0) (pos 2) z k (tied_first (pos 2) (omega (arith, ints)) (omega (arith, ints))) (subst (λ (u : NodeId). HasRange (counters_of (pos 2)) u z k) (sym (some_second e)) q) in
        wide_holds (pos 0) (pos 1) (pos 2) lo hi x low (omega (arith, ints, top)) (omega (arith, ints)) (omega (arith, ints)) (ends_are y h z k (pos 0) (pos 1) (pos 0) (pos 2) lo hi b.0 b.1 d.0 d.1 j)
    range_at n l r y h z k lo hi (suc (suc zero)) is other e p q j =
        let b = range_once (counters_of (pos 1)) side_one.consistent (node 2) (pos 1) (pos 2) y h (tied_range (pos 1) (omega (arith, ints)) (omega (arith, ints))) (subst (λ (u : NodeId). HasRange (counters_of (pos 1)) u y h) (sym (some_first e)) p) in
        let d = range_once (counters_of (pos 2)) side_two.consistent (node 2) (pos 1) (pos 3) z k (tied_range (pos 2) (omega (arith, ints)) (omega (arith, ints))) (subst (λ (u : NodeId). HasRange (counters_of (pos 2)) u z k) (sym (some_second e)) q) in
        wide_holds (pos 1) (pos 2) (pos 3) lo hi (x +ℤ pos 1) (omega (arith, ints, low)) (omega (arith, ints, top)) (omega (arith, ints)) (omega (arith, ints)) (ends_are y h z k (pos 1) (pos 2) (pos 1) (pos 3) lo hi b.0 b.1 d.0 d.1 j)
    range_at n l r y h z k lo hi (suc (suc (suc i))) is other e p q j = absurd (cc e)

    -- a node of the result is that node of both sides
    own_node : (i : ℕ) (l r : NodeId) → slice_get tied_last.pairs i ≡ Some (l, r) → l.0 ≡ i
    own_node zero l r e = number (sym (some_first e))
    own_node (suc zero) l r e = number (sym (some_first e))
    own_node (suc (suc zero)) l r e = number (sym (some_first e))
    own_node (suc (suc (suc i))) l r e = absurd (cc e)

    no_left : (l m : NodeId) (c : ℤ) → Among a.join.left_list (Ne l m c) → ⊥
    no_left = no_gap_listed laws (counters_of (pos 1)) side_one refl (tied_no_gap (pos 1)) a.join.left_list a.join.left_canonical

    no_right : (l m : NodeId) (c : ℤ) → Among a.join.right_list (Ne l m c) → ⊥
    no_right = no_gap_listed laws (counters_of (pos 2)) side_two refl (tied_no_gap (pos 2)) a.join.right_list a.join.right_canonical

    of_both : (f : Atom) → IsOfBoth (sides (pure_of tied_left) (pure_of tied_right) tied_last.pairs a.join.left_list a.join.right_list 3 marks) t.kinds f → IsTrueAtom v f
    of_both (Eq b d c) o =
        let first = own_node b.0 o.0 o.1 o.4 in
        let second = own_node d.0 o.2 o.3 o.5 in
        let p = left_true (pos 0) (omega (arith, ints)) (omega (arith, ints)) (Eq o.0 o.2 c) o.6 in
        let q = left_true (pos 1) (omega (arith, ints)) (omega (arith, ints)) (Eq o.0 o.2 c) o.6 in
        subst (λ (i : ℕ). v i ≡ v d.0 +ℤ c) first (subst (λ (k : ℕ). v o.0.0 ≡ v k +ℤ c) second (tie_holds o.0.0 o.2.0 c p q))
    of_both (Ne b d c) o = elim o.8 [
      | inl zero_is ↦
          let first = own_node b.0 o.0 o.1 o.4 in
          let second = own_node d.0 o.2 o.3 o.5 in
          let p = left_true (pos 0) (omega (arith, ints)) (omega (arith, ints)) (Ne o.0 o.2 (pos 0)) (subst (λ (z : ℤ). Follows (counters_of (pos 1)) (Ne o.0 o.2 z)) zero_is o.6) in
          subst (λ (z : ℤ). v b.0 ≡ v d.0 +ℤ z → ⊥) (sym zero_is)
          (subst (λ (i : ℕ). v i ≡ v d.0 +ℤ pos 0 → ⊥) first (subst (λ (k : ℕ). v o.0.0 ≡ v k +ℤ pos 0 → ⊥) second (gap_holds o.0.0 o.2.0 p)))
      | inr listed_on ↦ elim listed_on [ inl l ↦ absurd (no_left o.0 o.2 c l) | inr r ↦ absurd (no_right o.1 o.3 c r) ]
    ]
    of_both (In n lo hi) o =
        let kind = int_is n o.0 (subst (λ (ks : Kinds). kind_of ks n ≡ Some o.0) kinds o.1) in
        range_at n o.2 o.3 o.5 o.6 o.7 o.8 lo hi n.0 refl kind.1 o.4 o.9 o.10 (subst (λ (z : Kind). IsJointRange z 3 marks o.5 o.6 o.7 o.8 lo hi) kind.0 o.11)

    all_hold : (fs : List Atom) → ((f : Atom) → Among fs f → IsTrueAtom v f) → AllByRecursion (IsTrueAtom v) fs
    all_hold [] h = tt
    all_hold (f ∷ fs) h = (h f (0, refl), all_hold fs (λ g m. h g (suc m.0, m.1)))

    entailed_holds : (f : Atom) → Follows (alone t) f → IsTrueAtom v f
    entailed_holds f d =
        laws.truth (over_nodes t a.joint) v
        (base_true v t.kinds a.joint refl
        (subst (λ (ks : Kinds). AllByRecursion (λ (k : NodeId × Kind). InKind k.1 (v k.0.0)) ks) (sym kinds) ((omega (arith, ints, low), omega (arith, ints, top)), ((omega (arith, ints, low), omega (arith, ints, top)), tt)))
        (all_hold a.joint (λ g m. of_both g (a.join.sound g m).1))) f (inl ((a.same f).0 d))

  -- what the join gives
  abbrev tied_got : (atoms : List Atom) × AreJointAtoms 3 marks tied_last (result_of tied_left tied_right tied_last atoms)
  tied_got = joint_there laws Int (tied (pos 1)) (tied (pos 2)) side_one side_two 3 marks

  abbrev pub tied_result : State
  tied_result = result_of tied_left tied_right tied_last tied_got.0

  pub tied_joins : (w : Basis) → Joins w 3 marks tied_left tied_right [] tied_result
  tied_joins w = is_whole laws Int (tied (pos 1)) (tied (pos 2)) side_one side_two 3 marks w tied_got.0 tied_got.1

  tied_tie : Follows (over_nodes tied_result tied_got.1.joint) (Eq (node 2) (node 1) (pos 1))
  tied_tie =
      says_joint 3 marks tied_last tied_result tied_got.1 (Eq (node 2) (node 1) (pos 1))
      (((Int, inr refl, inr refl), (omega (arith, ints), omega (arith, ints))), (node 2, node 2, node 1, node 1, refl, refl, base (known.written 1 refl), base (known.written 1 refl)))

  tied_wide : Follows (over_nodes tied_result tied_got.1.joint) (In (node 2) (pos 1) (pos 10))
  tied_wide = says_joint 3 marks tied_last tied_result tied_got.1 (In (node 2) (pos 1) (pos 10)) (
    ((Int, inr refl), (omega (arith, ints), omega (arith, ints)), (omega (arith, ints), omega (arith, ints))),
    (
      Int,
      refl,
      node 2,
      node 2,
      refl,
      pos 1,
      pos 2,
      pos 1,
      pos 3,
      tied_range (pos 1) (omega (arith, ints)) (omega (arith, ints)),
      tied_range (pos 2) (omega (arith, ints)) (omega (arith, ints)),
      widens (pos 1) (pos 2) (pos 3) (omega (arith, ints)) (omega (arith, ints)) (omega (arith, ints)),
    ),
  )

  tied_narrow : Follows (over_nodes tied_result tied_got.1.joint) (In (node 1) (pos 0) (pos 9))
  tied_narrow =
      in_as (over_nodes tied_result tied_got.1.joint) (shifted {a = node 1} {b = node 2} (turned tied_tie) tied_wide) (omega (arith, ints)) (omega (arith, ints))

  -- counters of 0 and 1, and of 9 and 10, meet it
  pub least_true : (f : Atom) → Follows (alone tied_result) f → IsTrueAtom (two_values (pos 0) (pos 1)) f
  least_true = entailed_holds (pos 0) (omega (arith, ints)) (omega (arith, ints)) tied_result refl tied_got.1

  most_true : (f : Atom) → Follows (alone tied_result) f → IsTrueAtom (two_values (pos 9) (pos 10)) f
  most_true = entailed_holds (pos 9) (omega (arith, ints)) (omega (arith, ints)) tied_result refl tied_got.1

  pub first_counter : HasRange (pure_of tied_result) (node 1) (pos 0) (pos 9)
  first_counter = record {
    follows = (tied_got.1.same (In (node 1) (pos 0) (pos 9))).1 tied_narrow;
    least = λ m k d. ((least_true (In (node 1) m k) d).0, (most_true (In (node 1) m k) d).1);
  }

  second_counter : HasRange (pure_of tied_result) (node 2) (pos 1) (pos 10)
  second_counter = record {
    follows = (tied_got.1.same (In (node 2) (pos 1) (pos 10))).1 tied_wide;
    least = λ m k d. ((least_true (In (node 2) m k) d).0, (most_true (In (node 2) m k) d).1);
  }

  pub tied_counters_join : TiedCountersJoin
  tied_counters_join w = (tied_result, tied_joins w, inl ((tied_got.1.same (Eq (node 2) (node 1) (pos 1))).1 tied_tie), first_counter, second_counter)

  -- pointers
  pointer_side : IsSide (known_of (two_kinds Ptr) pointers)
  pointer_side =
      side_by laws Ptr pointers (pos 1) (pos 6)
      (((Ptr, inr refl, inr refl), (omega (arith, ints), omega (arith, ints))), (((Ptr, inr refl, inr refl), (omega (arith, ints), omega (arith, ints))), tt))
      (omega (arith, ints), omega (arith, ints)) (omega (arith, ints), omega (arith, ints)) (refl, ((λ e. let no : ⊥ = omega (arith, ints, e) in no), tt))

  pub one_class_joins : OneClassJoins
  one_class_joins w =
      let got = joint_there laws Ptr pointers pointers pointer_side pointer_side 2 [] in
      let j = begun (two_known Ptr pointers) (two_known Ptr pointers) in
      let t = result_of (two_known Ptr pointers) (two_known Ptr pointers) j got.0 in
      let tie = says_joint 2 [] j t got.1 (Eq (node 2) (node 1) (pos 5))
      (((Ptr, inr refl, inr refl), (omega (arith, ints), omega (arith, ints))), (node 2, node 2, node 1, node 1, refl, refl, base (known.written 0 refl), base (known.written 0 refl))) in
      let apart = says_joint 2 [] j t got.1 (Ne (node 2) (node 1) (pos 0))
      (((Ptr, inr refl, inr refl), (omega (arith, ints), omega (arith, ints))), (node 2, node 2, node 1, node 1, refl, refl, base (known.written 1 refl), base (known.written 1 refl), inl refl)) in
      let inside = ne_as (over_nodes t got.1.joint) (differs_along (differs apart) tie) (omega (arith, ints)) in
      (t, is_whole laws Ptr pointers pointers pointer_side pointer_side 2 [] w got.0 got.1, inl ((got.1.same _).1 tie), inl ((got.1.same _).1 inside))

-- ---- a disequality of nodes that are numbered the other way round

abbrev turned_atoms : List Atom
turned_atoms = Ne (node 2) (node 1) (pos 5) ∷ []

abbrev turned_pure : Pure
turned_pure = known_of (two_kinds Int) turned_atoms

module _ (laws : ExampleLaws) where
  turned_side : IsSide turned_pure
  turned_side = side_by laws Int turned_atoms (pos 0) (pos 0) (((Int, inr refl, inr refl), (omega (arith, ints), omega (arith, ints))), tt) (omega (arith, ints), omega (arith, ints)) (omega (arith, ints), omega (arith, ints))
      ((λ e. let no : ⊥ = omega (arith, ints, e) in no), tt)

  -- what follows is true by all numbers that are not 5 apart
  true_by : (x y : ℤ) → InKind Int x → InKind Int y → (y ≡ x +ℤ pos 5 → ⊥) → (f : Atom) → Follows turned_pure f → IsTrueAtom (two_values x y) f
  true_by x y kx ky other f d = laws.truth turned_pure (two_values x y) (base_true (two_values x y) (two_kinds Int) turned_atoms refl (kx, (ky, tt)) (other, tt)) f (inl d)

  zero_in : InKind Int (pos 0)
  zero_in = (omega (arith, ints), omega (arith, ints))

  one_in : InKind Int (pos 1)
  one_in = (omega (arith, ints), omega (arith, ints))

  null_one : (c : ℤ) → Follows turned_pure (Eq null (node 1) c) → ⊥
  null_one c d =
      let p : pos 0 ≡ pos 0 +ℤ c = true_by (pos 0) (pos 0) zero_in zero_in (λ e. let no : ⊥ = omega (arith, ints, e) in no) _ d in
      let q : pos 0 ≡ pos 1 +ℤ c = true_by (pos 1) (pos 0) one_in zero_in (λ e. let no : ⊥ = omega (arith, ints, e) in no) _ d in
      omega (arith, ints, p, q)

  null_two : (c : ℤ) → Follows turned_pure (Eq null (node 2) c) → ⊥
  null_two c d =
      let p : pos 0 ≡ pos 0 +ℤ c = true_by (pos 0) (pos 0) zero_in zero_in (λ e. let no : ⊥ = omega (arith, ints, e) in no) _ d in
      let q : pos 0 ≡ pos 1 +ℤ c = true_by (pos 0) (pos 1) zero_in one_in (λ e. let no : ⊥ = omega (arith, ints, e) in no) _ d in
      omega (arith, ints, p, q)

  one_two : (c : ℤ) → Follows turned_pure (Eq (node 1) (node 2) c) → ⊥
  one_two c d =
      let p : pos 0 ≡ pos 0 +ℤ c = true_by (pos 0) (pos 0) zero_in zero_in (λ e. let no : ⊥ = omega (arith, ints, e) in no) _ d in
      let q : pos 1 ≡ pos 0 +ℤ c = true_by (pos 1) (pos 0) one_in zero_in (λ e. let no : ⊥ = omega (arith, ints, e) in no) _ d in
      omega (arith, ints, p, q)

  -- no two nodes are one class
  abbrev Are : NodeId → Type 0
  Are n = (n ≡ null) ⊎ ((n ≡ node 1) ⊎ (n ≡ node 2))

  at_nodes : {a b x y : NodeId} {c : ℤ} → a ≡ x → b ≡ y → Follows turned_pure (Eq a b c) → Follows turned_pure (Eq x y c)
  at_nodes {a} {b} {x} {y} {c} e f d = subst (λ (n : NodeId). Follows turned_pure (Eq x n c)) f (subst (λ (n : NodeId). Follows turned_pure (Eq n b c)) e d)

  no_class : (a b : NodeId) (c : ℤ) → Are a → Are b → Follows turned_pure (Eq a b c) → a ≡ b
  no_class a b c (inl e) (inl f) d = e ∙ sym f
  no_class a b c (inl e) (inr (inl f)) d = absurd (null_one c (at_nodes e f d))
  no_class a b c (inl e) (inr (inr f)) d = absurd (null_two c (at_nodes e f d))
  no_class a b c (inr (inl e)) (inl f) d = absurd (null_one _ (at_nodes f e (turned d)))
  no_class a b c (inr (inl e)) (inr (inl f)) d = e ∙ sym f
  no_class a b c (inr (inl e)) (inr (inr f)) d = absurd (one_two c (at_nodes e f d))
  no_class a b c (inr (inr e)) (inl f) d = absurd (null_two _ (at_nodes f e (turned d)))
  no_class a b c (inr (inr e)) (inr (inl f)) d = absurd (one_two _ (at_nodes f e (turned d)))
  no_class a b c (inr (inr e)) (inr (inr f)) d = e ∙ sym f

  one_class : (a b : NodeId) (c : ℤ) → Follows turned_pure (Eq a b c) → a ≡ b
  one_class a b c d =
      let k = laws.lists.says turned_pure turned_side.form.nf turned_side.form.normal (Eq a b c) d in
      no_class a b c (nodes_are a k.0) (nodes_are b k.1) d

  least_of : (n : NodeId) → IsNode (two_kinds Int) n → IsLeast turned_pure n
  least_of n there = (there, λ m c d. let same : n.0 ≡ m.0 = ap (λ (x : NodeId). x.0) (one_class n m c d) in omega arith)

  -- no range is narrower than its kind's
  low_in : InKind Int (negsuc 2147483647)
  low_in = (omega (arith, ints), omega (arith, ints))

  high_in : InKind Int (pos 2147483647)
  high_in = (omega (arith, ints), omega (arith, ints))

  wide : (n : NodeId) (lo hi : ℤ) → Are n → n ≢ null → Follows turned_pure (In n lo hi) → (lo ≤ℤ negsuc 2147483647) × (pos 2147483647 ≤ℤ hi)
  wide n lo hi (inl e) other d = absurd (other e)
  wide n lo hi (inr (inl e)) other d =
      let f = subst (λ (x : NodeId). Follows turned_pure (In x lo hi)) e d in (
        (true_by (negsuc 2147483647) (pos 0) low_in zero_in (λ e. let no : ⊥ = omega (arith, ints, e) in no) _ f).0,
        (true_by (pos 2147483647) (pos 0) high_in zero_in (λ e. let no : ⊥ = omega (arith, ints, e) in no) _ f).1,
      )
  wide n lo hi (inr (inr e)) other d =
      let f = subst (λ (x : NodeId). Follows turned_pure (In x lo hi)) e d in (
        (true_by (pos 0) (negsuc 2147483647) zero_in low_in (λ e. let no : ⊥ = omega (arith, ints, e) in no) _ f).0,
        (true_by (pos 0) (pos 2147483647) zero_in high_in (λ e. let no : ⊥ = omega (arith, ints, e) in no) _ f).1,
      )

  no_range : (f : Atom) → IsRangeAtom turned_pure f → ⊥
  no_range (Eq a b c) r = r
  no_range (Ne a b c) r = r
  no_range (In n lo hi) r =
      let own : r.0 ≡ Int = int_kind n r.0 (nodes_are n (r.0, inr r.2)) r.1 r.2 in
      let ends = wide n lo hi (nodes_are n (r.0, inr r.2)) r.1 r.3.follows in
      let narrow = subst (λ (k : Kind). (low_of k <ℤ lo) ⊎ (hi <ℤ high_of k)) own r.4 in
      elim narrow [ inl less ↦ omega (arith, ints, less, ends.0) | inr less ↦ omega (arith, ints, less, ends.1) ]
    where
      int_kind : (n : NodeId) (kind : Kind) → Are n → n ≢ null → kind_of (two_kinds Int) n ≡ Some kind → kind ≡ Int
      int_kind n kind (inl e) other is = absurd (other e)
      int_kind n kind (inr (inl e)) other is = let at : kind_of (two_kinds Int) (node 1) ≡ Some kind = subst (λ (x : NodeId). kind_of (two_kinds Int) x ≡ Some kind) e is in cc
      int_kind n kind (inr (inr e)) other is = let at : kind_of (two_kinds Int) (node 2) ≡ Some kind = subst (λ (x : NodeId). kind_of (two_kinds Int) x ≡ Some kind) e is in cc

  no_class_atom : (f : Atom) → IsClassAtom turned_pure f → ⊥
  no_class_atom (Eq a b c) r = r.0 (one_class a b c r.3)
  no_class_atom (Ne a b c) r = r
  no_class_atom (In n lo hi) r = r

  -- so the disequality is on the canonical list
  listed : (list : List Atom) → IsCanonical turned_pure list → Among list (Ne (node 2) (node 1) (pos 5))
  listed list (inl wrong) = absurd (turned_side.consistent wrong.0)
  listed list (inr is) =
      let l = is.1 in
      let plain : Pure = plainly turned_pure (l.ranges ++ l.equalities) in
      let f : Atom = Ne (node 2) (node 1) (pos 5) in
      let none : (g : Atom) → Among (l.ranges ++ l.equalities) g → ⊥ =
      λ g m. elim (either_in l.ranges l.equalities g m) [
        | inl r ↦ no_range g ((l.ranges_listed.exact g).0 (contains_from l.ranges g r))
        | inr e ↦ no_class_atom g ((l.equalities_listed.exact g).0 (contains_from l.equalities g e))
      ] in
      let new : Follows plain f → ⊥ = λ d. laws.truth plain (two_values (pos 0) (pos 5)) (plain_true (l.ranges ++ l.equalities) none) f (inl d) refl in
      let own = (l.differences_listed.exact f).1 (least_of (node 2) (Int, inr refl), least_of (node 1) (Int, inr refl), omega arith, base (known.written 0 refl), new) in
      subst (λ (fs : List Atom). Among fs f) (sym l.together) (right_in l.ranges (l.equalities ++ l.differences) f (right_in l.equalities l.differences f (contains_to l.differences f own)))
    where
      five_in : InKind Int (pos 5)
      five_in = (omega (arith, ints), omega (arith, ints))

      plain_true : (atoms : List Atom) → ((g : Atom) → Among atoms g → ⊥) → pure.IsTrue (two_values (pos 0) (pos 5)) (plainly turned_pure atoms)
      plain_true atoms none f (known.written i e) = absurd (none f (i, e))
      plain_true atoms none _ known.zero = base_true (two_values (pos 0) (pos 5)) (two_kinds Int) [] refl (zero_in, (five_in, tt)) tt _ known.zero
      plain_true atoms none _ (known.kind i e) = base_true (two_values (pos 0) (pos 5)) (two_kinds Int) [] refl (zero_in, (five_in, tt)) tt _ (known.kind i e)
      plain_true atoms none _ (known.block i e) = absurd (cc e)
      plain_true atoms none _ (known.apart i j ne e d) = absurd (cc e)

  abbrev turned_last : Joining
  turned_last = begun (two_turned Int turned_atoms) (two_turned Int turned_atoms)

  abbrev turned_rest : Pairs
  turned_rest = (node 2, node 2) ∷ (node 1, node 1) ∷ []

  turned_proper : AllByRecursion (Proper (two_kinds Int) (two_kinds Int)) turned_rest
  turned_proper = (((Int, inr refl, inr refl), λ e d. let no : ⊥ = omega (arith, e) in no), (((Int, inr refl, inr refl), λ e d. let no : ⊥ = omega (arith, e) in no), tt))

  pub turned_joins : TurnedJoins
  turned_joins w =
      let s = two_turned Int turned_atoms in
      let got = atoms_there laws.lists laws.renamed 1 [] s s turned_last turned_side turned_side (joinable turned_last refl turned_rest refl turned_proper) (joint_kinds turned_last refl turned_rest refl turned_proper) in
      let t = result_of s s turned_last got.0 in
      let apart = says_joint 1 [] turned_last t got.1 (Ne (node 1) (node 2) (pos 5)) (
        ((Int, inr refl, inr refl), (omega (arith, ints), omega (arith, ints))),
        (node 2, node 2, node 1, node 1, refl, refl, base (known.written 0 refl), base (known.written 0 refl), inr (inl (listed got.1.join.left_list got.1.join.left_canonical))),
      ) in
      (t, record { last = turned_last; reached = refl; done = refl; gives = refl; atoms = got.1 }, inl ((got.1.same _).1 apart))
