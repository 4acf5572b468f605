-- What is left when a node is forgotten is well made.
use Rattle.std.proofs.Common.{◌≡◌, ◌⊎◌, inl, inr, ◌≤◌, ◌<◌, ℕ, zero, suc, ℤ, ◌+ℤ◌, ◌-ℤ◌, ◌≤ℤ◌, ◌<ℤ◌, pos, negsuc, List, [], ◌∷◌, ◌++◌, Bool, true, false, Some, Contains, map, slice_get, refl, sym, ◌∙◌, ap, subst, arith, eqb-true, eq-eqb}
use Rattle.std.proofs.lemmas.Int.{ints, clamps, by_lt_z}
use Rattle.std.specs.Int.{int_max, int_min}
use Rattle.std.specs.Prelude.{◌==◌}
use Rattle.std.specs.List.{AllByRecursion}
use Rattle.mc_base.specs.declared.ids.EdgeId.{EdgeId}
use Rattle.mc_base.specs.declared.ids.NodeId.{NodeId}
use Rattle.mc_base.specs.declared.plain.Atom.{Atom}
use Rattle.mc_base.specs.declared.plain.Atom.TheVariants.{Eq, Ne, In}
use Rattle.mc_base.specs.declared.plain.Kind.{Kind}
use Rattle.mc_base.specs.declared.plain.Kind.TheVariants.{Int, Ptr}
use Rattle.mc_base.specs.declared.plain.VarInfo.{VarInfo}
use Rattle.mc_base.specs.Atoms.{nodes_of_atom}
use Rattle.mc_base.specs.Nodes.{null}
use Rattle.mc_flow.specs.declared.defs.rules.Def.{Def}
use Rattle.mc_flow.specs.declared.defs.shapes.StructInfo.{StructInfo}
use Rattle.mc_state.specs.declared.graph.edge.Edge.{Edge}
use Rattle.mc_state.specs.Graph.Edges.{known_nodes, nodes_of}
use Rattle.mc_pure.specs.Canonical.{AreListed, IsLeast, IsRangeAtom, IsClassAtom, IsDifference, plainly}
use Rattle.mc_pure.specs.Derived as pure
use Rattle.mc_pure.specs.Derived.{Follows, IsFalse, HasRange}
use Rattle.mc_pure.specs.Pure as known
use Rattle.mc_pure.specs.Pure.{Kinds, Pure, HasKind, IsNode, AreOfOneKind, IsOffset, IsBound, IsWellFormed, kind_of, low_of, high_of}
use Rattle.mc_state.specs.State.{State, pure_of}
use Rattle.mc_state.specs.Facts.{IsUnnamed}
use Rattle.mc_pure.specs.Whole.{kinds_without}
use Rattle.mc_state.specs.Facts as facts
use Rattle.mc_state.specs.Fits.{IsBounded, EdgeFitsDefs, EdgeFitsStructs, IsWellMade}
use Rattle.mc_rules_logic.specs.Fold.Changed.{alone, left_over, Forgets}
use Rattle.mc_rules_logic.specs.Fold.Laws.{LawOfForget}
use Rattle.mc_rules_logic.specs.Fold.MadeLaws.{ForgetStaysMade}
use Rattle.mc_pure.specs.Whole.{IsInside}
use Rattle.mc_state.proofs.Tests.{not_no}
use Rattle.mc_rules_logic.proofs.FoldLemmas.ChangeJudging.{known_var, differ_to}
use Rattle.mc_rules_logic.proofs.FoldLemmas.KindsAgree.{Parted, IsNumber, KindsAgree, number_back, agree, base_agrees}
use Rattle.mc_rules_logic.proofs.FoldLemmas.Lists.{all_places}
use Rattle.mc_rules_logic.proofs.FoldLemmas.MadeNodes.{in_kind, overlap, not_below, kept_kind, may_more, defs_more, structs_more}
use Rattle.mc_rules_logic.proofs.FoldLemmas.Naming.{after_is}
use Rattle.mc_rules_logic.proofs.FoldLemmas.Ordered.{among_cases, among_none}
use Rattle.mc_rules_logic.proofs.FoldLemmas.Reaching.{Among, among_at, among_from, among_to, among_left, among_all, place_of}
use Rattle.mc_state.proofs.Lists.{all_append}

-- ---- numbers in their bounds

-- what moves a number of one kind to one of another is an offset
offset_between : (a b : Kind) (c : ℤ) → ((low_of b +ℤ c) ≤ℤ high_of a) × (low_of a ≤ℤ (high_of b +ℤ c)) → IsOffset c
offset_between Int Int c h = let low = h.0 in let high = h.1 in (omega (arith, ints), omega (arith, ints))
offset_between Int Ptr c h = let low = h.0 in let high = h.1 in (omega (arith, ints), omega (arith, ints))
offset_between Ptr Int c h = let low = h.0 in let high = h.1 in (omega (arith, ints), omega (arith, ints))
offset_between Ptr Ptr c h = let low = h.0 in let high = h.1 in (omega (arith, ints), omega (arith, ints))

bounds_in : (kind : Kind) (lo hi : ℤ) → low_of kind ≤ℤ lo → lo ≤ℤ hi → hi ≤ℤ high_of kind → IsBound lo × IsBound hi
bounds_in Int lo hi a b c = ((omega (arith, ints), omega (arith, ints)), (omega (arith, ints), omega (arith, ints)))
bounds_in Ptr lo hi a b c = ((omega (arith, ints), omega (arith, ints)), (omega (arith, ints), omega (arith, ints)))

-- how many numbers a range has at most
abbrev AtMost : ℤ → ℤ → ℕ → Type 0
AtMost lo hi n = hi <ℤ (lo +ℤ pos n)

-- a range that is not long
length_of : (lo hi : ℤ) → (n : ℕ) × AtMost lo hi n
length_of lo hi = at (hi -ℤ lo) refl
  where
    at : (d : ℤ) → (hi -ℤ lo) ≡ d → (n : ℕ) × AtMost lo hi n
    at (pos n) e = (suc n, omega (arith, ints))
    at (negsuc n) e = (0, omega (arith, ints))

module _ (q : Pure) (consistent : IsFalse q → ⊥) where
  -- a range is not empty
  not_empty : (n : NodeId) (lo hi : ℤ) → Follows q (In n lo hi) → lo ≤ℤ hi
  not_empty n lo hi h = not_below lo hi (λ less. consistent (pure.empty less h))

  -- a range is least where none is shorter
  is_least : (size : ℕ) (n : NodeId) (lo hi : ℤ) → AtMost lo hi (suc size) → Follows q (In n lo hi) → ((m k : ℤ) → AtMost m k size → Follows q (In n m k) → ⊥) → HasRange q n lo hi
  is_least size n lo hi short h none =
      record {
        follows = h;
        least = λ m k g. (
          not_below m lo (λ less. none (int_max lo m) (int_min hi k) (omega (arith, ints, clamps)) (pure.met h g)),
          not_below hi k (λ less. none (int_max lo m) (int_min hi k) (omega (arith, ints, clamps)) (pure.met h g)),
        );
      }

  -- there is a least range: none that is not least can be the last
  least_range : (size : ℕ) (n : NodeId) (lo hi : ℤ) → AtMost lo hi size → Follows q (In n lo hi) → ((m k : ℤ) → HasRange q n m k → ⊥) → ⊥
  least_range zero n lo hi short h none = let some = not_empty n lo hi h in omega (arith, ints)
  least_range (suc size) n lo hi short h none = none lo hi (is_least size n lo hi short h (λ m k s g. least_range size n m k s g none))

  some_range : (n : NodeId) (lo hi : ℤ) → Follows q (In n lo hi) → ((m k : ℤ) → HasRange q n m k → ⊥) → ⊥
  some_range n lo hi h none = let size = length_of lo hi in least_range size.0 n lo hi size.1 h none

  module _ (ranges equalities : List Atom) (listed : (f : Atom) → IsRangeAtom q f → Among f (ranges ++ equalities)) where
    abbrev plain : Pure
    plain = plainly q (ranges ++ equalities)

    -- the least range of node 0 follows
    null_plain : (n : NodeId) (lo hi : ℤ) → n ≡ null → HasRange q n lo hi → Follows plain (In n lo hi)
    null_plain n lo hi e r =
        let zero_is : Follows q (In n (pos 0) (pos 0)) = rw e (pure.base known.zero) in
        let ends = r.least (pos 0) (pos 0) zero_is in
        let some = not_empty n lo hi r.follows in
        let low = ends.0 in
        let high = ends.1 in
        let here : Follows plain (In n (pos 0) (pos 0)) = rw e (pure.base known.zero) in
        pure.widened here (omega (arith, ints)) (omega (arith, ints))

    -- a least range follows from the ranges that are listed
    in_plain : (n : NodeId) (kind : Kind) (lo hi : ℤ) → HasKind q.kinds kind n → HasRange q n lo hi → Follows plain (In n lo hi)
    in_plain n kind lo hi (inl e) r = null_plain n lo hi e r
    in_plain n kind lo hi (inr e) r = at (n.0 == 0) refl
      where
        written : (n ≡ null → ⊥) → (low_of kind <ℤ lo) ⊎ (hi <ℤ high_of kind) → Follows plain (In n lo hi)
        written not_null narrow =
            let place = place_of (ranges ++ equalities) (In n lo hi) (listed (In n lo hi) (kind, not_null, e, r, narrow)) in
            pure.base (known.written place.0 place.1)

        at : (b : Bool) → (n.0 == 0) ≡ b → Follows plain (In n lo hi)
        at true is = null_plain n lo hi (ap (λ (k : ℕ). record { 0 = k }) (eqb-true n.0 0 is)) r
        at false is =
            let not_null : n ≡ null → ⊥ = λ same. differs_test is same in
            by_lt_z (low_of kind) lo (λ less. written not_null (inl less))
            (λ low. by_lt_z hi (high_of kind) (λ less. written not_null (inr less)) (λ high. pure.widened (in_kind plain n kind (inr e)) low high)) where
              differs_test : (n.0 == 0) ≡ false → n ≡ null → ⊥
              differs_test is same = let wrong : (n.0 == 0) ≡ true = eq-eqb n.0 0 (ap (λ (m : NodeId). m.0) same) in cc (wrong, is)

    -- what ranges part, the listed ranges part
    not_parted : (a b : NodeId) (i j : Kind) (c : ℤ) → HasKind q.kinds i a → HasKind q.kinds j b → (Follows plain (Ne a b c) → ⊥) → Parted q a b c → ⊥
    not_parted a b i j c has_a has_b none r =
        some_range a r.lo r.hi r.left (λ l h x. some_range b r.m r.k r.right (λ m k y. none (parts l h m k x y)))
      where
        parts : (l h m k : ℤ) → HasRange q a l h → HasRange q b m k → Follows plain (Ne a b c)
        parts l h m k x y =
            let left = x.least r.lo r.hi r.left in
            let right = y.least r.m r.k r.right in
            let left_low = left.0 in
            let left_high = left.1 in
            let right_low = right.0 in
            let right_high = right.1 in
            let apart : (h <ℤ (m +ℤ c)) ⊎ ((k +ℤ c) <ℤ l) = elim r.apart [
              | inl less ↦ inl (omega (arith, ints))
              | inr less ↦ inr (omega (arith, ints))
            ] in
            pure.disjoint (in_plain a i l h has_a x) (in_plain b j m k has_b y) apart

    -- so the number of a disequality that does not follow from them is an offset
    difference_offset : (a b : NodeId) (i j : Kind) (c : ℤ) → HasKind q.kinds i a → HasKind q.kinds j b → (Follows plain (Ne a b c) → ⊥) → IsOffset c
    difference_offset a b i j c has_a has_b none =
        let left = in_kind q a i has_a in
        let right = in_kind q b j has_b in
        let never : (high_of i <ℤ (low_of j +ℤ c)) ⊎ ((high_of j +ℤ c) <ℤ low_of i) → ⊥ =
        λ apart. not_parted a b i j c has_a has_b none (record { lo = low_of i; hi = high_of i; m = low_of j; k = high_of j; left = left; right = right; apart = apart }) in
        offset_between i j c (not_below (low_of j +ℤ c) (high_of i) (λ less. never (inl less)), not_below (low_of i) (high_of j +ℤ c) (λ less. never (inr less)))

-- ---- the atoms that are written

-- what a property of atoms gives holds of the atoms that are listed for it
all_listed : (P Q : Atom → Type 0) (xs : List Atom) → AreListed P xs → ((f : Atom) → P f → Q f) → AllByRecursion Q xs
all_listed P Q xs l step = all_places Q xs (λ place x e. step x ((l.exact x).0 (among_to xs x (among_at xs place x e))))

all_amongs : {X : Type 0} (P : X → Type 0) (xs : List X) → ((x : X) → Among x xs → P x) → AllByRecursion P xs
all_amongs P [] f = tt
all_amongs P (x ∷ xs) f = (f x (inl refl), all_amongs P xs (λ y a. f y (inr a)))

-- a node that is not forgotten keeps its kind
kept_has : (kinds : Kinds) (node : NodeId) (kind : Kind) (n : NodeId) → (n ≡ node → ⊥) → HasKind kinds kind n → HasKind (kinds_without kinds node) kind n
kept_has kinds node kind n other (inl e) = inl e
kept_has kinds node kind n other (inr e) = inr (kept_kind kinds node n (not_no (n.0 == node.0) (differ_to n node other)) ∙ e)

module _ (defs : List Def) (vars : List VarInfo) (structs : List StructInfo) (node : NodeId) (s t : State) (w : IsWellMade defs vars structs s) (consistent : facts.IsFalse s → ⊥) (not_null : node ≡ null → ⊥) (f : Forgets node s t) where
  abbrev before : Pure
  before = pure_of s

  abbrev after : Pure
  after = alone t

  -- what follows after followed before
  back : (a : Atom) → Follows after a → Follows before a
  back a h = elim ((f.derived a).0 h).0 [
    | inl g ↦ g
    | inr wrong ↦ absurd (consistent wrong)
  ]

  -- and does not name the node
  unnamed : (a : Atom) → Follows after a → (n : NodeId) → Among n (nodes_of_atom a) → n ≡ node → ⊥
  unnamed a h n among e = ((f.derived a).0 h).1 (among_to (nodes_of_atom a) node (subst (λ m. Among m (nodes_of_atom a)) e among))

  sound : IsFalse after → ⊥
  sound (pure.empty less h) = consistent (pure.empty less (back _ h))
  sound (pure.apart h) = consistent (pure.apart (back _ h))
  sound (pure.more ne h) = consistent (pure.more ne (back _ h))

  kept : (kind : Kind) (n : NodeId) → (n ≡ node → ⊥) → HasKind s.kinds kind n → HasKind t.kinds kind n
  kept kind n other has = subst (λ (ks : Kinds). HasKind ks kind n) (sym f.kinds) (kept_has s.kinds node kind n other has)

  one_kind : (a b : NodeId) → (a ≡ node → ⊥) → (b ≡ node → ⊥) → AreOfOneKind s.kinds a b → AreOfOneKind t.kinds a b
  one_kind a b x y one = (one.0, kept one.0 a x one.1, kept one.0 b y one.2)

  one_name : (n : NodeId) → (n ≡ node → ⊥) → Contains (n ∷ []) node → ⊥
  one_name n other c = elim (among_cases n [] node c) [
    | inl e ↦ other e
    | inr d ↦ among_none node d
  ]

  -- a node that is a number is one still
  number_after : (n : NodeId) → (n ≡ node → ⊥) → IsNumber before n → IsNumber after n
  number_after n other x = (x.0, (f.derived (Eq n null x.0)).1 (inl x.1, two_names))
    where
      two_names : Contains (n ∷ null ∷ []) node → ⊥
      two_names c = elim (among_cases n (null ∷ []) node c) [
        | inl e ↦ other e
        | inr d ↦ one_name null (λ e. not_null (sym e)) d
      ]

  parted_after : (a b : NodeId) (c : ℤ) → (a ≡ node → ⊥) → (b ≡ node → ⊥) → Parted before a b c → Parted after a b c
  parted_after a b c x y r =
      record {
        lo = r.lo;
        hi = r.hi;
        m = r.m;
        k = r.k;
        left = (f.derived (In a r.lo r.hi)).1 (inl r.left, one_name a x);
        right = (f.derived (In b r.m r.k)).1 (inl r.right, one_name b y);
        apart = r.apart;
      }

  agrees : (a : Atom) → Follows after a → KindsAgree before a
  agrees a h = agree before (base_agrees defs s w.atoms w.fits_defs) a (back a h)

  null_is : (n : NodeId) → n.0 ≤ 0 → n ≡ null
  null_is n less = let zero_is : n.0 ≡ 0 = omega arith in ap (λ (k : ℕ). record { 0 = k }) zero_is

  -- the least of a class that is a number is node 0
  least_number : (b : NodeId) → IsLeast after b → IsNumber after b → b ≡ null
  least_number b l x = null_is b (l.1 null x.0 x.1)

  range_well : (a : Atom) → IsRangeAtom after a → IsWellFormed t.kinds a
  range_well (Eq a b c) x = absurd x
  range_well (Ne a b c) x = absurd x
  range_well (In n lo hi) x =
      let ends = x.3.least (low_of x.0) (high_of x.0) (in_kind after n x.0 (inr x.2)) in
      let bounds = bounds_in x.0 lo hi ends.0 (not_empty after sound n lo hi x.3.follows) ends.1 in
      ((x.0, inr x.2), bounds.0, bounds.1)

  class_kind : (a b : NodeId) (c : ℤ) → IsClassAtom after (Eq a b c) → KindsAgree before (Eq a b c) → AreOfOneKind t.kinds a b
  class_kind a b c x (inl one) = one_kind a b (unnamed (Eq a b c) x.3 a (inl refl)) (unnamed (Eq a b c) x.3 b (inr (inl refl))) one
  class_kind a b c x (inr num) =
      let here = number_back after a b c x.3 (number_after a (unnamed (Eq a b c) x.3 a (inl refl)) num) in
      absurd (x.1 (least_number b x.2 here))

  class_well : (a : Atom) → IsClassAtom after a → IsWellFormed t.kinds a
  class_well (Ne a b c) x = absurd x
  class_well (In n lo hi) x = absurd x
  class_well (Eq a b c) x =
      let one = class_kind a b c x (agrees (Eq a b c) x.3) in
      let moved : Follows after (In a (low_of one.0 +ℤ c) (high_of one.0 +ℤ c)) = pure.shifted x.3 (in_kind after b one.0 one.2) in
      let meet = overlap after a (low_of one.0 +ℤ c) (high_of one.0 +ℤ c) (low_of one.0) (high_of one.0) sound moved (in_kind after a one.0 one.1) in
      (one, offset_between one.0 one.0 c meet)

  module _ (ranges equalities : List Atom) (listed : (a : Atom) → IsRangeAtom after a → Among a (ranges ++ equalities)) where
    difference_kind : (i j : NodeId) (c : ℤ) → IsDifference after (plainly after (ranges ++ equalities)) (Ne i j c) → KindsAgree before (Ne i j c) → AreOfOneKind t.kinds i j
    difference_kind i j c x (inl one) = one_kind i j (unnamed (Ne i j c) x.3 i (inl refl)) (unnamed (Ne i j c) x.3 j (inr (inl refl))) one
    difference_kind i j c x (inr (inl num)) =
        let zero_is = least_number i x.0 (number_after i (unnamed (Ne i j c) x.3 i (inl refl)) num) in
        let less = x.2 in
        let number : i.0 ≡ 0 = ap (λ (n : NodeId). n.0) zero_is in
        absurd (none less number) where
          none : j.0 < i.0 → i.0 ≡ 0 → ⊥
          none less number = omega arith
    difference_kind i j c x (inr (inr (inl num))) =
        let zero_is = least_number j x.1 (number_after j (unnamed (Ne i j c) x.3 j (inr (inl refl))) num) in
        (x.0.0.0, x.0.0.1, inl zero_is)
    difference_kind i j c x (inr (inr (inr r))) =
        let parted = parted_after i j c (unnamed (Ne i j c) x.3 i (inl refl)) (unnamed (Ne i j c) x.3 j (inr (inl refl))) r in
        absurd (not_parted after sound ranges equalities listed i j x.0.0.0 x.1.0.0 c x.0.0.1 x.1.0.1 x.4 parted)

    difference_well : (a : Atom) → IsDifference after (plainly after (ranges ++ equalities)) a → IsWellFormed t.kinds a
    difference_well (Eq a b c) x = absurd x
    difference_well (In n lo hi) x = absurd x
    difference_well (Ne i j c) x = (
      difference_kind i j c x (agrees (Ne i j c) x.3),
      difference_offset after sound ranges equalities listed i j x.0.0.0 x.1.0.0 c x.0.0.1 x.1.0.1 x.4,
    )

    gap_well : (a : Atom) → IsInside after (plainly after (ranges ++ equalities)) a → IsWellFormed t.kinds a
    gap_well (Eq a b c) x = absurd x
    gap_well (In n lo hi) x = absurd x
    gap_well (Ne i j c) x =
        let kind : Kind = x.0.0.0 in
        let other : HasKind t.kinds kind j = subst (λ n. HasKind t.kinds kind n) x.1 x.0.0.1 in
        ((kind, x.0.0.1, other), difference_offset after sound ranges equalities listed i j kind kind c x.0.0.1 other x.4)

  atoms_well : AllByRecursion (IsWellFormed t.kinds) t.atoms
  atoms_well =
      let well : Atom → Type 0 = IsWellFormed t.kinds in
      let full = f.listed in
      let list = full.canonical in
      let listed : (a : Atom) → IsRangeAtom after a → Among a (list.ranges ++ list.equalities) = λ a x. among_left list.ranges list.equalities a (among_from list.ranges a ((list.ranges_listed.exact a).1 x)) in
      let plain : Pure = plainly after (list.ranges ++ list.equalities) in
      let ranges = all_listed (IsRangeAtom after) well list.ranges list.ranges_listed range_well in
      let equalities = all_listed (IsClassAtom after) well list.equalities list.equalities_listed class_well in
      let differences = all_listed (IsDifference after plain) well list.differences list.differences_listed (difference_well list.ranges list.equalities listed) in
      let gaps = all_listed (IsInside after plain) well full.inner full.inner_listed (gap_well list.ranges list.equalities listed) in
      let most = all_append well list.ranges (list.equalities ++ list.differences) ranges (all_append well list.equalities list.differences equalities differences) in
      let canonical : AllByRecursion well full.list = subst (AllByRecursion well) (sym list.together) most in
      subst (AllByRecursion well) (sym full.together) (all_append well full.list full.inner canonical gaps)

pub forget_made : LawOfForget → ForgetStaysMade
forget_made law defs vars structs node s next i w =
    let t = i.after in
    let f = i.forgets in
    let others : Kinds = kinds_without s.kinds node in
    let is = after_is s t node f in
    let lawful = subst (AllByRecursion IsBounded) i.gives (law defs node s next w.bounded i).1 in
    let well = atoms_well defs vars structs node s t w i.consistent i.not_null f in
    let other : NodeId → Type 0 = λ n. n ≡ node → ⊥ in
    let more : (kind : Kind) (n : NodeId) → other n → HasKind s.kinds kind n → HasKind others kind n = kept_has s.kinds node in
    let env : AllByRecursion other (known_nodes s.env) =
    all_amongs other (known_nodes s.env) (λ n a e. let var = known_var s.env n a in i.unnamed.vars var.0 (var.1 ∙ ap (λ k. Some (Some k)) e)) in
    let named : (place : ℕ) (x : EdgeId × Edge) → slice_get s.graph.edges place ≡ Some x → AllByRecursion other (nodes_of x.1) =
    λ place x there. all_amongs other (nodes_of x.1) (λ n a e. i.unnamed.edges place x.0 x.1 there (among_to (nodes_of x.1) node (subst (λ m. Among m (nodes_of x.1)) e a))) in
    let made : IsWellMade defs vars structs (left_over s node t.atoms) =
    record {
      bounded = subst IsBounded is lawful.0;
      atoms = subst (λ (ks : Kinds). AllByRecursion (IsWellFormed ks) t.atoms) f.kinds well;
      fits_defs =
          all_places (λ (e : EdgeId × Edge). EdgeFitsDefs defs others e.1) s.graph.edges
          (λ place x e. defs_more s.kinds others other more defs x.1 (named place x e) (among_all (λ (y : EdgeId × Edge). EdgeFitsDefs defs s.kinds y.1) s.graph.edges x w.fits_defs (among_at s.graph.edges place x e)));
      fits_program = record {
        vars_fit = may_more s.kinds others other more (map (λ x. x.kind) vars) s.env env w.fits_program.vars_fit;
        blocks_fit =
            all_places (λ (e : EdgeId × Edge). EdgeFitsStructs structs others e.1) s.graph.edges
            (λ place x e. structs_more s.kinds others other more structs x.1 (named place x e) (among_all (λ (y : EdgeId × Edge). EdgeFitsStructs structs s.kinds y.1) s.graph.edges x w.fits_program.blocks_fit (among_at s.graph.edges place x e)));
      };
    } in
    rw i.gives (subst (IsWellMade defs vars structs) (sym is) made, tt)
