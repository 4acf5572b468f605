-- What is written where a node is forgotten: that a block starts at an address, and a disequality of a node with itself.
use Rattle.std.proofs.Common.{◌≡◌, ◌⊎◌, inl, inr, ℕ, zero, suc, ℤ, ◌+ℤ◌, ◌≤ℤ◌, pos, Bool, true, false, Option, Some, None, Contains, List, [], ◌∷◌, slice_get, refl, sym, ◌∙◌, ap, ap₂, subst, arith, eqb-true}
use Rattle.std.proofs.lemmas.Int.{ints}
use Rattle.std.specs.Prelude.{◌==◌, if◌then◌else◌}
use Rattle.mc_base.specs.declared.ids.NodeId.{NodeId}
use Rattle.mc_base.specs.declared.plain.Atom.{Atom}
use Rattle.mc_base.specs.declared.plain.Atom.TheVariants.{Eq, Ne, In}
use Rattle.mc_base.specs.declared.plain.Kind.{Kind}
use Rattle.mc_base.specs.declared.plain.Kind.TheVariants.{Ptr}
use Rattle.mc_base.specs.Atoms.{moved_atom, nodes_of_atom}
use Rattle.mc_base.specs.Nodes.{moved, null}
use Rattle.mc_base.specs.declared.ids.EdgeId.{EdgeId}
use Rattle.mc_flow.specs.Defs.Examples.{cell_id}
use Rattle.mc_state.specs.declared.graph.edge.Edge.{Edge}
use Rattle.mc_state.specs.declared.graph.edge.Edge.TheVariants.{Block}
use Rattle.mc_state.specs.Graph.Edges.{nodes_of}
use Rattle.mc_state.specs.CoverExamples.{entry}
use Rattle.mc_pure.specs.Canonical.{IsRangeAtom, IsClassAtom, IsDifference, plainly}
use Rattle.mc_pure.specs.Derived.{Follows, IsFalse, base, itself, turned, chained, shifted, met, widened, fixed, differs, differs_along, raised, lowered, disjoint}
use Rattle.mc_pure.specs.Examples.{node}
use Rattle.mc_pure.specs.Laws.{DerivedIsTrue, TrueIsNotFalse, FollowsFromMore, IsTrue}
use Rattle.mc_pure.specs.Pure as known
use Rattle.mc_pure.specs.Pure.{Pure, Kinds, Base, IsNode, kind_atom, kind_of}
use Rattle.mc_state.specs.Facts.{instead}
use Rattle.mc_state.specs.Fits.{AreNodes}
use Rattle.mc_state.specs.State.{pure_of}
use Rattle.mc_rules_logic.specs.Fold.Changed.{alone, Forgets, ForgetsNode}
use Rattle.mc_rules_logic.specs.Fold.Examples.{valued, block_beside, block_left}
use Rattle.mc_pure.specs.Whole.{IsInside, IsWholeList}
use Rattle.mc_rules_logic.proofs.FoldLemmas.ExampleForgets.{named, nothing_listed}
use Rattle.mc_rules_logic.proofs.FoldLemmas.Ordered.{among_cases, among_none}
use Rattle.mc_rules_logic.proofs.FoldLemmas.Reaching.{Among, among_to, among_from, among_all}
use Rattle.mc_rules_logic.proofs.FoldLemmas.Refusing.{numbers_fit}

-- ---- what follows, with other nodes in place of its own

module _ (p q : Pure) (move : ℕ → ℕ) (there : (n : NodeId) → IsNode p.kinds n → IsNode q.kinds (moved move n)) (bases : (f : Atom) → Base p f → Follows q (moved_atom move f)) where
  pub follows_moved : (f : Atom) → Follows p f → Follows q (moved_atom move f)
  follows_moved f (base b) = bases f b
  follows_moved _ (itself {a} n) = itself (there a n)
  follows_moved _ (turned h) = turned (follows_moved _ h)
  follows_moved _ (chained h k) = chained (follows_moved _ h) (follows_moved _ k)
  follows_moved _ (shifted h k) = shifted (follows_moved _ h) (follows_moved _ k)
  follows_moved _ (met h k) = met (follows_moved _ h) (follows_moved _ k)
  follows_moved _ (widened h low high) = widened (follows_moved _ h) low high
  follows_moved _ (fixed h k) = fixed (follows_moved _ h) (follows_moved _ k)
  follows_moved _ (differs h) = differs (follows_moved _ h)
  follows_moved _ (differs_along h k) = differs_along (follows_moved _ h) (follows_moved _ k)
  follows_moved _ (raised h k m) = raised (follows_moved _ h) (follows_moved _ k) (follows_moved _ m)
  follows_moved _ (lowered h k m) = lowered (follows_moved _ h) (follows_moved _ k) (follows_moved _ m)
  follows_moved _ (disjoint h k apart) = disjoint (follows_moved _ h) (follows_moved _ k) apart

-- node 2 goes to another one
abbrev pub two_to : ℕ → ℕ → ℕ
two_to keep = instead keep 2

not_moved : (keep : ℕ) (n : NodeId) → (n ≡ node 2 → ⊥) → moved (two_to keep) n ≡ n
not_moved keep n other = at (n.0 == 2) refl
  where
    at : (b : Bool) → (n.0 == 2) ≡ b → ◌≡◌ {A = NodeId} (record { 0 = if b then keep else n.0 }) n
    at true is = absurd (other (ap (λ (k : ℕ). record { 0 = k }) (eqb-true n.0 2 is)))
    at false is = refl

pub atom_not_moved : (keep : ℕ) (f : Atom) → (Contains (nodes_of_atom f) (node 2) → ⊥) → moved_atom (two_to keep) f ≡ f
atom_not_moved keep (Eq a b c) none =
    ap₂ (λ x y. Eq x y c) (not_moved keep a (λ e. none (among_to (a ∷ b ∷ []) (node 2) (inl e)))) (not_moved keep b (λ e. none (among_to (a ∷ b ∷ []) (node 2) (inr (inl e)))))
atom_not_moved keep (Ne a b c) none =
    ap₂ (λ x y. Ne x y c) (not_moved keep a (λ e. none (among_to (a ∷ b ∷ []) (node 2) (inl e)))) (not_moved keep b (λ e. none (among_to (a ∷ b ∷ []) (node 2) (inr (inl e)))))
atom_not_moved keep (In a lo hi) none = ap (λ x. In x lo hi) (not_moved keep a (λ e. none (among_to (a ∷ []) (node 2) (inl e))))

-- the kinds of one node
pub one_node : (kind : Kind) (n : NodeId) → IsNode ((node 1, kind) ∷ []) n → (n ≡ null) ⊎ (n ≡ node 1)
one_node kind n there = elim there.1 [
  | inl e ↦ inl e
  | inr e ↦ inr (one_of there.0 e)
] where
  one_of : (other : Kind) → kind_of ((node 1, kind) ∷ []) n ≡ Some other → n ≡ node 1
  one_of other e = at (1 == n.0) refl e
    where
      at : (b : Bool) → (1 == n.0) ≡ b → (if b then Some kind else None) ≡ Some other → n ≡ node 1
      at true is e = ap (λ (k : ℕ). record { 0 = k }) (sym (eqb-true 1 n.0 is))
      at false is e = absurd (cc e)

-- and its kind is that one
pub its_kind : (kind other : Kind) (n : NodeId) → kind_of ((node 1, kind) ∷ []) n ≡ Some other → kind ≡ other
its_kind kind other n e = at (1 == n.0) e
  where
    at : (b : Bool) → (if b then Some kind else None) ≡ Some other → kind ≡ other
    at true e = cc e
    at false e = absurd (cc e)

pub null_not_two : null ≡ node 2 → ⊥
null_not_two e = let numbers : ◌≡◌ {A = ℕ} 0 2 = ap (λ (m : NodeId). m.0) e in cc numbers

one_not_two : node 1 ≡ node 2 → ⊥
one_not_two e = let numbers : ◌≡◌ {A = ℕ} 1 2 = ap (λ (m : NodeId). m.0) e in cc numbers

pub null_not_one : null ≡ node 1 → ⊥
null_not_one e = let numbers : ◌≡◌ {A = ℕ} 0 1 = ap (λ (m : NodeId). m.0) e in cc numbers

-- of one node and node 0, none is node 2
pub not_two : (kind : Kind) (ns : List NodeId) → AreNodes ((node 1, kind) ∷ []) ns → Among (node 2) ns → ⊥
not_two kind ns there a = elim (one_node kind (node 2) (among_all (IsNode ((node 1, kind) ∷ [])) ns (node 2) there a)) [
  | inl e ↦ null_not_two (sym e)
  | inr e ↦ one_not_two (sym e)
]

-- ---- that a block starts at an address

module _ (truth : DerivedIsTrue) (false_not : TrueIsNotFalse) (grows : FollowsFromMore) where
  block_true : IsTrue (valued (pos 1 ∷ pos 0 ∷ [])) (pure_of block_beside)
  block_true =
      numbers_fit (valued (pos 1 ∷ pos 0 ∷ [])) (pure_of block_beside) refl ((omega (arith, ints), omega (arith, ints)), ((omega (arith, ints), omega (arith, ints)), tt)) tt
      ((omega (arith, ints), omega (arith, ints)), tt) (omega arith)

  null_pointer : Follows (alone block_left) (In null (known.low_of Ptr) (known.high_of Ptr))
  null_pointer = widened {lo = pos 0} {hi = pos 0} (base known.zero) (omega (arith, ints)) (omega (arith, ints))

  block_bases : (f : Atom) → Base (pure_of block_beside) f → Follows (alone block_left) (moved_atom (two_to 0) f)
  block_bases f (known.written place e) = absurd (cc e)
  block_bases _ known.zero = base known.zero
  block_bases _ (known.kind {n} {k} zero e) =
      let both : (node 1, Ptr) ≡ (n, k) = cc e in
      subst (λ (x : NodeId × Kind). Follows (alone block_left) (moved_atom (two_to 0) (kind_atom x.0 x.1))) both (base (known.kind 0 refl))
  block_bases _ (known.kind {n} {k} (suc zero) e) =
      let both : (node 2, Ptr) ≡ (n, k) = cc e in
      subst (λ (x : NodeId × Kind). Follows (alone block_left) (moved_atom (two_to 0) (kind_atom x.0 x.1))) both null_pointer
  block_bases _ (known.kind (suc (suc place)) e) = absurd (cc e)
  block_bases _ (known.block {a} zero e) =
      let same : node 1 ≡ a = cc e in
      subst (λ x. Follows (alone block_left) (moved_atom (two_to 0) (known.address_atom x))) same (base (known.written 0 refl))
  block_bases _ (known.block (suc place) e) = absurd (cc e)
  block_bases _ (known.apart zero zero ne x y) = absurd (ne refl)
  block_bases _ (known.apart zero (suc j) ne x y) = absurd (cc y)
  block_bases _ (known.apart (suc i) j ne x y) = absurd (cc x)

  block_nodes : (n : NodeId) → IsNode block_beside.kinds n → IsNode block_left.kinds (moved (two_to 0) n)
  block_nodes n there = at (n.0 == 2) refl
    where
      at : (b : Bool) → (n.0 == 2) ≡ b → IsNode block_left.kinds (record { 0 = if b then 0 else n.0 })
      at true is = (Ptr, inl refl)
      at false is = elim there.1 [
        | inl e ↦ (Ptr, inl e)
        | inr e ↦ (there.0, inr (kept there.0 e))
      ] where
        kept : (kind : Kind) → kind_of block_beside.kinds n ≡ Some kind → kind_of block_left.kinds n ≡ Some kind
        kept kind e = one (1 == n.0) e
          where
            one : (b : Bool) → (if b then Some Ptr else (if 2 == n.0 then Some Ptr else None)) ≡ Some kind → (if b then Some Ptr else None) ≡ Some kind
            one true e = e
            one false e = two (2 == n.0) refl e
              where
                two : (b : Bool) → (2 == n.0) ≡ b → (if b then Some Ptr else None) ≡ Some kind → ◌≡◌ {A = Option Kind} None (Some kind)
                two true is2 e = let same : (n.0 == 2) ≡ true = ap (λ k. k == 2) (sym (eqb-true 2 n.0 is2)) in absurd (cc (same, is))
                two false is2 e = e

  block_back : (f : Atom) → Base (alone block_left) f → Follows (pure_of block_beside) f
  block_back f (known.written zero e) = let same : In (node 1) (pos 1) (pos 4611686018427387903) ≡ f = cc e in subst (Follows (pure_of block_beside)) same (base (known.block 0 refl))
  block_back f (known.written (suc place) e) = absurd (cc e)
  block_back _ known.zero = base known.zero
  block_back _ (known.kind {n} {k} zero e) = let both : (node 1, Ptr) ≡ (n, k) = cc e in subst (λ (x : NodeId × Kind). Follows (pure_of block_beside) (kind_atom x.0 x.1)) both (base (known.kind 0 refl))
  block_back _ (known.kind (suc place) e) = absurd (cc e)
  block_back _ (known.block place e) = absurd (cc e)
  block_back _ (known.apart i j ne x y) = absurd (cc x)

  block_named : (f : Atom) → Base (alone block_left) f → AreNodes block_left.kinds (nodes_of_atom f)
  block_named f (known.written zero e) = let same : In (node 1) (pos 1) (pos 4611686018427387903) ≡ f = cc e in subst (λ g. AreNodes block_left.kinds (nodes_of_atom g)) same ((Ptr, inr refl), tt)
  block_named f (known.written (suc place) e) = absurd (cc e)
  block_named _ known.zero = ((Ptr, inl refl), tt)
  block_named _ (known.kind {n} {k} zero e) = let both : (node 1, Ptr) ≡ (n, k) = cc e in subst (λ (x : NodeId × Kind). AreNodes block_left.kinds (nodes_of_atom (kind_atom x.0 x.1))) both ((Ptr, inr refl), tt)
  block_named _ (known.kind (suc place) e) = absurd (cc e)
  block_named _ (known.block place e) = absurd (cc e)
  block_named _ (known.apart i j ne x y) = absurd (cc x)

  -- the least and the greatest address fit what is left
  low_true : IsTrue (valued (pos 1 ∷ [])) (alone block_left)
  low_true = numbers_fit (valued (pos 1 ∷ [])) (alone block_left) refl ((omega (arith, ints), omega (arith, ints)), tt) ((omega (arith, ints), omega (arith, ints)), tt) tt (omega arith)

  high_true : IsTrue (valued (pos 4611686018427387903 ∷ [])) (alone block_left)
  high_true = numbers_fit (valued (pos 4611686018427387903 ∷ [])) (alone block_left) refl ((omega (arith, ints), omega (arith, ints)), tt) ((omega (arith, ints), omega (arith, ints)), tt) tt (omega arith)

  address_least : (m k : ℤ) → Follows (alone block_left) (In (node 1) m k) → (m ≤ℤ pos 1) × (pos 4611686018427387903 ≤ℤ k)
  address_least m k h =
      let low = truth (alone block_left) (valued (pos 1 ∷ [])) low_true (In (node 1) m k) (inl h) in
      let high = truth (alone block_left) (valued (pos 4611686018427387903 ∷ [])) high_true (In (node 1) m k) (inl h) in
      (low.0, high.1)

  address_written : Follows (alone block_left) (In (node 1) (pos 1) (pos 4611686018427387903))
  address_written = base (known.written 0 refl)

  block_range : (f : Atom) → Contains (In (node 1) (pos 1) (pos 4611686018427387903) ∷ []) f → IsRangeAtom (alone block_left) f
  block_range f c = elim (among_cases (In (node 1) (pos 1) (pos 4611686018427387903)) [] f c) [
    | inl e ↦ subst (IsRangeAtom (alone block_left)) e (Ptr, (λ x. null_not_one (sym x)), refl, record { follows = address_written; least = address_least }, inl (omega (arith, ints)))
    | inr d ↦ absurd (among_none f d)
  ]

  range_block : (f : Atom) → IsRangeAtom (alone block_left) f → Contains (In (node 1) (pos 1) (pos 4611686018427387903) ∷ []) f
  range_block (Eq a b c) r = absurd r
  range_block (Ne a b c) r = absurd r
  range_block (In n lo hi) r = elim (one_node Ptr n (r.0, inr r.2)) [
    | inl e ↦ absurd (r.1 e)
    | inr e ↦ let follows : Follows (alone block_left) (In (node 1) lo hi) = subst (λ m. Follows (alone block_left) (In m lo hi)) e r.3.follows in
        let outer = address_least lo hi follows in
        let here : Follows (alone block_left) (In n (pos 1) (pos 4611686018427387903)) = subst (λ m. Follows (alone block_left) (In m (pos 1) (pos 4611686018427387903))) (sym e) address_written in
        let inner = r.3.least (pos 1) (pos 4611686018427387903) here in
        let a = outer.0 in
        let b = outer.1 in
        let c = inner.0 in
        let d = inner.1 in
        let low : pos 1 ≡ lo = omega (arith, ints) in
        let high : pos 4611686018427387903 ≡ hi = omega (arith, ints) in
        let same : In (node 1) (pos 1) (pos 4611686018427387903) ≡ In n lo hi = ap (λ m. In m (pos 1) (pos 4611686018427387903)) (sym e) ∙ ap₂ (λ x y. In n x y) low high in
        among_to (In (node 1) (pos 1) (pos 4611686018427387903) ∷ []) (In n lo hi) (inl same)
  ]

  block_class : (f : Atom) → IsClassAtom (alone block_left) f → ⊥
  block_class (Ne a b c) r = r
  block_class (In n lo hi) r = r
  block_class (Eq a b c) r =
      let there = named (alone block_left) block_named (Eq a b c) r.3 in
      elim (one_node Ptr b r.2.0) [
        | inl e ↦ r.1 e
        | inr e ↦ elim (one_node Ptr a there.0) [
          | inl x ↦ let h : Follows (alone block_left) (Eq null (node 1) c) = subst (λ m. Follows (alone block_left) (Eq m (node 1) c)) x (subst (λ m. Follows (alone block_left) (Eq a m c)) e r.3) in
              let low : pos 0 ≡ pos 1 +ℤ c = truth (alone block_left) (valued (pos 1 ∷ [])) low_true (Eq null (node 1) c) (inl h) in
              let high : pos 0 ≡ pos 4611686018427387903 +ℤ c = truth (alone block_left) (valued (pos 4611686018427387903 ∷ [])) high_true (Eq null (node 1) c) (inl h) in
              omega (arith, ints)
          | inr x ↦ r.0 (x ∙ sym e)
        ]
      ]

  block_difference : (f : Atom) → IsDifference (alone block_left) (plainly (alone block_left) (In (node 1) (pos 1) (pos 4611686018427387903) ∷ [])) f → ⊥
  block_difference (Eq a b c) r = r
  block_difference (In n lo hi) r = r
  block_difference (Ne i j c) r = r.4 r.3

  block_gap : (f : Atom) → IsInside (alone block_left) (plainly (alone block_left) (In (node 1) (pos 1) (pos 4611686018427387903) ∷ [])) f → ⊥
  block_gap (Eq a b c) r = r
  block_gap (In n lo hi) r = r
  block_gap (Ne i j c) r = r.4 r.3

  block_listed : IsWholeList (alone block_left) block_left.atoms
  block_listed =
      record {
        list = In (node 1) (pos 1) (pos 4611686018427387903) ∷ [];
        inner = [];
        together = refl;
        canonical = record {
          ranges = In (node 1) (pos 1) (pos 4611686018427387903) ∷ [];
          equalities = [];
          differences = [];
          together = refl;
          ranges_listed = record { order = tt; exact = λ f. (block_range f, range_block f) };
          equalities_listed = nothing_listed (IsClassAtom (alone block_left)) block_class;
          differences_listed = nothing_listed (IsDifference (alone block_left) (plainly (alone block_left) (In (node 1) (pos 1) (pos 4611686018427387903) ∷ []))) block_difference;
        };
        inner_listed = nothing_listed (IsInside (alone block_left) (plainly (alone block_left) (In (node 1) (pos 1) (pos 4611686018427387903) ∷ []))) block_gap;
      }

  block_sound : IsFalse (pure_of block_beside) → ⊥
  block_sound wrong = false_not (pure_of block_beside) (valued (pos 1 ∷ pos 0 ∷ [])) block_true wrong

  block_more : (n : NodeId) → IsNode block_left.kinds n → IsNode block_beside.kinds n
  block_more n there = elim (one_node Ptr n there) [
    | inl e ↦ (Ptr, inl e)
    | inr e ↦ subst (IsNode block_beside.kinds) (sym e) (Ptr, inr refl)
  ]

  block_forgets : Forgets (node 2) block_beside block_left
  block_forgets =
      record {
        env = refl;
        graph = refl;
        next = refl;
        whole = refl;
        kinds = refl;
        named = (((Ptr, inr refl), tt), tt);
        derived = λ f. (
          λ h. (
            inl (grows (alone block_left) (pure_of block_beside) block_more block_back f h),
            λ c. not_two Ptr (nodes_of_atom f) (named (alone block_left) block_named f h) (among_from (nodes_of_atom f) (node 2) c),
          ),
          λ both. elim both.0 [
            | inl h ↦ subst (Follows (alone block_left)) (atom_not_moved 0 f both.1) (follows_moved (pure_of block_beside) (alone block_left) (two_to 0) block_nodes block_bases f h)
            | inr wrong ↦ absurd (block_sound wrong)
          ],
        );
        listed = block_listed;
      }

  not_in_block : (place : ℕ) (id : EdgeId) (e : Edge) → slice_get block_beside.graph.edges place ≡ Some (id, e) → Contains (nodes_of e) (node 2) → ⊥
  not_in_block zero id e there c =
      let both : entry 0 (Block (node 1) cell_id (None ∷ None ∷ [])) ≡ (id, e) = cc there in
      let same : Block (node 1) cell_id (None ∷ None ∷ []) ≡ e = ap (λ (x : EdgeId × Edge). x.1) both in
      let here : Contains (node 1 ∷ []) (node 2) = subst (λ (x : Edge). Contains (nodes_of x) (node 2)) (sym same) c in
      elim (among_cases (node 1) [] (node 2) here) [
        | inl x ↦ one_not_two x
        | inr d ↦ among_none (node 2) d
      ]
  not_in_block (suc place) id e there c = absurd (cc there)

  pub block_forgotten : ForgetsNode (node 2) block_beside (block_left ∷ [])
  block_forgotten =
      record {
        consistent = block_sound;
        there = (Ptr, inr refl);
        not_null = λ e. null_not_two (sym e);
        unnamed = record { vars = λ place e. absurd (cc e); edges = not_in_block };
        after = block_left;
        forgets = block_forgets;
        gives = refl;
      }
