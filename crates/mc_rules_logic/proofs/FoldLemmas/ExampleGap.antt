-- A node is forgotten that another equals: a disequality of the two is one of the other with itself.
use Rattle.std.proofs.Common.{◌≡◌, ◌⊎◌, inl, inr, ◌≤◌, ℕ, zero, suc, ℤ, ◌+ℤ◌, ◌-ℤ◌, neg_ℤ, ◌≤ℤ◌, ◌<ℤ◌, pos, negsuc, Bool, true, false, Option, Some, None, Contains, [], ◌∷◌, refl, sym, ◌∙◌, ap, ap₂, subst, arith, eqb-true}
use Rattle.std.proofs.lemmas.Int.{ints, clamps}
use Rattle.std.specs.Prelude.{◌==◌, if◌then◌else◌}
use Rattle.mc_base.specs.declared.ids.NodeId.{NodeId}
use Rattle.mc_base.specs.declared.plain.Atom.{Atom}
use Rattle.mc_base.specs.declared.plain.Atom.TheVariants.{Eq, Ne, In}
use Rattle.mc_base.specs.declared.plain.Kind.{Kind}
use Rattle.mc_base.specs.declared.plain.Kind.TheVariants.{Int}
use Rattle.mc_base.specs.Atoms.{moved_atom, nodes_of_atom}
use Rattle.mc_base.specs.Nodes.{moved, null}
use Rattle.mc_pure.specs.Canonical.{IsLeast, IsRangeAtom, IsClassAtom, IsDifference, plainly}
use Rattle.mc_pure.specs.Derived.{Follows, IsFalse, base, itself, turned, chained, shifted, met, widened, fixed, differs, differs_along, raised, lowered, disjoint}
use Rattle.mc_pure.specs.Examples.{node}
use Rattle.mc_pure.specs.Laws.{TrueIsNotFalse, FollowsFromMore, IsTrue}
use Rattle.mc_pure.specs.Pure as known
use Rattle.mc_pure.specs.Pure.{Pure, Kinds, Base, IsNode, kind_atom, kind_of, low_of, high_of}
use Rattle.mc_state.specs.Fits.{AreNodes}
use Rattle.mc_state.specs.State.{pure_of}
use Rattle.mc_rules_logic.specs.Fold.Changed.{alone, Forgets, ForgetsNode}
use Rattle.mc_rules_logic.specs.Fold.Examples.{valued, gap_beside, gap_left}
use Rattle.mc_pure.specs.Whole.{IsInside, IsWholeList}
use Rattle.mc_rules_logic.proofs.FoldLemmas.ExampleForgets.{named, nothing_listed}
use Rattle.mc_rules_logic.proofs.FoldLemmas.ExampleWritten.{follows_moved, two_to, atom_not_moved, one_node, its_kind, null_not_one, null_not_two, not_two}
use Rattle.mc_rules_logic.proofs.FoldLemmas.Ordered.{among_cases, among_none}
use Rattle.mc_rules_logic.proofs.FoldLemmas.Reaching.{among_to, among_from}
use Rattle.mc_rules_logic.proofs.FoldLemmas.Refusing.{numbers_fit}

-- ---- what a number says of itself

-- the ends of a node's range: node 0 is zero, any other a number of 32 bits
abbrev low : NodeId → ℤ
low n = if n.0 == 0 then pos 0 else low_of Int

abbrev high : NodeId → ℤ
high n = if n.0 == 0 then pos 0 else high_of Int

low_high : (n : NodeId) → low n ≤ℤ high n
low_high n = at (n.0 == 0)
  where
    at : (b : Bool) → (if b then pos 0 else low_of Int) ≤ℤ (if b then pos 0 else high_of Int)
    at true = omega (arith, ints)
    at false = omega (arith, ints)

-- a node that lies at one number is node 0
single : (n : NodeId) (k : ℤ) → k ≤ℤ low n → high n ≤ℤ k → (n ≡ null) × (k ≡ pos 0)
single n k a b = at (n.0 == 0) refl a b
  where
    at : (t : Bool) → (n.0 == 0) ≡ t → k ≤ℤ (if t then pos 0 else low_of Int) → (if t then pos 0 else high_of Int) ≤ℤ k → (n ≡ null) × (k ≡ pos 0)
    at true is a b = (ap (λ (m : ℕ). record { 0 = m }) (eqb-true n.0 0 is), omega (arith, ints))
    at false is a b = absurd (none a b) where
      none : k ≤ℤ low_of Int → high_of Int ≤ℤ k → ⊥
      none a b = omega (arith, ints)

-- the ranges of two nodes do not meet
abbrev AreApart : NodeId → NodeId → ℤ → Type 0
AreApart a b c = (high a <ℤ (low b +ℤ c)) ⊎ ((high b +ℤ c) <ℤ low a)

module _ (Gap : ℤ → Type 0) (turns : (c : ℤ) → Gap c → Gap (neg_ℤ c)) where
  -- what an atom says where nodes have their ranges, equal nodes are one, and node 1 has gaps
  abbrev Says : Atom → Type 0
  Says (Eq a b c) = (a ≡ b) × (c ≡ pos 0)
  Says (Ne a b c) = AreApart a b c ⊎ ((a ≡ node 1) × (b ≡ node 1) × Gap c)
  Says (In n lo hi) = (lo ≤ℤ low n) × (high n ≤ℤ hi)

  flipped : (a b : NodeId) (c : ℤ) → Says (Ne a b c) → Says (Ne b a (neg_ℤ c))
  flipped a b c (inl (inl less)) = inl (inr (omega (arith, ints)))
  flipped a b c (inl (inr less)) = inl (inl (omega (arith, ints)))
  flipped a b c (inr g) = inr (g.1, g.0, turns c g.2)

  along : (a b d : NodeId) (c e : ℤ) → Says (Ne a b c) → b ≡ d → e ≡ pos 0 → Says (Ne a d (c +ℤ e))
  along a b d c e s same none =
      let sum : c ≡ c +ℤ e = omega (arith, ints) in
      subst (λ z. Says (Ne a d z)) sum (subst (λ x. Says (Ne a x c)) same s)

  raise : (a b : NodeId) (c k hi : ℤ) → Says (Ne a b c) → Says (In b k k) → Says (In a (k +ℤ c) hi) → Says (In a ((k +ℤ c) +ℤ pos 1) hi)
  raise a b c k hi (inl (inl less)) one range =
      let r = range.0 in let x = one.0 in let y = one.1 in let z = low_high a in let u = low_high b in (omega (arith, ints), range.1)
  raise a b c k hi (inl (inr less)) one range =
      let r = range.0 in let x = one.0 in let y = one.1 in let u = low_high b in (omega (arith, ints), range.1)
  raise a b c k hi (inr g) one range = absurd (null_not_one (sym (single b k one.0 one.1).0 ∙ g.1))

  lower : (a b : NodeId) (c k lo : ℤ) → Says (Ne a b c) → Says (In b k k) → Says (In a lo (k +ℤ c)) → Says (In a lo ((k +ℤ c) -ℤ pos 1))
  lower a b c k lo (inl (inl less)) one range =
      let r = range.1 in let x = one.0 in let y = one.1 in let u = low_high b in (range.0, omega (arith, ints))
  lower a b c k lo (inl (inr less)) one range =
      let r = range.1 in let x = one.0 in let y = one.1 in let z = low_high a in let u = low_high b in (range.0, omega (arith, ints))
  lower a b c k lo (inr g) one range = absurd (null_not_one (sym (single b k one.0 one.1).0 ∙ g.1))

  parts : (a b : NodeId) (c lo hi m k : ℤ) → Says (In a lo hi) → Says (In b m k) → ((hi <ℤ (m +ℤ c)) ⊎ ((k +ℤ c) <ℤ lo)) → Says (Ne a b c)
  parts a b c lo hi m k x y (inl less) = let p = x.1 in let q = y.0 in inl (inl (omega (arith, ints)))
  parts a b c lo hi m k x y (inr less) = let p = x.0 in let q = y.1 in inl (inr (omega (arith, ints)))

  pinned : (a b : NodeId) (k m : ℤ) → Says (In a k k) → Says (In b m m) → Says (Eq a b (k -ℤ m))
  pinned a b k m x y =
      let p = single a k x.0 x.1 in
      let q = single b m y.0 y.1 in
      let e = p.1 in
      let f = q.1 in
      (p.0 ∙ sym q.0, omega (arith, ints))

  slid : (a b : NodeId) (c lo hi : ℤ) → Says (Eq a b c) → Says (In b lo hi) → Says (In a (lo +ℤ c) (hi +ℤ c))
  slid a b c lo hi x y =
      let z : Says (In a lo hi) = subst (λ n. Says (In n lo hi)) (sym x.0) y in
      let e = x.1 in
      let p = z.0 in
      let q = z.1 in
      (omega (arith, ints), omega (arith, ints))

  module _ (p : Pure) (bases : (f : Atom) → Base p f → Says f) where
    says : (f : Atom) → Follows p f → Says f
    says f (base b) = bases f b
    says _ (itself n) = (refl, refl)
    says _ (turned {a} {b} {c} h) = let x = says (Eq a b c) h in let e = x.1 in (sym x.0, omega (arith, ints))
    says _ (chained {a} {b} {d} {c} {e} h k) = let x = says (Eq a b c) h in let y = says (Eq b d e) k in let s = x.1 in let t = y.1 in (x.0 ∙ y.0, omega (arith, ints))
    says _ (shifted {a} {b} {c} {lo} {hi} h k) = slid a b c lo hi (says (Eq a b c) h) (says (In b lo hi) k)
    says _ (met {a} {lo} {hi} {m} {k} h g) =
        let x = says (In a lo hi) h in let y = says (In a m k) g in
        let s = x.0 in let t = x.1 in let u = y.0 in let v = y.1 in
        (omega (arith, ints, clamps), omega (arith, ints, clamps))
    says _ (widened {a} {lo} {hi} {m} {k} h below above) = let x = says (In a lo hi) h in let s = x.0 in let t = x.1 in (omega (arith, ints), omega (arith, ints))
    says _ (fixed {a} {b} {k} {m} h g) = pinned a b k m (says (In a k k) h) (says (In b m m) g)
    says _ (differs {a} {b} {c} h) = flipped a b c (says (Ne a b c) h)
    says _ (differs_along {a} {b} {d} {c} {e} h k) = let y = says (Eq b d e) k in along a b d c e (says (Ne a b c) h) y.0 y.1
    says _ (raised {a} {b} {c} {k} {hi} h g m) = raise a b c k hi (says (Ne a b c) h) (says (In b k k) g) (says (In a (k +ℤ c) hi) m)
    says _ (lowered {a} {b} {c} {k} {lo} h g m) = lower a b c k lo (says (Ne a b c) h) (says (In b k k) g) (says (In a lo (k +ℤ c)) m)
    says _ (disjoint {a} {b} {c} {lo} {hi} {m} {k} h g apart) = parts a b c lo hi m k (says (In a lo hi) h) (says (In b m k) g) apart

-- ---- what is left, with and without its disequality

abbrev gap : Atom
gap = Ne (node 1) (node 1) (pos 5)

abbrev bare : Pure
bare = plainly (alone gap_left) []

abbrev IsFive : ℤ → Type 0
IsFive c = (c ≡ pos 5) ⊎ (c ≡ negsuc 4)

five_turns : (c : ℤ) → IsFive c → IsFive (neg_ℤ c)
five_turns c (inl e) = inr (omega (arith, ints))
five_turns c (inr e) = inl (omega (arith, ints))

left_says : (f : Atom) → Base (alone gap_left) f → Says IsFive five_turns f
left_says f (known.written zero e) = let same : gap ≡ f = cc e in subst (Says IsFive five_turns) same (inr (refl, refl, inl refl))
left_says f (known.written (suc place) e) = absurd (cc e)
left_says _ known.zero = (omega (arith, ints), omega (arith, ints))
left_says _ (known.kind {n} {k} zero e) = let both : (node 1, Int) ≡ (n, k) = cc e in subst (λ (x : NodeId × Kind). Says IsFive five_turns (kind_atom x.0 x.1)) both (omega (arith, ints), omega (arith, ints))
left_says _ (known.kind (suc place) e) = absurd (cc e)
left_says _ (known.block place e) = absurd (cc e)
left_says _ (known.apart i j ne x y) = absurd (cc x)

abbrev IsNone : ℤ → Type 0
IsNone c = ⊥

none_turns : (c : ℤ) → IsNone c → IsNone (neg_ℤ c)
none_turns c g = g

bare_says : (f : Atom) → Base bare f → Says IsNone none_turns f
bare_says f (known.written place e) = absurd (cc e)
bare_says _ known.zero = (omega (arith, ints), omega (arith, ints))
bare_says _ (known.kind {n} {k} zero e) = let both : (node 1, Int) ≡ (n, k) = cc e in subst (λ (x : NodeId × Kind). Says IsNone none_turns (kind_atom x.0 x.1)) both (omega (arith, ints), omega (arith, ints))
bare_says _ (known.kind (suc place) e) = absurd (cc e)
bare_says _ (known.block place e) = absurd (cc e)
bare_says _ (known.apart i j ne x y) = absurd (cc x)

-- five is too near for the ranges
not_bare : Follows bare gap → ⊥
not_bare h = elim (says IsNone none_turns bare bare_says gap h) [
  | inl apart ↦ elim apart [
    | inl less ↦ omega (arith, ints)
    | inr less ↦ omega (arith, ints)
  ]
  | inr g ↦ g.2
]

-- a node is never more than another node
no_more : (a b : NodeId) (c : ℤ) → Follows (alone gap_left) (Eq a b c) → a ≡ b
no_more a b c h = (says IsFive five_turns (alone gap_left) left_says (Eq a b c) h).0

left_named : (f : Atom) → Base (alone gap_left) f → AreNodes gap_left.kinds (nodes_of_atom f)
left_named f (known.written zero e) = let same : gap ≡ f = cc e in subst (λ g. AreNodes gap_left.kinds (nodes_of_atom g)) same ((Int, inr refl), ((Int, inr refl), tt))
left_named f (known.written (suc place) e) = absurd (cc e)
left_named _ known.zero = ((Int, inl refl), tt)
left_named _ (known.kind {n} {k} zero e) = let both : (node 1, Int) ≡ (n, k) = cc e in subst (λ (x : NodeId × Kind). AreNodes gap_left.kinds (nodes_of_atom (kind_atom x.0 x.1))) both ((Int, inr refl), tt)
left_named _ (known.kind (suc place) e) = absurd (cc e)
left_named _ (known.block place e) = absurd (cc e)
left_named _ (known.apart i j ne x y) = absurd (cc x)

-- ---- what is written

left_range : (f : Atom) → IsRangeAtom (alone gap_left) f → ⊥
left_range (Eq a b c) r = r
left_range (Ne a b c) r = r
left_range (In n lo hi) r = elim (one_node Int n (r.0, inr r.2)) [
  | inl e ↦ r.1 e
  | inr e ↦ let kind : Int ≡ r.0 = its_kind Int r.0 n r.2 in
      let narrow : (low_of Int <ℤ lo) ⊎ (hi <ℤ high_of Int) = subst (λ (k : Kind). (low_of k <ℤ lo) ⊎ (hi <ℤ high_of k)) (sym kind) r.4 in
      let here : Follows (alone gap_left) (In (node 1) lo hi) = subst (λ m. Follows (alone gap_left) (In m lo hi)) e r.3.follows in
      let range : (lo ≤ℤ low_of Int) × (high_of Int ≤ℤ hi) = says IsFive five_turns (alone gap_left) left_says (In (node 1) lo hi) here in
      let a = range.0 in
      let b = range.1 in
      elim narrow [
        | inl less ↦ omega (arith, ints)
        | inr less ↦ omega (arith, ints)
      ]
]

left_class : (f : Atom) → IsClassAtom (alone gap_left) f → ⊥
left_class (Eq a b c) r = r.0 (no_more a b c r.3)
left_class (Ne a b c) r = r
left_class (In n lo hi) r = r

-- what ranges part follows from the kinds alone
bare_kind : Follows bare (In (node 1) (low_of Int) (high_of Int))
bare_kind = base (known.kind 0 refl)

left_difference : (f : Atom) → IsDifference (alone gap_left) bare f → ⊥
left_difference (Eq a b c) r = r
left_difference (In n lo hi) r = r
left_difference (Ne i j c) r = elim (one_node Int i r.0.0) [
  | inl e ↦ let number : i.0 ≡ 0 = ap (λ (n : NodeId). n.0) e in let less = r.2 in omega arith
  | inr e ↦ elim (one_node Int j r.1.0) [
    | inl f ↦ let h : Follows (alone gap_left) (Ne (node 1) null c) = subst (λ m. Follows (alone gap_left) (Ne (node 1) m c)) f (subst (λ m. Follows (alone gap_left) (Ne m j c)) e r.3) in
        let plain : Follows bare (Ne (node 1) null c) = elim (says IsFive five_turns (alone gap_left) left_says (Ne (node 1) null c) h) [
          | inl apart ↦ disjoint bare_kind (base known.zero) apart
          | inr g ↦ absurd (null_not_one g.1)
        ] in
        r.4 (subst (λ m. Follows bare (Ne i m c)) (sym f) (subst (λ m. Follows bare (Ne m null c)) (sym e) plain))
    | inr f ↦ let one : i.0 ≡ 1 = ap (λ (n : NodeId). n.0) e in let other : j.0 ≡ 1 = ap (λ (n : NodeId). n.0) f in let less = r.2 in omega arith
  ]
]

one_least : IsLeast (alone gap_left) (node 1)
one_least = ((Int, inr refl), λ m d h. least m (no_more (node 1) m d h))
  where
    least : (m : NodeId) → node 1 ≡ m → 1 ≤ m.0
    least m same = let number : 1 ≡ m.0 = ap (λ (n : NodeId). n.0) same in omega arith

gap_is : (f : Atom) → Contains (gap ∷ []) f → IsInside (alone gap_left) bare f
gap_is f c = elim (among_cases gap [] f c) [
  | inl e ↦ subst (IsInside (alone gap_left) bare) e (one_least, refl, omega (arith, ints), base (known.written 0 refl), not_bare)
  | inr d ↦ absurd (among_none f d)
]

is_gap : (f : Atom) → IsInside (alone gap_left) bare f → Contains (gap ∷ []) f
is_gap (Eq a b c) r = absurd r
is_gap (In n lo hi) r = absurd r
is_gap (Ne i j c) r =
    let more = r.2 in
    elim (one_node Int i r.0.0) [
      | inl e ↦ let zero_is : Follows bare (Ne null null c) = disjoint (base known.zero) (base known.zero) (inl (omega (arith, ints))) in
          absurd (r.4 (subst (λ m. Follows bare (Ne i m c)) (sym e ∙ r.1) (subst (λ m. Follows bare (Ne m null c)) (sym e) zero_is)))
      | inr e ↦ let other : j ≡ node 1 = sym r.1 ∙ e in
          let h : Follows (alone gap_left) (Ne (node 1) (node 1) c) = subst (λ m. Follows (alone gap_left) (Ne (node 1) m c)) other (subst (λ m. Follows (alone gap_left) (Ne m j c)) e r.3) in
          elim (says IsFive five_turns (alone gap_left) left_says (Ne (node 1) (node 1) c) h) [
            | inl apart ↦ let plain : Follows bare (Ne (node 1) (node 1) c) = disjoint bare_kind bare_kind apart in
                absurd (r.4 (subst (λ m. Follows bare (Ne i m c)) (sym other) (subst (λ m. Follows bare (Ne m (node 1) c)) (sym e) plain)))
            | inr g ↦ elim g.2 [
              | inl five ↦ let same : gap ≡ Ne i j c = ap (λ m. Ne m (node 1) (pos 5)) (sym e) ∙ ap₂ (λ m z. Ne i m z) (sym other) (sym five) in among_to (gap ∷ []) (Ne i j c) (inl same)
              | inr minus ↦ absurd (below more minus)
            ]
          ]
    ] where
      below : pos 0 <ℤ c → c ≡ negsuc 4 → ⊥
      below more minus = omega (arith, ints)

left_listed : IsWholeList (alone gap_left) gap_left.atoms
left_listed =
    record {
      list = [];
      inner = gap ∷ [];
      together = refl;
      canonical = record {
        ranges = [];
        equalities = [];
        differences = [];
        together = refl;
        ranges_listed = nothing_listed (IsRangeAtom (alone gap_left)) left_range;
        equalities_listed = nothing_listed (IsClassAtom (alone gap_left)) left_class;
        differences_listed = nothing_listed (IsDifference (alone gap_left) bare) left_difference;
      };
      inner_listed = record { order = tt; exact = λ f. (gap_is f, is_gap f) };
    }

-- ---- the node that is forgotten

gap_bases : (f : Atom) → Base (pure_of gap_beside) f → Follows (alone gap_left) (moved_atom (two_to 1) f)
gap_bases f (known.written zero e) = let same : Eq (node 2) (node 1) (pos 0) ≡ f = cc e in subst (λ g. Follows (alone gap_left) (moved_atom (two_to 1) g)) same (itself (Int, inr refl))
gap_bases f (known.written (suc zero) e) = let same : Ne (node 2) (node 1) (pos 5) ≡ f = cc e in subst (λ g. Follows (alone gap_left) (moved_atom (two_to 1) g)) same (base (known.written 0 refl))
gap_bases f (known.written (suc (suc place)) e) = absurd (cc e)
gap_bases _ known.zero = base known.zero
gap_bases _ (known.kind {n} {k} zero e) = let both : (node 1, Int) ≡ (n, k) = cc e in subst (λ (x : NodeId × Kind). Follows (alone gap_left) (moved_atom (two_to 1) (kind_atom x.0 x.1))) both (base (known.kind 0 refl))
gap_bases _ (known.kind {n} {k} (suc zero) e) = let both : (node 2, Int) ≡ (n, k) = cc e in subst (λ (x : NodeId × Kind). Follows (alone gap_left) (moved_atom (two_to 1) (kind_atom x.0 x.1))) both (base (known.kind 0 refl))
gap_bases _ (known.kind (suc (suc place)) e) = absurd (cc e)
gap_bases _ (known.block place e) = absurd (cc e)
gap_bases _ (known.apart i j ne x y) = absurd (cc x)

gap_nodes : (n : NodeId) → IsNode gap_beside.kinds n → IsNode gap_left.kinds (moved (two_to 1) n)
gap_nodes n there = at (n.0 == 2) refl
  where
    at : (b : Bool) → (n.0 == 2) ≡ b → IsNode gap_left.kinds (record { 0 = if b then 1 else n.0 })
    at true is = (Int, inr refl)
    at false is = elim there.1 [
      | inl e ↦ (Int, inl e)
      | inr e ↦ (there.0, inr (kept there.0 e))
    ] where
      kept : (kind : Kind) → kind_of gap_beside.kinds n ≡ Some kind → kind_of gap_left.kinds n ≡ Some kind
      kept kind e = one (1 == n.0) e
        where
          one : (b : Bool) → (if b then Some Int else (if 2 == n.0 then Some Int else None)) ≡ Some kind → (if b then Some Int else None) ≡ Some kind
          one true e = e
          one false e = two (2 == n.0) refl e
            where
              two : (b : Bool) → (2 == n.0) ≡ b → (if b then Some Int else None) ≡ Some kind → ◌≡◌ {A = Option Kind} None (Some kind)
              two true is2 e = let same : (n.0 == 2) ≡ true = ap (λ k. k == 2) (sym (eqb-true 2 n.0 is2)) in absurd (cc (same, is))
              two false is2 e = e

gap_back : (f : Atom) → Base (alone gap_left) f → Follows (pure_of gap_beside) f
gap_back f (known.written zero e) =
    let same : gap ≡ f = cc e in
    let equal : Follows (pure_of gap_beside) (Eq (node 2) (node 1) (pos 0)) = base (known.written 0 refl) in
    let apart : Follows (pure_of gap_beside) (Ne (node 2) (node 1) (pos 5)) = base (known.written 1 refl) in
    let first : Follows (pure_of gap_beside) (Ne (node 1) (node 2) (negsuc 4)) = differs {c = pos 5} apart in
    let second : Follows (pure_of gap_beside) (Ne (node 1) (node 1) (negsuc 4)) = differs_along {c = negsuc 4} {e = pos 0} first equal in
    let third : Follows (pure_of gap_beside) gap = differs {c = negsuc 4} second in
    subst (Follows (pure_of gap_beside)) same third
gap_back f (known.written (suc place) e) = absurd (cc e)
gap_back _ known.zero = base known.zero
gap_back _ (known.kind {n} {k} zero e) = let both : (node 1, Int) ≡ (n, k) = cc e in subst (λ (x : NodeId × Kind). Follows (pure_of gap_beside) (kind_atom x.0 x.1)) both (base (known.kind 0 refl))
gap_back _ (known.kind (suc place) e) = absurd (cc e)
gap_back _ (known.block place e) = absurd (cc e)
gap_back _ (known.apart i j ne x y) = absurd (cc x)

gap_more : (n : NodeId) → IsNode gap_left.kinds n → IsNode gap_beside.kinds n
gap_more n there = elim (one_node Int n there) [
  | inl e ↦ (Int, inl e)
  | inr e ↦ subst (IsNode gap_beside.kinds) (sym e) (Int, inr refl)
]

module _ (false_not : TrueIsNotFalse) (grows : FollowsFromMore) where
  gap_true : IsTrue (valued (pos 3 ∷ pos 3 ∷ [])) (pure_of gap_beside)
  gap_true =
      numbers_fit (valued (pos 3 ∷ pos 3 ∷ [])) (pure_of gap_beside) refl ((omega (arith, ints), omega (arith, ints)), ((omega (arith, ints), omega (arith, ints)), tt))
      (omega (arith, ints), ((λ e. let wrong : pos 3 ≡ pos 8 = e in cc wrong), tt)) tt (omega arith)

  gap_sound : IsFalse (pure_of gap_beside) → ⊥
  gap_sound wrong = false_not (pure_of gap_beside) (valued (pos 3 ∷ pos 3 ∷ [])) gap_true wrong

  gap_forgets : Forgets (node 2) gap_beside gap_left
  gap_forgets =
      record {
        env = refl;
        graph = refl;
        next = refl;
        whole = refl;
        kinds = refl;
        named = (((Int, inr refl), ((Int, inr refl), tt)), tt);
        derived = λ f. (
          λ h. (
            inl (grows (alone gap_left) (pure_of gap_beside) gap_more gap_back f h),
            λ c. not_two Int (nodes_of_atom f) (named (alone gap_left) left_named f h) (among_from (nodes_of_atom f) (node 2) c),
          ),
          λ both. elim both.0 [
            | inl h ↦ subst (Follows (alone gap_left)) (atom_not_moved 1 f both.1) (follows_moved (pure_of gap_beside) (alone gap_left) (two_to 1) gap_nodes gap_bases f h)
            | inr wrong ↦ absurd (gap_sound wrong)
          ],
        );
        listed = left_listed;
      }

  pub gap_forgotten : ForgetsNode (node 2) gap_beside (gap_left ∷ [])
  gap_forgotten =
      record {
        consistent = gap_sound;
        there = (Int, inr refl);
        not_null = λ e. null_not_two (sym e);
        unnamed = record { vars = λ place e. absurd (cc e); edges = λ place id e there c. absurd (cc there) };
        after = gap_left;
        forgets = gap_forgets;
        gives = refl;
      }
