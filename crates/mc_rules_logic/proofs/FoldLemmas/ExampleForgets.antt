-- A pointer that nothing names is forgotten.
use Rattle.std.proofs.Common.{◌≡◌, ◌<◌, ℕ, zero, suc, ℤ, pos, negsuc, List, [], ◌∷◌, length, get_or, Some, refl, sym, ap, ◌∙◌, subst, inl, inr, arith, ◌<ℤ◌}
use Rattle.std.specs.List.{AllByRecursion}
use Rattle.std.specs.Prelude.{Contains}
use Rattle.std.proofs.lemmas.Int.{ints}
use Rattle.mc_base.specs.declared.ids.NodeId.{NodeId}
use Rattle.mc_base.specs.declared.plain.Kind.{Kind}
use Rattle.mc_base.specs.declared.plain.Kind.TheVariants.{Ptr}
use Rattle.mc_base.specs.declared.plain.Atom.{Atom}
use Rattle.mc_base.specs.declared.plain.Atom.TheVariants.{Eq, Ne, In}
use Rattle.mc_base.specs.Atoms.{IsTrueAtom, nodes_of_atom}
use Rattle.mc_base.specs.Nodes.{null}
use Rattle.mc_flow.specs.Heap.Heap.{IsAtAddresses}
use Rattle.mc_flow.specs.Defs.Examples.{defs, blocks}
use Rattle.mc_pure.specs.Canonical.{AreListed, IsRangeAtom, IsClassAtom, IsDifference, plainly}
use Rattle.mc_pure.specs.Derived.{Follows, base, itself, turned, chained, shifted, met, widened, fixed, differs, differs_along, raised, lowered, disjoint}
use Rattle.mc_pure.specs.Examples.{node}
use Rattle.mc_pure.specs.Laws.{FollowsFromMore}
use Rattle.mc_pure.specs.Pure as known
use Rattle.mc_pure.specs.Pure.{Pure, Base, IsNode}
use Rattle.mc_state.specs.Facts.{Derives}
use Rattle.mc_state.specs.Fits.{AreNodes}
use Rattle.mc_state.specs.Laws.{DerivedIsTrue, NoneStandsForFalse}
use Rattle.mc_state.specs.Stands.{StandsBy}
use Rattle.mc_state.specs.State.{pure_of}
use Rattle.mc_rules_logic.specs.Fold.Changed.{alone, ForgetsNode}
use Rattle.mc_rules_logic.specs.Fold.Examples.{valued, pointer, no_pointer}
use Rattle.mc_pure.specs.Whole.{IsInside, IsWholeList}
use Rattle.mc_rules_logic.proofs.FoldLemmas.Names.{listed}
use Rattle.mc_rules_logic.proofs.FoldLemmas.Ordered.{among_none}

-- what follows names nodes that are there
module _ (p : Pure) (bases : (f : Atom) → Base p f → AreNodes p.kinds (nodes_of_atom f)) where
  pub named : (f : Atom) → Follows p f → AreNodes p.kinds (nodes_of_atom f)
  named f (base b) = bases f b
  named _ (itself n) = (n, (n, tt))
  named _ (turned h) = let t = named _ h in (t.1.0, (t.0, tt))
  named _ (chained h k) = ((named _ h).0, ((named _ k).1.0, tt))
  named _ (shifted h k) = ((named _ h).0, tt)
  named _ (met h k) = ((named _ h).0, tt)
  named _ (widened h low high) = ((named _ h).0, tt)
  named _ (fixed h k) = ((named _ h).0, ((named _ k).0, tt))
  named _ (differs h) = let t = named _ h in (t.1.0, (t.0, tt))
  named _ (differs_along h k) = ((named _ h).0, ((named _ k).1.0, tt))
  named _ (raised h k m) = ((named _ m).0, tt)
  named _ (lowered h k m) = ((named _ m).0, tt)
  named _ (disjoint h k apart) = ((named _ h).0, ((named _ k).0, tt))

pointer_named : (f : Atom) → Base (pure_of pointer) f → AreNodes pointer.kinds (nodes_of_atom f)
pointer_named f (known.written place e) = absurd (cc e)
pointer_named _ known.zero = ((Ptr, inl refl), tt)
pointer_named _ (known.kind {n} {k} zero e) = let both : (node 1, Ptr) ≡ (n, k) = cc in let is : node 1 ≡ n = ap (λ (x : NodeId × Kind). x.0) both in ((Ptr, inr (subst (λ m. known.kind_of pointer.kinds m ≡ Some Ptr) is refl)), tt)
pointer_named _ (known.kind (suc place) e) = absurd (cc e)
pointer_named _ (known.block place e) = absurd (cc e)
pointer_named _ (known.apart i j ne x y) = absurd (cc x)

nothing_named : (f : Atom) → Base (alone no_pointer) f → AreNodes [] (nodes_of_atom f)
nothing_named f (known.written place e) = absurd (cc e)
nothing_named _ known.zero = ((Ptr, inl refl), tt)
nothing_named _ (known.kind place e) = absurd (cc e)
nothing_named _ (known.block place e) = absurd (cc e)
nothing_named _ (known.apart i j ne x y) = absurd (cc x)

-- what is known of no node follows of one
still_known : (f : Atom) → Base (alone no_pointer) f → Follows (pure_of pointer) f
still_known f (known.written place e) = absurd (cc e)
still_known _ known.zero = base known.zero
still_known _ (known.kind place e) = absurd (cc e)
still_known _ (known.block place e) = absurd (cc e)
still_known _ (known.apart i j ne x y) = absurd (cc x)

still_there : (n : NodeId) → IsNode [] n → IsNode pointer.kinds n
still_there n there = elim there.1 [
  | inl e ↦ (Ptr, inl e)
  | inr e ↦ absurd (cc e)
]

null_or_one : null ≡ node 1 → ⊥
null_or_one e = let numbers : ◌≡◌ {A = ℕ} 0 1 = ap (λ (m : NodeId). m.0) e in cc numbers

-- of no node none is node 1
not_one : (ns : List NodeId) → AreNodes [] ns → (k : ℕ) → k < length ns → get_or ns k (node 1) ≡ node 1 → ⊥
not_one [] there k less e = absurd (omega arith)
not_one (n ∷ ns) there zero less e = elim there.0.1 [
  | inl null_is ↦ let wrong : null ≡ node 1 = sym null_is ∙ e in null_or_one wrong
  | inr none ↦ absurd (cc none)
]
not_one (n ∷ ns) there (suc k) less e = not_one ns there.1 k (omega arith) e

-- of one node, but not it, each is null
all_null : (ns : List NodeId) → AreNodes pointer.kinds ns → (Contains ns (node 1) → ⊥) → AllByRecursion (λ n. n ≡ null) ns
all_null [] there none = tt
all_null (n ∷ ns) there none = (
  elim there.0.1 [
    | inl e ↦ e
    | inr e ↦ absurd (none (0, omega arith, sym (listed (λ m k. node 1 ≡ m) pointer.kinds n there.0.0 (refl, tt) e)))
  ],
  all_null ns there.1 (λ c. none (suc c.0, omega arith, c.2)),
)

-- and what is true of null follows
null_equal : (c : ℤ) → IsTrueAtom (valued []) (Eq null null c) → Follows (alone no_pointer) (Eq null null c)
null_equal c t = let none : pos 0 ≡ c = omega (arith, ints, t) in subst (λ z. Follows (alone no_pointer) (Eq null null z)) none (itself (Ptr, inl refl))

null_apart : (c : ℤ) → IsTrueAtom (valued []) (Ne null null c) → Follows (alone no_pointer) (Ne null null c)
null_apart (pos zero) t = absurd (t (omega (arith, ints)))
null_apart (pos (suc n)) t = disjoint (base known.zero) (base known.zero) (inl (omega (arith, ints)))
null_apart (negsuc n) t = disjoint (base known.zero) (base known.zero) (inr (omega (arith, ints)))

of_null : (f : Atom) → AllByRecursion (λ n. n ≡ null) (nodes_of_atom f) → IsTrueAtom (valued []) f → Follows (alone no_pointer) f
of_null (Eq a b c) e = rw (e.0, e.1.0) (null_equal c)
of_null (Ne a b c) e = rw (e.0, e.1.0) (null_apart c)
of_null (In a lo hi) e = rw e.0 (λ t. widened (base known.zero) t.0 t.1)

-- ---- nothing is written of no node

pub nothing_listed : (P : Atom → Type 0) → ((f : Atom) → P f → ⊥) → AreListed P []
nothing_listed P none = record { order = tt; exact = λ f. (λ c. absurd (among_none f c), λ p. absurd (none f p)) }

only_null : (n : NodeId) → IsNode [] n → n ≡ null
only_null n there = elim there.1 [
  | inl e ↦ e
  | inr e ↦ absurd (cc e)
]

no_range : (f : Atom) → IsRangeAtom (alone no_pointer) f → ⊥
no_range (Eq a b c) r = r
no_range (Ne a b c) r = r
no_range (In n lo hi) r = let none = r.2 in cc none

no_class : (f : Atom) → IsClassAtom (alone no_pointer) f → ⊥
no_class (Eq a b c) r = r.1 (only_null b r.2.0)
no_class (Ne a b c) r = r
no_class (In n lo hi) r = r

no_difference : (f : Atom) → IsDifference (alone no_pointer) (plainly (alone no_pointer) []) f → ⊥
no_difference (Eq a b c) r = r
no_difference (In n lo hi) r = r
no_difference (Ne i j c) r =
    let first : i.0 ≡ 0 = ap (λ (n : NodeId). n.0) (only_null i r.0.0) in
    let less = r.2 in
    below less first where
      below : j.0 < i.0 → i.0 ≡ 0 → ⊥
      below less first = omega arith

null_gap : (c : ℤ) → pos 0 <ℤ c → Follows (plainly (alone no_pointer) []) (Ne null null c)
null_gap c less = disjoint (base known.zero) (base known.zero) (inl (omega (arith, ints)))

no_gap : (f : Atom) → IsInside (alone no_pointer) (plainly (alone no_pointer) []) f → ⊥
no_gap (Eq a b c) r = r
no_gap (In n lo hi) r = r
no_gap (Ne i j c) r =
    let first : i ≡ null = only_null i r.0.0 in
    let second : j ≡ null = sym r.1 ∙ first in
    r.4 (rw (first, second) (null_gap c r.2))

pub nothing_written : IsWholeList (alone no_pointer) []
nothing_written =
    record {
      list = [];
      inner = [];
      together = refl;
      canonical = record {
        ranges = [];
        equalities = [];
        differences = [];
        together = refl;
        ranges_listed = nothing_listed (IsRangeAtom (alone no_pointer)) no_range;
        equalities_listed = nothing_listed (IsClassAtom (alone no_pointer)) no_class;
        differences_listed = nothing_listed (IsDifference (alone no_pointer) (plainly (alone no_pointer) [])) no_difference;
      };
      inner_listed = nothing_listed (IsInside (alone no_pointer) (plainly (alone no_pointer) [])) no_gap;
    }

module _ (truth : DerivedIsTrue) (not_false : NoneStandsForFalse) (grows : FollowsFromMore) (addresses : IsAtAddresses (blocks [])) (st : StandsBy defs (valued []) [] (blocks []) pointer) where
  derived_back : (f : Atom) → Derives pointer f → (Contains (nodes_of_atom f) (node 1) → ⊥) → Follows (alone no_pointer) f
  derived_back f d none = elim d [
    | inl follows ↦ of_null f (all_null (nodes_of_atom f) (named (pure_of pointer) pointer_named f follows) none) (truth defs (valued []) [] (blocks []) pointer f addresses st (inl follows))
    | inr wrong ↦ absurd (not_false defs [] (blocks []) pointer addresses (valued [], st) wrong)
  ]

  pub pointer_forgotten : ForgetsNode (node 1) pointer (no_pointer ∷ [])
  pointer_forgotten =
      record {
        consistent = λ wrong. not_false defs [] (blocks []) pointer addresses (valued [], st) wrong;
        there = (Ptr, inr refl);
        not_null = λ e. null_or_one (sym e);
        unnamed = record { vars = λ place e. absurd (cc e); edges = λ place id e there c. absurd (cc there) };
        after = no_pointer;
        forgets = record {
          env = refl;
          graph = refl;
          next = refl;
          whole = refl;
          kinds = refl;
          named = tt;
          derived = λ f. (
            λ follows. (
              inl (grows (alone no_pointer) (pure_of pointer) still_there still_known f follows),
              λ c. not_one (nodes_of_atom f) (named (alone no_pointer) nothing_named f follows) c.0 c.1 c.2,
            ),
            λ both. derived_back f both.0 both.1,
          );
          listed = nothing_written;
        };
        gives = refl;
      }
