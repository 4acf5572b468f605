-- The canonical list does not depend on the order of the nodes at which blocks start.
use Rattle.std.proofs.Common.{inl, inr, List, ◌++◌}
use Rattle.mc_base.specs.declared.ids.NodeId.{NodeId}
use Rattle.mc_base.specs.declared.plain.Atom.{Atom}
use Rattle.mc_base.specs.declared.plain.Atom.TheVariants.{Eq, Ne, In}
use Rattle.mc_pure.specs.Pure.{Pure, Kinds}
use Rattle.mc_pure.specs.Canonical.{IsLeast, IsRangeAtom, IsClassAtom, IsDifference, AreListed, IsCanonical, plainly}
use Rattle.mc_pure.specs.Laws.{FollowsFromMore, FalseFromMore}
use Rattle.mc_symbolic.specs.Starts.{HaveSameNodes}
use Rattle.mc_symbolic.proofs.Starts.{turned, follows_to, follows_from, false_same, range_same}

listed : (P Q : Atom → Type 0) (atoms : List Atom) → ((f : Atom) → P f → Q f) → ((f : Atom) → Q f → P f) → AreListed P atoms → AreListed Q atoms
listed P Q atoms to from l = record { order = l.order; exact = λ f. ((λ h. to f ((l.exact f).0 h)), (λ q. (l.exact f).1 (from f q))) }

module _ (more : FollowsFromMore) (false_more : FalseFromMore) (kinds : Kinds) (xs ys : List NodeId) (same : HaveSameNodes xs ys) where
  abbrev first : List Atom → Pure
  first atoms = record { kinds = kinds; written = atoms; starts = xs }

  abbrev second : List Atom → Pure
  second atoms = record { kinds = kinds; written = atoms; starts = ys }

  least : (atoms : List Atom) (b : NodeId) → IsLeast (first atoms) b → IsLeast (second atoms) b
  least atoms b l = (l.0, λ m c d. l.1 m c (follows_from more false_more kinds atoms xs ys same (Eq b m c) d))

  range : (atoms : List Atom) (f : Atom) → IsRangeAtom (first atoms) f → IsRangeAtom (second atoms) f
  range atoms (In n lo hi) r = (r.0, r.1, r.2, range_same more false_more kinds atoms xs ys same n lo hi r.3, r.4)
  range atoms (Eq a b c) r = absurd r
  range atoms (Ne a b c) r = absurd r

  class : (atoms : List Atom) (f : Atom) → IsClassAtom (first atoms) f → IsClassAtom (second atoms) f
  class atoms (Eq a b c) r = (r.0, r.1, least atoms b r.2, follows_to more false_more kinds atoms xs ys same (Eq a b c) r.3)
  class atoms (Ne a b c) r = absurd r
  class atoms (In n lo hi) r = absurd r

  difference : (atoms plain : List Atom) (f : Atom) → IsDifference (first atoms) (plainly (first atoms) plain) f → IsDifference (second atoms) (plainly (second atoms) plain) f
  difference atoms plain (Ne i j c) r = (
    least atoms i r.0,
    least atoms j r.1,
    r.2,
    follows_to more false_more kinds atoms xs ys same (Ne i j c) r.3,
    λ d. r.4 (follows_from more false_more kinds plain xs ys same (Ne i j c) d),
  )
  difference atoms plain (Eq a b c) r = absurd r
  difference atoms plain (In n lo hi) r = absurd r

pub canonical_same : FollowsFromMore → FalseFromMore → (kinds : Kinds) (written : List Atom) (xs ys : List NodeId) → HaveSameNodes xs ys → (atoms : List Atom)
    → IsCanonical (record { kinds = kinds; written = written; starts = xs }) atoms → IsCanonical (record { kinds = kinds; written = written; starts = ys }) atoms
canonical_same more false_more kinds written xs ys same atoms (inl h) = inl ((false_same more false_more kinds written xs ys same).0 h.0, h.1)
canonical_same more false_more kinds written xs ys same atoms (inr h) = inr (
  (λ w. h.0 ((false_same more false_more kinds written xs ys same).1 w)),
  record {
    ranges = h.1.ranges;
    equalities = h.1.equalities;
    differences = h.1.differences;
    together = h.1.together;
    ranges_listed = listed _ _ h.1.ranges (range more false_more kinds xs ys same written) (range more false_more kinds ys xs (turned xs ys same) written) h.1.ranges_listed;
    equalities_listed = listed _ _ h.1.equalities (class more false_more kinds xs ys same written) (class more false_more kinds ys xs (turned xs ys same) written) h.1.equalities_listed;
    differences_listed = listed _ _ h.1.differences (difference more false_more kinds xs ys same written (h.1.ranges ++ h.1.equalities)) (difference more false_more kinds ys xs (turned xs ys same) written (h.1.ranges ++ h.1.equalities)) h.1.differences_listed;
  },
)
