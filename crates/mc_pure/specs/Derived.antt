-- The atoms that follow from what is known.
use Rattle.std.specs.Prelude.{◌≢◌, ℤ, pos, ◌+ℤ◌, ◌-ℤ◌, neg_ℤ, ◌≤ℤ◌, ◌<ℤ◌, ◌⊎◌, List, [], ◌∷◌}
use Rattle.std.specs.Int.{int_max, int_min}
use Rattle.mc_base.specs.declared.ids.NodeId.{NodeId}
use Rattle.mc_base.specs.declared.plain.Kind.{Kind}
use Rattle.mc_base.specs.declared.plain.Atom.{Atom}
use Rattle.mc_base.specs.declared.plain.Atom.TheVariants.{Eq, Ne, In}
use Rattle.mc_pure.specs.Pure.{Pure, IsNode, Base, low_of, high_of}

-- the least set that has the base atoms and is closed under these rules
pub data Follows (p : Pure) : Atom → Type 0 where
  base : {f : Atom} → Base p f → Follows p f
  -- a node is itself
  itself : {a : NodeId} → IsNode p.kinds a → Follows p (Eq a a (pos 0))
  -- an equality turned round
  turned : {a b : NodeId} {c : ℤ} → Follows p (Eq a b c) → Follows p (Eq b a (neg_ℤ c))
  -- one equality after another
  chained : {a b d : NodeId} {c e : ℤ} → Follows p (Eq a b c) → Follows p (Eq b d e) → Follows p (Eq a d (c +ℤ e))
  -- a range moved along an equality
  shifted : {a b : NodeId} {c lo hi : ℤ} → Follows p (Eq a b c) → Follows p (In b lo hi) → Follows p (In a (lo +ℤ c) (hi +ℤ c))
  -- two ranges of one node, together
  met : {a : NodeId} {lo hi m k : ℤ} → Follows p (In a lo hi) → Follows p (In a m k) → Follows p (In a (int_max lo m) (int_min hi k))
  -- a range that holds another
  widened : {a : NodeId} {lo hi m k : ℤ} → Follows p (In a lo hi) → m ≤ℤ lo → hi ≤ℤ k → Follows p (In a m k)
  -- nodes that are single numbers
  fixed : {a b : NodeId} {k m : ℤ} → Follows p (In a k k) → Follows p (In b m m) → Follows p (Eq a b (k -ℤ m))
  -- a disequality turned round, and moved along an equality
  differs : {a b : NodeId} {c : ℤ} → Follows p (Ne a b c) → Follows p (Ne b a (neg_ℤ c))
  differs_along : {a b d : NodeId} {c e : ℤ} → Follows p (Ne a b c) → Follows p (Eq b d e) → Follows p (Ne a d (c +ℤ e))
  -- an end of a range that the node is not
  raised : {a b : NodeId} {c k hi : ℤ} → Follows p (Ne a b c) → Follows p (In b k k) → Follows p (In a (k +ℤ c) hi)
      → Follows p (In a ((k +ℤ c) +ℤ pos 1) hi)
  lowered : {a b : NodeId} {c k lo : ℤ} → Follows p (Ne a b c) → Follows p (In b k k) → Follows p (In a lo (k +ℤ c))
      → Follows p (In a lo ((k +ℤ c) -ℤ pos 1))
  -- ranges that do not meet
  disjoint : {a b : NodeId} {c lo hi m k : ℤ} → Follows p (In a lo hi) → Follows p (In b m k)
      → ((hi <ℤ (m +ℤ c)) ⊎ ((k +ℤ c) <ℤ lo)) → Follows p (Ne a b c)

-- what can't be true follows: an empty range, a node that differs from itself, or one that is itself and more
pub data IsFalse (p : Pure) : Type 0 where
  empty : {a : NodeId} {lo hi : ℤ} → hi <ℤ lo → Follows p (In a lo hi) → IsFalse p
  apart : {a : NodeId} → Follows p (Ne a a (pos 0)) → IsFalse p
  more : {a : NodeId} {c : ℤ} → c ≢ pos 0 → Follows p (Eq a a c) → IsFalse p

-- the atom is entailed: it follows, or what is known is false, from which every atom is entailed
abbrev pub Derived : Pure → Atom → Type 0
Derived p f = Follows p f ⊎ IsFalse p

-- the nodes are entailed equal
abbrev pub AreEqual : Pure → NodeId → NodeId → Type 0
AreEqual p a b = Derived p (Eq a b (pos 0))

-- the nodes of two lists are, one by one, and the lists are of one length
abbrev pub AreAllEqual : Pure → List NodeId → List NodeId → Type 0
AreAllEqual p [] [] = Unit {0}
AreAllEqual p (a ∷ as') (b ∷ bs) = AreEqual p a b × AreAllEqual p as' bs
AreAllEqual p [] (b ∷ bs) = ⊥
AreAllEqual p (a ∷ as') [] = ⊥

-- the node, a number more, lies in the range of a kind
abbrev pub LiesIn : Pure → Kind → NodeId → ℤ → Type 0
LiesIn p kind n add = Derived p (In n (low_of kind -ℤ add) (high_of kind -ℤ add))

-- the least range that follows for a node
pub record HasRange (p : Pure) (n : NodeId) (lo hi : ℤ) : Type 0 where
  pub follows : Follows p (In n lo hi)
  pub least : (m k : ℤ) → Follows p (In n m k) → (m ≤ℤ lo) × (hi ≤ℤ k)
