-- A normal form: each node is a representative plus an offset, and each representative has a range.
use Rattle.std.specs.Prelude.{◌≡◌, ◌≢◌, ℤ, ◌+ℤ◌, neg_ℤ, ◌≤ℤ◌, ◌<ℤ◌, ◌⊎◌}
use Rattle.mc_base.specs.declared.ids.NodeId.{NodeId}
use Rattle.mc_base.specs.declared.plain.Atom.{Atom}
use Rattle.mc_base.specs.declared.plain.Atom.TheVariants.{Eq, Ne, In}
use Rattle.mc_base.specs.Nodes.{null}
use Rattle.mc_pure.specs.declared.rows.Row.{Row}
use Rattle.mc_pure.specs.Pure.{Pure, IsNode, Base}
use Rattle.mc_pure.specs.Derived.{Follows}

-- the range of the row's own node
abbrev pub low : Row → ℤ
low r = r.lo +ℤ r.off

abbrev pub high : Row → ℤ
high r = r.hi +ℤ r.off

-- a disequality x != y + d, moved along equalities, is a != b + c
pub record Moved (nf : NodeId → Row) (x y : NodeId) (d : ℤ) (a b : NodeId) (c : ℤ) : Type 0 where
  pub left : (nf x).rep ≡ (nf a).rep
  pub right : (nf y).rep ≡ (nf b).rep
  pub by : c +ℤ ((nf b).off +ℤ (nf x).off) ≡ d +ℤ ((nf y).off +ℤ (nf a).off)

abbrev pub Listed : (p : Pure) (nf : NodeId → Row) (a b : NodeId) (c : ℤ) → Type 0
Listed p nf a b c = (x y : NodeId) × (d : ℤ) × Base p (Ne x y d) × Moved nf x y d a b c

-- the rows' ranges do not meet, the second moved by a number
abbrev pub Apart : Row → Row → ℤ → Type 0
Apart r s c = (high r <ℤ (low s +ℤ c)) ⊎ ((high s +ℤ c) <ℤ low r)

-- the normal form says the atom
abbrev pub Holds : (p : Pure) (nf : NodeId → Row) → Atom → Type 0
Holds p nf (Eq a b c) = IsNode p.kinds a × IsNode p.kinds b × ((nf a).rep ≡ (nf b).rep) × ((nf a).off ≡ (nf b).off +ℤ c)
Holds p nf (In a l h) = IsNode p.kinds a × (l ≤ℤ low (nf a)) × (high (nf a) ≤ℤ h)
Holds p nf (Ne a b c) =
    IsNode p.kinds a × IsNode p.kinds b × (Apart (nf a) (nf b) c ⊎ (Listed p nf a b c ⊎ Listed p nf b a (neg_ℤ c)))

-- what keeps the normal form sound, at one node
pub record SoundAt (p : Pure) (nf : NodeId → Row) (a : NodeId) : Type 0 where
  pub equal : Follows p (Eq a (nf a).rep (nf a).off)
  pub within : Follows p (In a (low (nf a)) (high (nf a)))

-- what makes it complete
pub record IsNormal (p : Pure) (nf : NodeId → Row) : Type 0 where
  pub sound : (a : NodeId) → IsNode p.kinds a → SoundAt p nf a
  pub coherent : (a b : NodeId) → IsNode p.kinds a → IsNode p.kinds b → (nf a).rep ≡ (nf b).rep
      → ((nf a).lo ≡ (nf b).lo) × ((nf a).hi ≡ (nf b).hi)
  pub full : (a : NodeId) → IsNode p.kinds a → (nf a).lo ≤ℤ (nf a).hi
  pub origin : IsNode p.kinds null
  pub pinned : (a : NodeId) → IsNode p.kinds a → (nf a).lo ≡ (nf a).hi → (nf a).rep ≡ (nf null).rep
  pub equals : (a b : NodeId) (c : ℤ) → Base p (Eq a b c) → Holds p nf (Eq a b c)
  pub ranges : (a : NodeId) (l h : ℤ) → Base p (In a l h) → Holds p nf (In a l h)
  pub known : (a b : NodeId) (c : ℤ) → Base p (Ne a b c) → IsNode p.kinds a × IsNode p.kinds b
  pub differ : (a b : NodeId) (c : ℤ) → Base p (Ne a b c) → (nf a).rep ≡ (nf b).rep → (nf a).off ≢ (nf b).off +ℤ c
  pub narrow : (a b : NodeId) (c : ℤ) → Base p (Ne a b c) → (nf b).lo ≡ (nf b).hi → (low (nf a) ≢ low (nf b) +ℤ c)
      × (high (nf a) ≢ low (nf b) +ℤ c)
  pub narrow' : (a b : NodeId) (c : ℤ) → Base p (Ne a b c) → (nf a).lo ≡ (nf a).hi → (low (nf a) ≢ low (nf b) +ℤ c)
      × (low (nf a) ≢ high (nf b) +ℤ c)
