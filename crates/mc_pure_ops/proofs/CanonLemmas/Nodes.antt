-- Nodes in lists, and the facts of equalities and ranges that need no normal form.
use Rattle.std.proofs.Common.{◌≡◌, ◌≢◌, ℕ, zero, suc, ◌⊎◌, ◌≤◌, ℤ, pos, negsuc, ◌+ℤ◌, ◌-ℤ◌, neg_ℤ, ◌≤ℤ◌, ◌<ℤ◌, [], ◌∷◌, Option, Some, None, slice_get, map, refl, sym, ◌∙◌, ap, subst, inl, inr, arith}
use Rattle.std.proofs.lemmas.Int.{ints, clamps}
use Rattle.std.specs.Int.{int_max, int_min}
use Rattle.mc_base.specs.declared.ids.NodeId.{NodeId}
use Rattle.mc_base.specs.declared.plain.Kind.{Kind}
use Rattle.mc_base.specs.declared.plain.Kind.TheVariants.{Int, Ptr}
use Rattle.mc_base.specs.declared.plain.Atom.TheVariants.{Eq, Ne, In}
use Rattle.mc_base.specs.Nodes.{null}
use Rattle.mc_pure.specs.Pure as begin
use Rattle.mc_pure.specs.Pure.{Pure, Kinds, IsNode, kind_of, low_of, high_of}
use Rattle.mc_pure.specs.Rows.{nodes_of}
use Rattle.mc_pure.specs.Derived.{Follows, IsFalse, base, turned, chained, shifted, met, empty, more}
use Rattle.mc_pure.specs.Canonical.{IsLeast}
use Rattle.mc_pure.specs.Classes.{IsLong}
use Rattle.mc_pure.specs.declared.classes.ClassPlace.{ClassPlace}
use Rattle.mc_pure_ops.specs.Canon.Left.{IsLeft, IsLeastLeft, IsPlace, IsLeftOut, FindsPlace}
use Rattle.mc_pure.proofs.Changing.{same_node, decide}
use Rattle.mc_pure.proofs.Placing.{Entry, here_kind, later_kind, place_of_kind}
use Rattle.mc_pure_ops.proofs.JoinLemmas.Follow.{eq_as}

pub some_entry : (x y : Entry) → Some x ≡ Some y → x ≡ y
some_entry x y e = cc

-- a node that has a place has a kind
pub kind_there : (kinds : Kinds) (i : ℕ) (n : NodeId) → slice_get (map (λ k. k.0) kinds) i ≡ Some n → (kind : Kind) × (kind_of kinds n ≡ Some kind)
kind_there [] i n e = cc
kind_there (k ∷ kinds) zero n e = let s : k.0 ≡ n = cc in (k.1, here_kind k kinds n s)
kind_there (k ∷ kinds) (suc i) n e = elim (decide k.0 n) [
  | inl s ↦ (k.1, here_kind k kinds n s)
  | inr s ↦ (let h = kind_there kinds i n e in (h.0, later_kind k kinds n s ∙ h.1))
]

-- the nodes of the list are the nodes
pub node_there : (kinds : Kinds) (i : ℕ) (n : NodeId) → slice_get (nodes_of kinds) i ≡ Some n → IsNode kinds n
node_there kinds zero n e = let s : null ≡ n = cc in (Int, inl (sym s))
node_there kinds (suc i) n e = let h = kind_there kinds i n e in (h.0, inr h.1)

pub not_below : (a b : ℤ) → (b <ℤ a → ⊥) → a ≤ℤ b
not_below a b n = grind (arith, ints)

pub place_same : (a b : ClassPlace) → a.least ≡ b.least → a.offset ≡ b.offset → a ≡ b
place_same a b p q =
    ap (λ (z : NodeId). let x : ClassPlace = record { least = z; offset = a.offset } in x) p
    ∙ ap (λ (z : ℤ). let x : ClassPlace = record { least = b.least; offset = z } in x) q

pub in_as : (p : Pure) {a : NodeId} {l h l' h' : ℤ} → Follows p (In a l h) → l ≡ l' → h ≡ h' → Follows p (In a l' h')
in_as p {a} {l} {h} {l'} {h'} d e f = subst (λ (z : ℤ). Follows p (In a l' z)) f (subst (λ (z : ℤ). Follows p (In a z h)) e d)

pub ne_as : (p : Pure) {a b : NodeId} {c c' : ℤ} → Follows p (Ne a b c) → c ≡ c' → Follows p (Ne a b c')
ne_as p {a} {b} d e = subst (λ (z : ℤ). Follows p (Ne a b z)) e d

-- the range of a node's kind
pub kind_range : (p : Pure) (a : NodeId) → IsNode p.kinds a → (lo hi : ℤ) × Follows p (In a lo hi) × (negsuc 2147483647 ≤ℤ lo) × (hi ≤ℤ pos 4611686018427387903)
kind_range p a h = elim h.1 [
  | inl e ↦ (pos 0, pos 0, subst (λ (z : NodeId). Follows p (In z (pos 0) (pos 0))) (sym e) (base begin.zero), omega (arith, ints), omega (arith, ints))
  | inr e ↦ (let k = place_of_kind p.kinds a h.0 e in (low_of h.0, high_of h.0, base (begin.kind k.0 k.1), low h.0, high h.0))
]
  where
    low : (k : Kind) → negsuc 2147483647 ≤ℤ low_of k
    low Int = omega (arith, ints)
    low Ptr = omega (arith, ints)

    high : (k : Kind) → high_of k ≤ℤ pos 4611686018427387903
    high Int = omega (arith, ints)
    high Ptr = omega (arith, ints)

module _ (p : Pure) (nf : IsFalse p → ⊥) where
  pub self_zero : (a : NodeId) (c : ℤ) → Follows p (Eq a a c) → c ≡ pos 0
  self_zero a c d = elim (zero_or c) [ inl e ↦ e | inr ne ↦ absurd (nf (more ne d)) ]
    where
      zero_or : (c : ℤ) → (c ≡ pos 0) ⊎ (c ≢ pos 0)
      zero_or c = grind (arith, ints)

  pub offset_once : (a b : NodeId) (c e : ℤ) → Follows p (Eq a b c) → Follows p (Eq a b e) → c ≡ e
  offset_once a b c e d f = let z = self_zero a (c +ℤ neg_ℤ e) (chained d (turned f)) in omega (arith, ints)

  pub least_once : (lost : Option NodeId) (b d : NodeId) (c : ℤ) → IsLeastLeft p lost b → IsLeastLeft p lost d → Follows p (Eq b d c) → b ≡ d
  least_once lost b d c l m f =
      let x = l.least d c m.left f in
      let y = m.least b (neg_ℤ c) l.left (turned f) in
      same_node b d (omega arith)

  pub place_once : (lost : Option NodeId) (n : NodeId) (P Q : ClassPlace) → IsPlace p lost n P → IsPlace p lost n Q → P ≡ Q
  place_once lost n P Q x y =
      let e = least_once lost P.least Q.least _ x.least y.least (chained (turned x.equal) y.equal) in
      place_same P Q e (offset_once n Q.least P.offset Q.offset (eq_as p x.equal refl e refl) y.equal)

  -- two ranges of a node meet
  pub meets : (a : NodeId) (l h m k : ℤ) → Follows p (In a l h) → Follows p (In a m k) → (l ≤ℤ k) × (m ≤ℤ h)
  meets a l h m k d e =
      let x = not_below (int_max l m) (int_min h k) (λ w. nf (empty w (met d e))) in
      (omega (arith, ints, clamps, x), omega (arith, ints, clamps, x))

  pub eq_long : (a b : NodeId) (c : ℤ) → IsNode p.kinds a → IsNode p.kinds b → Follows p (Eq a b c) → IsLong c
  eq_long a b c na nb d =
      let x = kind_range p a na in
      let y = kind_range p b nb in
      let m = meets a x.0 x.1 (y.0 +ℤ c) (y.1 +ℤ c) x.2 (shifted d y.2) in
      (omega (arith, ints, m.0, x.3, y.4), omega (arith, ints, m.1, x.4, y.3))

-- the place in the whole class
pub whole_place : (p : Pure) (n : NodeId) (place : ClassPlace) → IsLeast p place.least → Follows p (Eq n place.least place.offset) → IsPlace p None n place
whole_place p n place l d = record { least = record { node = l.0; left = tt; least = λ m c w f. l.1 m c f }; equal = d }

pub whole_least : (p : Pure) (b : NodeId) → IsLeastLeft p None b → IsLeast p b
whole_least p b l = (l.node, λ m c f. l.least m c tt f)

pub least_whole : (p : Pure) (b : NodeId) → IsLeast p b → IsLeastLeft p None b
least_whole p b l = record { node = l.0; left = tt; least = λ m c w f. l.1 m c f }

-- where the least node is left, it is the least that is left
pub place_kept : (p : Pure) (lost : Option NodeId) (n : NodeId) (place : ClassPlace) → IsLeast p place.least → Follows p (Eq n place.least place.offset) → IsLeft lost place.least → IsPlace p lost n place
place_kept p lost n place l d w = record { least = record { node = l.0; left = w; least = λ m c v f. l.1 m c f }; equal = d }

is_lost : (g n : NodeId) → (IsLeft (Some g) n → ⊥) → n ≡ g
is_lost g n h = elim (decide n g) [ inl e ↦ e | inr ne ↦ absurd (h ne) ]

-- where it is not, the heir is
pub place_heir : (p : Pure) (lost : Option NodeId) (heir : ClassPlace) (n : NodeId) (place other : ClassPlace) → IsLeftOut p lost (Some heir) → IsLeast p place.least → Follows p (Eq n place.least place.offset) → (IsLeft lost place.least → ⊥) → other.least ≡ heir.least → other.offset ≡ place.offset -ℤ heir.offset → IsPlace p lost n other
place_heir p None heir n place other o l d w e f = absurd (w tt)
place_heir p (Some g) heir n place other o l d w e f =
    let s = is_lost g place.least w in
    let h = o.2 (subst (λ (z : NodeId). IsLeast p z) s l) in
    record {
      least = subst (λ (z : NodeId). IsLeastLeft p (Some g) z) (sym e) h.0;
      equal = eq_as p (chained (eq_as p d refl s refl) (turned h.1)) refl (sym e) (omega (arith, ints, f));
    }

pub heir_long : (p : Pure) (lost : Option NodeId) (heir : ClassPlace) (n : NodeId) (place : ClassPlace) → (IsFalse p → ⊥) → IsNode p.kinds n → IsLeftOut p lost (Some heir) → IsLeast p place.least → Follows p (Eq n place.least place.offset) → (IsLeft lost place.least → ⊥) → IsLong (place.offset -ℤ heir.offset)
heir_long p lost heir n place nf there o l d w =
    let x = place_heir p lost heir n place (record { least = heir.least; offset = place.offset -ℤ heir.offset }) o l d w refl refl in
    eq_long p nf n heir.least (place.offset -ℤ heir.offset) there x.least.node x.equal

pub place_none : (p : Pure) (lost : Option NodeId) (n : NodeId) (place : ClassPlace) → IsLeftOut p lost None → IsLeast p place.least → Follows p (Eq n place.least place.offset) → (IsLeft lost place.least → ⊥) → FindsPlace p lost n None
place_none p None n place o l d w other x = w tt
place_none p (Some g) n place o l d w other x =
    let s = is_lost g place.least w in
    let none = o.2 (subst (λ (z : NodeId). IsLeast p z) s l) in
    x.least.left (none other.least _ (chained (turned x.equal) (eq_as p d refl s refl)))
