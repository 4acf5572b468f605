-- Pairs of nodes, and what they give.
use Rattle.std.proofs.Common.{◌≡◌, ◌≢◌, ◌⊎◌, ◌<◌, ◌≤◌, ◌+◌, ℕ, ℤ, pos, Option, Some, None, slice_get, get_or, length, refl, sym, ◌∙◌, ap, subst, inl, inr, arith}
use Rattle.std.proofs.lemmas.Option.{slice_get_within, slice_get-get_or}
use Rattle.mc_base.specs.declared.ids.NodeId.{NodeId}
use Rattle.mc_base.specs.declared.plain.Kind.{Kind}
use Rattle.mc_base.specs.declared.plain.Atom.{Atom}
use Rattle.mc_base.specs.declared.plain.Atom.TheVariants.{Eq, Ne}
use Rattle.mc_base.specs.Nodes.{null}
use Rattle.mc_pure.specs.Pure.{Pure, Kinds, IsNode, HasKind, kind_of}
use Rattle.mc_pure.specs.Nodes.{with_kind}
use Rattle.mc_pure.specs.Known.{nothing, with_node}
use Rattle.mc_pure.specs.Derived.{Follows, IsFalse, Derived}
use Rattle.mc_pure_ops.specs.Canon.Order.{GivesAtMost}
use Rattle.mc_pure_ops.specs.declared.join.equalities.Shift.{Shift}
use Rattle.mc_pure_ops.specs.Join.Joint.{Pairs, StandsFor, HaveOneKind, AreJoinable, IsKindOfPair}
use Rattle.mc_pure_ops.specs.Join.Parts.{node, AreThere, IsDistance, EqualityAt, DifferenceAt, ListedAt, MayBeKind, HasFirst, HasAll}
use Rattle.mc_pure_ops.proofs.JoinLemmas.Sorted.{decide, some_same, not_none, rise_with, with_here, with_other}
use Rattle.mc_pure_ops.proofs.JoinLemmas.Follow.{eq_as, follows_of}
use Rattle.mc_pure.proofs.Changing.{number, same_node}

abbrev pub Pair : Type 0
Pair = NodeId × NodeId

some_pair : (x y : Pair) → Some x ≡ Some y → x ≡ y
some_pair x y e = cc

pub pair_same : (ps : Pairs) (i : ℕ) (P : Pair) (l r : NodeId) → slice_get ps i ≡ Some P → slice_get ps i ≡ Some (l, r) → (P.0 ≡ l) × (P.1 ≡ r)
pair_same ps i P l r e f =
    let s = some_pair P (l, r) (sym e ∙ f) in
    (ap (λ (z : Pair). z.0) s, ap (λ (z : Pair). z.1) s)

pub there_of : (left right : Pure) (ps : Pairs) → AreJoinable left right ps → AreThere left right ps
there_of left right ps j i l r e = let h = j.1 (node i) l r e in ((h.0, h.1), (h.0, h.2))

pub there_at : (left right : Pure) (ps : Pairs) (i : ℕ) (d : Pair) → AreThere left right ps → i < length ps → IsNode left.kinds (get_or ps i d).0 × IsNode right.kinds (get_or ps i d).1
there_at left right ps i d t l = t i (get_or ps i d).0 (get_or ps i d).1 (slice_get-get_or ps i d l)

pub one_kind_at : (left right : Pure) (ps : Pairs) (i : ℕ) (d : Pair) → AreJoinable left right ps → i < length ps → HaveOneKind left right (get_or ps i d).0 (get_or ps i d).1
one_kind_at left right ps i d t l = t.1 (node i) (get_or ps i d).0 (get_or ps i d).1 (slice_get-get_or ps i d l)

-- kinds
has_some : (kinds : Kinds) (kind : Kind) (n : NodeId) → n ≢ null → HasKind kinds kind n → kind_of kinds n ≡ Some kind
has_some kinds kind n d (inl e) = absurd (d e)
has_some kinds kind n d (inr e) = e

pub kind_once : (left right : Pure) (l r : NodeId) (h : HaveOneKind left right l r) (kind : Kind) → IsKindOfPair left right l r kind → kind ≡ h.0
kind_once left right l r h kind (inl k) = some_same (sym k.1 ∙ has_some left.kinds h.0 l k.0 h.1)
kind_once left right l r h kind (inr k) = some_same (sym k.1 ∙ has_some right.kinds h.0 r k.0 h.2)

not_null_at : (n : NodeId) → (n.0 ≡ 0 → ⊥) → n ≢ null
not_null_at n h e = h (number e)

pub by_left : (left right : Pure) (l r : NodeId) (o : Option Kind) → HaveOneKind left right l r → (l.0 ≡ 0 → ⊥) → o ≡ kind_of left.kinds l → MayBeKind left right l r o
by_left left right l r None h d e = λ kind k. not_none (e ∙ has_some left.kinds h.0 l (not_null_at l d) h.1)
by_left left right l r (Some kind) h d e =
    let k : IsKindOfPair left right l r kind = inl (not_null_at l d, sym e) in
    (k, λ other m. kind_once left right l r h other m ∙ sym (kind_once left right l r h kind k))

pub by_right : (left right : Pure) (l r : NodeId) (o : Option Kind) → HaveOneKind left right l r → (r.0 ≡ 0 → ⊥) → o ≡ kind_of right.kinds r → MayBeKind left right l r o
by_right left right l r None h d e = λ kind k. not_none (e ∙ has_some right.kinds h.0 r (not_null_at r d) h.2)
by_right left right l r (Some kind) h d e =
    let k : IsKindOfPair left right l r kind = inr (not_null_at r d, sym e) in
    (k, λ other m. kind_once left right l r h other m ∙ sym (kind_once left right l r h kind k))

pub no_kind : (left right : Pure) (l r : NodeId) → l.0 ≡ 0 → r.0 ≡ 0 → MayBeKind left right l r None
no_kind left right l r e f kind (inl k) = k.0 (same_node l null e)
no_kind left right l r e f kind (inr k) = k.0 (same_node r null f)

-- a node for each pair
pub first_none : (left right : Pure) (ps : Pairs) (p : Pure) → p ≡ nothing → HasFirst left right ps 1 p
first_none left right ps p e = subst (λ (z : Pure). HasFirst left right ps 1 z) (sym e) (record {
  rise = tt;
  from = λ a kind x. cc;
  done = λ a kind l r d w x k. absurd (d (same_node a null (omega arith)));
  written = refl;
  starts = refl;
})

split : (k i : ℕ) → k < i + 1 → (k < i) ⊎ (k ≡ i)
split k i l = grind arith

more_below : (k i : ℕ) → k < i → k < i + 1
more_below k i l = omega arith

-- the first pairs are of one kind each, and one more is
pub one_more : (left right : Pure) (ps : Pairs) (i : ℕ) (d : Pair) → i < length ps → HaveOneKind left right (get_or ps i d).0 (get_or ps i d).1
    → ((n l r : NodeId) → n.0 < i → StandsFor ps n l r → HaveOneKind left right l r)
    → (n l r : NodeId) → n.0 < i + 1 → StandsFor ps n l r → HaveOneKind left right l r
one_more left right ps i d w here before n l r v s = elim (split n.0 i v) [
  | inl x ↦ before n l r x s
  | inr x ↦
      let e = some_pair (get_or ps i d) (l, r) (sym (slice_get-get_or ps i d w) ∙ subst (λ (z : ℕ). slice_get ps z ≡ Some (l, r)) x s) in
      subst (λ (z : Pair). HaveOneKind left right z.0 z.1) e here
]

-- where all are, the sides may be joined
pub all_joinable : (left right : Pure) (ps : Pairs) (i : ℕ) → length ps ≤ i → StandsFor ps null null null
    → ((n l r : NodeId) → n.0 < i → StandsFor ps n l r → HaveOneKind left right l r) → AreJoinable left right ps
all_joinable left right ps i w first all = (first, λ n l r s. (let v = slice_get_within ps n.0 (l, r) s in all n l r (omega arith) s))

module _ (left right : Pure) (ps : Pairs) (i : ℕ) (P : Pair) (at : slice_get ps i ≡ Some P) where
  pub first_skip : (p : Pure) → MayBeKind left right P.0 P.1 None → HasFirst left right ps i p → HasFirst left right ps (i + 1) p
  first_skip p none h = record {
    rise = h.rise;
    from = λ a kind x. (let g = h.from a kind x in (g.0, more_below a.0 i g.1, g.2));
    done = λ a kind l r d w x k. elim (split a.0 i w) [
      | inl y ↦ h.done a kind l r d y x k
      | inr y ↦ absurd (clash kind l r (subst (λ (z : ℕ). slice_get ps z ≡ Some (l, r)) y x) k)
    ];
    written = h.written;
    starts = h.starts;
  }
    where
      clash : (kind : Kind) (l r : NodeId) → slice_get ps i ≡ Some (l, r) → IsKindOfPair left right l r kind → ⊥
      clash kind l r x k =
          let s = pair_same ps i P l r at x in
          none kind (subst (λ (z : NodeId). IsKindOfPair left right z P.1 kind) (sym s.0) (subst (λ (z : NodeId). IsKindOfPair left right l z kind) (sym s.1) k))

  pub fresh : (p : Pure) → 1 ≤ i → HasFirst left right ps i p → IsNode p.kinds (node i) → ⊥
  fresh p w h n = at_kind n.1
    where
      at_kind : HasKind p.kinds n.0 (node i) → ⊥
      at_kind (inl e) = let z = number e in omega arith
      at_kind (inr e) = let g = (h.from (node i) n.0 e).1 in omega arith

  none_of : (o : Option Kind) → ((kind : Kind) → o ≡ Some kind → ⊥) → o ≡ None
  none_of None h = refl
  none_of (Some k) h = absurd (h k refl)

  pub first_more : (old new : Pure) (kind : Kind) → 1 ≤ i → MayBeKind left right P.0 P.1 (Some kind) → new ≡ with_node old (node i) kind → HasFirst left right ps i old → HasFirst left right ps (i + 1) new
  first_more old new kind w k e h = subst (λ (z : Pure). HasFirst left right ps (i + 1) z) (sym e) (record {
    rise = rise_with 1 old.kinds (node i) kind h.rise w none;
    from = λ a other x. elim (decide (node i) a) [
      | inl y ↦ new_one a other y x
      | inr y ↦ (let g = h.from a other (sym (with_other old.kinds (node i) a kind y) ∙ x) in (g.0, more_below a.0 i g.1, g.2))
    ];
    done = λ a other l r d v x m. elim (split a.0 i v) [
      | inl y ↦ with_other old.kinds (node i) a kind (λ z. (let q = number z in below_itself a.0 (subst (λ (u : ℕ). a.0 < u) q y))) ∙ h.done a other l r d y x m
      | inr y ↦ its_kind a other l r y x m
    ];
    written = h.written;
    starts = h.starts;
  })
    where
      none : kind_of old.kinds (node i) ≡ None
      none = none_of (kind_of old.kinds (node i)) (λ other x. (let g = (h.from (node i) other x).1 in omega arith))

      below_itself : (a : ℕ) → a < a → ⊥
      below_itself a l = omega arith

      new_one : (a : NodeId) (other : Kind) → node i ≡ a → kind_of (with_kind old.kinds (node i) kind) a ≡ Some other
          → (a ≢ null) × (a.0 < i + 1) × ((l r : NodeId) × (slice_get ps a.0 ≡ Some (l, r)) × IsKindOfPair left right l r other)
      new_one a other y x =
          let s : kind ≡ other = some_same (sym (with_here old.kinds (node i) kind none) ∙ (ap (λ (z : NodeId). kind_of (with_kind old.kinds (node i) kind) z) y ∙ x)) in
          let q : i ≡ a.0 = number y in (
            (λ z. let u = number z in omega arith),
            omega arith,
            (P.0, P.1, subst (λ (z : ℕ). slice_get ps z ≡ Some P) q at, subst (λ (z : Kind). IsKindOfPair left right P.0 P.1 z) s k.0),
          )

      its_kind : (a : NodeId) (other : Kind) (l r : NodeId) → a.0 ≡ i → slice_get ps a.0 ≡ Some (l, r) → IsKindOfPair left right l r other → kind_of (with_kind old.kinds (node i) kind) a ≡ Some other
      its_kind a other l r y x m =
          let q = pair_same ps i P l r at (subst (λ (z : ℕ). slice_get ps z ≡ Some (l, r)) y x) in
          let n : IsKindOfPair left right P.0 P.1 other = subst (λ (z : NodeId). IsKindOfPair left right z P.1 other) (sym q.0) (subst (λ (z : NodeId). IsKindOfPair left right l z other) (sym q.1) m) in
          ap (λ (z : NodeId). kind_of (with_kind old.kinds (node i) kind) z) (same_node a (node i) y)
          ∙ (with_here old.kinds (node i) kind none ∙ ap (λ (z : Kind). Some z) (sym (k.1 other n)))

pub first_all : (left right : Pure) (ps : Pairs) (n : ℕ) (p : Pure) → length ps ≤ n → HasFirst left right ps n p → HasAll left right ps p
first_all left right ps n p l h = record {
  kinds = record {
    rise = h.rise;
    exact = λ a kind. (
      (λ x. (let g = h.from a kind x in (g.0, g.2))),
      (λ x. (let w = slice_get_within ps a.0 (x.1.0, x.1.1) x.1.2 in h.done a kind x.1.0 x.1.1 x.0 (omega arith) x.1.2 x.1.3)),
    );
  };
  written = h.written;
  starts = h.starts;
}

-- the atoms of two pairs
module _ (left right : Pure) (ps : Pairs) (i j : ℕ) (P Q : Pair) (first : slice_get ps i ≡ Some P) (second : slice_get ps j ≡ Some Q) where
  left_eq : (f : Atom) (h : EqualityAt left right ps i j f) → Follows left (Eq P.0 Q.0 h.c)
  left_eq f h =
      let s = pair_same ps i P h.l h.r first h.first in
      let t = pair_same ps j Q h.m h.k second h.second in
      eq_as left h.on_left (sym s.0) (sym t.0) refl

  right_eq : (f : Atom) (h : EqualityAt left right ps i j f) → Follows right (Eq P.1 Q.1 h.c)
  right_eq f h =
      let s = pair_same ps i P h.l h.r first h.first in
      let t = pair_same ps j Q h.m h.k second h.second in
      eq_as right h.on_right (sym s.1) (sym t.1) refl

  pub none_left : IsDistance left P.0 Q.0 None → GivesAtMost (EqualityAt left right ps i j) None
  none_left d f h = d h.c (left_eq f h)

  pub none_right : (d : Shift) → IsDistance left P.0 Q.0 (Some d) → (Derived right (Eq P.1 Q.1 d.by) → ⊥) → GivesAtMost (EqualityAt left right ps i j) None
  none_right d e never f h = never (inl (eq_as right (right_eq f h) refl refl (e.1 h.c (left_eq f h))))

  pub one_equality : (IsFalse right → ⊥) → (d : Shift) → IsDistance left P.0 Q.0 (Some d) → Derived right (Eq P.1 Q.1 d.by) → GivesAtMost (EqualityAt left right ps i j) (Some (Eq (node i) (node j) d.by))
  one_equality nr d e g = (
    record { l = P.0; r = P.1; m = Q.0; k = Q.1; c = d.by; first = first; second = second; on_left = e.0; on_right = follows_of right nr _ g; is = refl },
    λ f h. h.is ∙ ap (λ (z : ℤ). Eq (node i) (node j) z) (e.1 h.c (left_eq f h)),
  )

  pub one_difference : (IsFalse left → ⊥) → (IsFalse right → ⊥) → Derived left (Ne P.0 Q.0 (pos 0)) → Derived right (Ne P.1 Q.1 (pos 0)) → GivesAtMost (DifferenceAt left right ps i j) (Some (Ne (node i) (node j) (pos 0)))
  one_difference nl nr d e = (
    record { l = P.0; r = P.1; m = Q.0; k = Q.1; first = first; second = second; on_left = follows_of left nl _ d; on_right = follows_of right nr _ e; is = refl },
    λ f h. h.is,
  )

  pub one_listed : (IsFalse right → ⊥) → (atom : Atom) (a b : NodeId) (c : ℤ) → atom ≡ Ne a b c → a.0 ≡ P.0.0 → b.0 ≡ Q.0.0 → Derived right (Ne P.1 Q.1 c) → GivesAtMost (ListedAt right ps atom i j) (Some (Ne (node i) (node j) c))
  one_listed nr atom a b c e s t d = (
    record {
      l = P.0;
      r = P.1;
      m = Q.0;
      k = Q.1;
      c = c;
      first = first;
      second = second;
      listed = e ∙ (ap (λ (z : NodeId). Ne z b c) (same_node a P.0 s) ∙ ap (λ (z : NodeId). Ne P.0 z c) (same_node b Q.0 t));
      on_other = follows_of right nr _ d;
      is = refl;
    },
    λ f h. h.is ∙ ap (λ (z : ℤ). Ne (node i) (node j) z) (offset_of (sym h.listed ∙ e)),
  )
    where
      offset_of : {x y u v : NodeId} {m n : ℤ} → Ne x y m ≡ Ne u v n → m ≡ n
      offset_of e = cc
