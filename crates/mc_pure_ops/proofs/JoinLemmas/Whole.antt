-- A whole join.
use Rattle.std.proofs.Common.{◌≡◌, ◌≢◌, ◌⊎◌, ◌<◌, ℕ, zero, suc, ℤ, pos, neg_ℤ, ◌++◌, Contains, List, [], ◌∷◌, Some, slice_get, length, refl, sym, ◌∙◌, subst, inl, inr, arith}
use Rattle.std.proofs.lemmas.Int.{ints}
use Rattle.std.proofs.lemmas.Option.{slice_get_within, get_or_from_slice_get}
use Rattle.mc_base.specs.declared.ids.NodeId.{NodeId}
use Rattle.mc_base.specs.declared.plain.Kind.{Kind}
use Rattle.mc_base.specs.declared.plain.Atom.{Atom}
use Rattle.mc_base.specs.declared.plain.Atom.TheVariants.{Eq, Ne, In}
use Rattle.mc_base.specs.Nodes.{null}
use Rattle.mc_pure.specs.Pure as begin
use Rattle.mc_pure.specs.Pure.{Pure, Kinds, IsNode, AreOfOneKind, IsOffset, IsWellFormed, kind_of}
use Rattle.mc_pure.specs.Derived.{Follows, IsFalse, base, itself, turned, differs, apart}
use Rattle.mc_pure.specs.Canonical.{IsCanonical}
use Rattle.mc_pure_ops.specs.Canon.Order.{Among}
use Rattle.mc_pure_ops.specs.Join.Joint.{Pairs, Sides, StandsFor, AreJoinable, AreJointKinds, IsKindOfPair, IsOfBoth, IsJoint, IsJoin}
use Rattle.mc_pure_ops.specs.Join.Gains.{Gains}
use Rattle.mc_pure_ops.specs.Join.Parts.{node, EqualityAt, DifferenceAt, ListedAt, RangeAt, Below, AtPlace, HasAll}
use Rattle.mc_pure_ops.specs.Join.Parts as parts
use Rattle.mc_pure_ops.proofs.JoinLemmas.Follow.{eq_as, ne_as, self_zero}
use Rattle.mc_pure_ops.proofs.JoinLemmas.Pairing.{Pair, pair_same}
use Rattle.mc_pure_ops.proofs.JoinLemmas.Gaining.{gains_both}
use Rattle.mc_pure.proofs.Changing.{same_node}

-- pairs the other way round
turned_to : (ps : Pairs) (i : ℕ) (l r : NodeId) → slice_get ps i ≡ Some (l, r) → slice_get (parts.turned ps) i ≡ Some (r, l)
turned_to [] i l r e = cc
turned_to (p ∷ ps) zero l r e = let s = pair_same (p ∷ ps) 0 p l r refl e in turn p.0 p.1 l r s.0 s.1
  where
    turn : (a b c d : NodeId) → a ≡ c → b ≡ d → (let x : Pair = (b, a) in let y : Pair = (d, c) in Some x ≡ Some y)
    turn a b c d e f = rw (e, f) refl
turned_to (p ∷ ps) (suc i) l r e = turned_to ps i l r e

turned_from : (ps : Pairs) (i : ℕ) (l r : NodeId) → slice_get (parts.turned ps) i ≡ Some (r, l) → slice_get ps i ≡ Some (l, r)
turned_from [] i l r e = cc
turned_from (p ∷ ps) zero l r e = let s = pair_same (parts.turned (p ∷ ps)) 0 (p.1, p.0) r l refl e in turn p.0 p.1 l r s.1 s.0
  where
    turn : (a b c d : NodeId) → a ≡ c → b ≡ d → (let x : Pair = (a, b) in let y : Pair = (c, d) in Some x ≡ Some y)
    turn a b c d e f = rw (e, f) refl
turned_from (p ∷ ps) (suc i) l r e = turned_from ps i l r e

-- atoms turned round
turned_offset : (c : ℤ) → IsOffset c → IsOffset (neg_ℤ c)
turned_offset c h = (omega (arith, ints, h.0, h.1), omega (arith, ints, h.0, h.1))

turned_kind : (kinds : Kinds) (a b : NodeId) → AreOfOneKind kinds a b → AreOfOneKind kinds b a
turned_kind kinds a b h = (h.0, h.2, h.1)

sides : (a b : ℕ) → (b < a) ⊎ ((a ≡ b) ⊎ (a < b))
sides a b = grind arith

inside : (ps : Pairs) (i : ℕ) (l r : NodeId) → slice_get ps i ≡ Some (l, r) → i < length ps
inside ps i l r e = slice_get_within ps i (l, r) e

module _ (s : Sides) (nl : IsFalse s.left → ⊥) (nr : IsFalse s.right → ⊥) where
  -- what is written, step by step
  abbrev pub Ranges : Atom → Type 0
  Ranges = Below (RangeAt s.left s.right s.pairs s.round s.thresholds) (length s.pairs)

  abbrev pub Equalities : Atom → Type 0
  Equalities = Below (λ i. Below (EqualityAt s.left s.right s.pairs i) i) (length s.pairs)

  abbrev pub Differences : Atom → Type 0
  Differences = Below (λ i. Below (DifferenceAt s.left s.right s.pairs i) i) (length s.pairs)

  abbrev pub Listed : List Atom → Pure → Pairs → Atom → Type 0
  Listed list other ps = Below (AtPlace (λ atom. Below (λ i. Below (ListedAt other ps atom i) (length ps)) (length ps)) list) (length list)

  abbrev pub All5 : Atom → Type 0
  All5 f = Ranges f ⊎ (Equalities f ⊎ (Differences f ⊎ (Listed s.left_list s.right s.pairs f ⊎ Listed s.right_list s.left (parts.turned s.pairs) f)))

  abbrev FromList : Type 0
  FromList = (f : Atom) (l m : NodeId) (c : ℤ) → f ≡ Ne l m c → ⊥

  module _ (kinds : Kinds) (joint : AreJointKinds s.left s.right s.pairs kinds) (origin : StandsFor s.pairs null null null)
      (left_follows : (l m : NodeId) (c : ℤ) → Among s.left_list (Ne l m c) → Follows s.left (Ne l m c))
      (right_follows : (l m : NodeId) (c : ℤ) → Among s.right_list (Ne l m c) → Follows s.right (Ne l m c)) where
    -- each is an atom of both
    eq_sound : (f : Atom) → Equalities f → IsOfBoth s kinds f
    eq_sound f h = let e = h.2.2 in subst (λ (z : Atom). IsOfBoth s kinds z) (sym e.is) (e.l, e.r, e.m, e.k, e.first, e.second, e.on_left, e.on_right)

    ne_sound : (f : Atom) → Differences f → IsOfBoth s kinds f
    ne_sound f h = let e = h.2.2 in subst (λ (z : Atom). IsOfBoth s kinds z) (sym e.is) (e.l, e.r, e.m, e.k, e.first, e.second, e.on_left, e.on_right, inl refl)

    left_sound : (f : Atom) → Listed s.left_list s.right s.pairs f → IsOfBoth s kinds f
    left_sound f h =
        let e = h.2.2.2.2 in
        let there : Among s.left_list (Ne e.l e.m e.c) = (h.0, subst (λ (z : Atom). slice_get s.left_list h.0 ≡ Some z) e.listed h.2.1) in
        subst (λ (z : Atom). IsOfBoth s kinds z) (sym e.is) (e.l, e.r, e.m, e.k, e.first, e.second, left_follows e.l e.m e.c there, e.on_other, inr (inl there))

    right_sound : (f : Atom) → Listed s.right_list s.left (parts.turned s.pairs) f → IsOfBoth s kinds f
    right_sound f h =
        let e = h.2.2.2.2 in
        let there : Among s.right_list (Ne e.l e.m e.c) = (h.0, subst (λ (z : Atom). slice_get s.right_list h.0 ≡ Some z) e.listed h.2.1) in
        subst (λ (z : Atom). IsOfBoth s kinds z) (sym e.is)
        (e.r, e.l, e.k, e.m, turned_from s.pairs h.2.2.0 e.r e.l e.first, turned_from s.pairs h.2.2.2.0 e.k e.m e.second, e.on_other, right_follows e.l e.m e.c there, inr (inr there))

    range_sound : (f : Atom) → Ranges f → IsOfBoth s kinds f
    range_sound f h =
        let e = h.2 in
        subst (λ (z : Atom). IsOfBoth s kinds z) (sym e.is) (
          e.kind,
          (joint.exact (node h.0) e.kind).1 (not_first h.0 e.l e.r e.kind e.pair e.kind_is, (e.l, e.r, e.pair, e.kind_is)),
          e.l,
          e.r,
          e.pair,
          e.x,
          e.h,
          e.y,
          e.k,
          e.left_range,
          e.right_range,
          e.range,
        )
      where
        not_first : (i : ℕ) (l r : NodeId) (kind : Kind) → slice_get s.pairs i ≡ Some (l, r) → IsKindOfPair s.left s.right l r kind → node i ≢ null
        not_first i l r kind p k z =
            let q = pair_same s.pairs 0 (l, r) null null (subst (λ (n : NodeId). slice_get s.pairs n.0 ≡ Some (l, r)) z p) origin in
            elim k [ inl x ↦ x.0 q.0 | inr x ↦ x.0 q.1 ]

    pub all_sound : (f : Atom) → All5 f → IsOfBoth s kinds f
    all_sound f (inl h) = range_sound f h
    all_sound f (inr (inl h)) = eq_sound f h
    all_sound f (inr (inr (inl h))) = ne_sound f h
    all_sound f (inr (inr (inr (inl h)))) = left_sound f h
    all_sound f (inr (inr (inr (inr h)))) = right_sound f h

    -- and each atom of both follows
    module _ (p : Pure) (same : p.kinds ≡ kinds) (written : (f : Atom) → IsWellFormed kinds f → All5 f → Among p.written f) where
      here : (f : Atom) → IsWellFormed kinds f → All5 f → Follows p f
      here f w h = let m = written f w h in base (begin.written m.0 m.1)

      node_there : (n : NodeId) → IsNode kinds n → IsNode p.kinds n
      node_there n h = subst (λ (z : Kinds). IsNode z n) (sym same) h

      eq_at : (a b : NodeId) (c : ℤ) (l r m k : NodeId) → b.0 < a.0 → IsWellFormed kinds (Eq a b c) → StandsFor s.pairs a l r → StandsFor s.pairs b m k → Follows s.left (Eq l m c) → Follows s.right (Eq r k c) → Follows p (Eq a b c)
      eq_at a b c l r m k lt w x y d e =
          here (Eq a b c) w (inr (inl (a.0, inside s.pairs a.0 l r x, (b.0, lt, record { l = l; r = r; m = m; k = k; c = c; first = x; second = y; on_left = d; on_right = e; is = refl }))))

      ne_at : (a b : NodeId) (l r m k : NodeId) → b.0 < a.0 → IsWellFormed kinds (Ne a b (pos 0)) → StandsFor s.pairs a l r → StandsFor s.pairs b m k → Follows s.left (Ne l m (pos 0)) → Follows s.right (Ne r k (pos 0)) → Follows p (Ne a b (pos 0))
      ne_at a b l r m k lt w x y d e =
          here (Ne a b (pos 0)) w (inr (inr (inl (a.0, inside s.pairs a.0 l r x, (b.0, lt, record { l = l; r = r; m = m; k = k; first = x; second = y; on_left = d; on_right = e; is = refl })))))

      pair_once : (a b : NodeId) (l r m k : NodeId) → a ≡ b → StandsFor s.pairs a l r → StandsFor s.pairs b m k → (l ≡ m) × (r ≡ k)
      pair_once a b l r m k e x y = pair_same s.pairs b.0 (l, r) m k (subst (λ (z : NodeId). slice_get s.pairs z.0 ≡ Some (l, r)) e x) y

      pub complete : (f : Atom) → IsJoint s kinds f → Follows p f
      complete (Eq a b c) (w, h) = elim (sides a.0 b.0) [
        | inl lt ↦ eq_at a b c h.0 h.1 h.2 h.3 lt w h.4 h.5 h.6 h.7
        | inr x ↦ elim x [
          | inl e ↦ (
              let q = pair_once a b h.0 h.1 h.2 h.3 (same_node a b e) h.4 h.5 in
              let z : c ≡ pos 0 = self_zero s.left nl h.0 c (eq_as s.left h.6 refl (sym q.0) refl) in
              eq_as p (itself (node_there a (w.0.0, w.0.1))) refl (same_node a b e) (sym z)
              )
          | inr lt ↦ (
              let t : IsWellFormed kinds (Eq b a (neg_ℤ c)) = (turned_kind kinds a b w.0, turned_offset c w.1) in
              eq_as p (turned (eq_at b a (neg_ℤ c) h.2 h.3 h.0 h.1 lt t h.5 h.4 (turned h.6) (turned h.7))) refl refl (omega (arith, ints))
              )
        ]
      ]
      complete (Ne a b c) (w, h) = elim h.8 [
        | inl z ↦ ne_zero a b c w h.0 h.1 h.2 h.3 h.4 h.5 h.6 h.7 z
        | inr x ↦ elim x [
          | inl there ↦ here (Ne a b c) w (inr (inr (inr (inl (
            there.0,
            slice_within s.left_list there.0 _ there.1,
            (
              Ne h.0 h.2 c,
              there.1,
              (
                a.0,
                inside s.pairs a.0 h.0 h.1 h.4,
                (
                  b.0,
                  inside s.pairs b.0 h.2 h.3 h.5,
                  record { l = h.0; r = h.1; m = h.2; k = h.3; c = c; first = h.4; second = h.5; listed = refl; on_other = h.7; is = refl },
                ),
              ),
            ),
          )))))
          | inr there ↦ here (Ne a b c) w (inr (inr (inr (inr (
            there.0,
            slice_within s.right_list there.0 _ there.1,
            (
              Ne h.1 h.3 c,
              there.1,
              (
                a.0,
                inside (parts.turned s.pairs) a.0 h.1 h.0 (turned_to s.pairs a.0 h.0 h.1 h.4),
                (
                  b.0,
                  inside (parts.turned s.pairs) b.0 h.3 h.2 (turned_to s.pairs b.0 h.2 h.3 h.5),
                  record { l = h.1; r = h.0; m = h.3; k = h.2; c = c; first = turned_to s.pairs a.0 h.0 h.1 h.4; second = turned_to s.pairs b.0 h.2 h.3 h.5; listed = refl; on_other = h.6; is = refl },
                ),
              ),
            ),
          )))))
        ]
      ]
        where
          slice_within : (xs : List Atom) (i : ℕ) (f : Atom) → slice_get xs i ≡ Some f → i < length xs
          slice_within xs i f e = slice_get_within xs i f e

          ne_zero : (a b : NodeId) (c : ℤ) → IsWellFormed kinds (Ne a b c) → (l r m k : NodeId) → StandsFor s.pairs a l r → StandsFor s.pairs b m k → Follows s.left (Ne l m c) → Follows s.right (Ne r k c) → c ≡ pos 0 → Follows p (Ne a b c)
          ne_zero a b c w l r m k x y d e z = elim (sides a.0 b.0) [
            | inl lt ↦ ne_as p (ne_at a b l r m k lt (subst (λ (u : ℤ). IsWellFormed kinds (Ne a b u)) z w) x y (ne_as s.left d refl refl z) (ne_as s.right e refl refl z)) refl refl (sym z)
            | inr v ↦ elim v [
              | inl q ↦ (let o = pair_once a b l r m k (same_node a b q) x y in absurd (nl (apart (ne_as s.left d refl (sym o.0) z))))
              | inr lt ↦ (
                  let u : neg_ℤ c ≡ pos 0 = omega (arith, ints) in
                  let t : IsWellFormed kinds (Ne b a (pos 0)) = subst (λ (i : ℤ). IsWellFormed kinds (Ne b a i)) u (turned_kind kinds a b w.0, turned_offset c w.1) in
                  ne_as p (differs (ne_at b a m k l r lt t y x (ne_as s.left (differs d) refl refl u) (ne_as s.right (differs e) refl refl u))) refl refl (omega (arith, ints))
                  )
            ]
          ]
      complete (In n lo hi) (w, h) =
          let q = (joint.exact n h.0).0 h.1 in
          let o = pair_same s.pairs n.0 (q.1.0, q.1.1) h.2 h.3 q.1.2 h.4 in
          here (In n lo hi) w (inl (
            n.0,
            inside s.pairs n.0 h.2 h.3 h.4,
            record {
              kind = h.0;
              l = h.2;
              r = h.3;
              pair = h.4;
              kind_is = subst (λ (z : NodeId). IsKindOfPair s.left s.right z h.3 h.0) o.0 (subst (λ (z : NodeId). IsKindOfPair s.left s.right q.1.0 z h.0) o.1 q.1.3);
              x = h.5;
              h = h.6;
              y = h.7;
              k = h.8;
              left_range = h.9;
              right_range = h.10;
              lo = lo;
              hi = hi;
              range = h.11;
              is = refl;
            },
          ))

-- what a canonical list says follows
appended : (xs ys : List Atom) (i : ℕ) (f : Atom) → slice_get (xs ++ ys) i ≡ Some f → Among xs f ⊎ Among ys f
appended [] ys i f e = inr (i, e)
appended (x ∷ xs) ys zero f e = inl (zero, e)
appended (x ∷ xs) ys (suc i) f e = later (appended xs ys i f e)
  where
    later : Among xs f ⊎ Among ys f → Among (x ∷ xs) f ⊎ Among ys f
    later (inl h) = inl (suc h.0, h.1)
    later (inr h) = inr h

contains_from : (xs : List Atom) (f : Atom) → Among xs f → Contains xs f
contains_from xs f m = (m.0, slice_get_within xs m.0 f m.1, get_or_from_slice_get xs m.0 f f m.1)

listed_follows : (p : Pure) (list : List Atom) → (IsFalse p → ⊥) → IsCanonical p list → (l m : NodeId) (c : ℤ) → Among list (Ne l m c) → Follows p (Ne l m c)
listed_follows p list nf (inl x) l m c h = absurd (nf x.0)
listed_follows p list nf (inr x) l m c h =
    let k = x.1 in
    elim (appended k.ranges (k.equalities ++ k.differences) h.0 (Ne l m c) (subst (λ (z : List Atom). slice_get z h.0 ≡ Some (Ne l m c)) k.together h.1)) [
      | inl y ↦ absurd ((k.ranges_listed.exact (Ne l m c)).0 (contains_from k.ranges (Ne l m c) y))
      | inr y ↦ elim (appended k.equalities k.differences y.0 (Ne l m c) y.1) [
        | inl z ↦ absurd ((k.equalities_listed.exact (Ne l m c)).0 (contains_from k.equalities (Ne l m c) z))
        | inr z ↦ (let d = (k.differences_listed.exact (Ne l m c)).0 (contains_from k.differences (Ne l m c) z) in d.3)
      ]
    ]

-- all steps
module _ (left right : Pure) (pairs : Pairs) (left_list right_list : List Atom) (round : ℕ) (thresholds : List ℤ) where
  abbrev sides_of : Sides
  sides_of = record { left = left; right = right; pairs = pairs; left_list = left_list; right_list = right_list; round = round; thresholds = thresholds }

  module _ (nl : IsFalse left → ⊥) (nr : IsFalse right → ⊥) (lc : IsCanonical left left_list) (rc : IsCanonical right right_list) (ready : AreJoinable left right pairs) (a b c d e g : Pure) (start : HasAll left right pairs a)
      (one : Gains (Ranges sides_of nl nr) a b) (two : Gains (Equalities sides_of nl nr) b c) (three : Gains (Differences sides_of nl nr) c d)
      (four : Gains (Listed sides_of nl nr left_list right pairs) d e) (five : Gains (Listed sides_of nl nr right_list left (parts.turned pairs)) e g) where
    abbrev Rest4 : Atom → Type 0
    Rest4 f = Listed sides_of nl nr left_list right pairs f ⊎ Listed sides_of nl nr right_list left (parts.turned pairs) f

    gains_four : Gains Rest4 d g
    gains_four = gains_both (Listed sides_of nl nr left_list right pairs) (Listed sides_of nl nr right_list left (parts.turned pairs)) Rest4 d e g (λ f h. h) (λ f h. h) four five

    abbrev Rest3 : Atom → Type 0
    Rest3 f = Differences sides_of nl nr f ⊎ Rest4 f

    gains_three : Gains Rest3 c g
    gains_three = gains_both (Differences sides_of nl nr) Rest4 Rest3 c d g (λ f h. h) (λ f h. h) three gains_four

    abbrev Rest2 : Atom → Type 0
    Rest2 f = Equalities sides_of nl nr f ⊎ Rest3 f

    gains_two : Gains Rest2 b g
    gains_two = gains_both (Equalities sides_of nl nr) Rest3 Rest2 b c g (λ f h. h) (λ f h. h) two gains_three

    gains_all : Gains (All5 sides_of nl nr) a g
    gains_all = gains_both (Ranges sides_of nl nr) Rest2 (All5 sides_of nl nr) a b g (λ f h. h) (λ f h. h) one gains_two

    none_written : (f : Atom) → Among a.written f → ⊥
    none_written f m = let h : slice_get [] m.0 ≡ Some f = subst (λ (z : List Atom). slice_get z m.0 ≡ Some f) start.written m.1 in cc

    joint_kinds : AreJointKinds left right pairs g.kinds
    joint_kinds = subst (λ (z : Kinds). AreJointKinds left right pairs z) (sym gains_all.kinds) start.kinds

    pub joined : IsJoin left right pairs round thresholds g
    joined = record {
      left_list = left_list;
      right_list = right_list;
      left_canonical = lc;
      right_canonical = rc;
      kinds = joint_kinds;
      starts = gains_all.starts ∙ start.starts;
      sound = λ f m. elim (gains_all.from f m) [
        | inl x ↦ absurd (none_written f x)
        | inr x ↦ (
          subst (λ (z : Kinds). IsWellFormed z f) (sym gains_all.kinds) x.0,
          all_sound sides_of nl nr g.kinds joint_kinds ready.0 (listed_follows left left_list nl lc) (listed_follows right right_list nr rc) f x.1,
        )
      ];
      complete = complete sides_of nl nr g.kinds joint_kinds ready.0 (listed_follows left left_list nl lc) (listed_follows right right_list nr rc) g refl
          (λ f w h. gains_all.added f (subst (λ (z : Kinds). IsWellFormed z f) gains_all.kinds w) h);
    }
