-- The nodes of what a join gives, with their kinds, are its pairs.
use Rattle.std.proofs.Common.{◌≡◌, ◌≢◌, ◌+◌, ℕ, zero, suc, [], ◌∷◌, Some, slice_get, refl, sym, ◌∙◌, ap, subst, inl, inr, arith}
use Rattle.std.specs.List.{AllByRecursion}
use Rattle.mc_base.specs.declared.ids.NodeId.{NodeId}
use Rattle.mc_base.specs.declared.plain.Kind.{Kind}
use Rattle.mc_base.specs.declared.plain.Kind.TheVariants.{Ptr}
use Rattle.mc_base.specs.Nodes.{null}
use Rattle.mc_pure.specs.Pure.{Kinds, Pure, HasKind, kind_of}
use Rattle.mc_pure.specs.Nodes.{RiseFrom}
use Rattle.mc_pure_ops.specs.Join.Joint.{Pairs, StandsFor, HaveOneKind, AreJoinable, IsKindOfPair, AreJointKinds}
use Rattle.mc_pure.proofs.Changing.{decide}
use Rattle.mc_pure.proofs.Placing.{here_kind, later_kind}
use Rattle.mc_state.specs.State.{pure_of}
use Rattle.mc_joins.specs.Joinings.{Joining, Pair}
use Rattle.mc_joins.specs.Whole.{kinds_from}
use Rattle.mc_joins.proofs.JointKinds.{Proper, NoNull, pair_kind, kinds_step}

some_pair : {x y : Pair} → Some x ≡ Some y → x ≡ y
some_pair e = cc

some_kind : {x y : Kind} → Some x ≡ Some y → x ≡ y
some_kind e = cc

module _ (j : Joining) (none : NoNull j.left.state.kinds) where
  abbrev lk : Kinds
  lk = j.left.state.kinds

  abbrev rk : Kinds
  rk = j.right.state.kinds

  abbrev numbered : ℕ → NodeId
  numbered n = record { 0 = n }

  rises : (n : ℕ) (ps : Pairs) → AllByRecursion (Proper lk rk) ps → RiseFrom n (kinds_from j n ps)
  rises n [] a = tt
  rises n (p ∷ ps) a =
      let own = a.0.0.0 in
      let step = kinds_step j none n p ps own (pair_kind j none p own a.0.0.1 a.0.0.2 a.0.1) in
      subst (RiseFrom n) (sym step) (omega arith, rises (suc n) ps a.1)

  -- the pair of a node, from a place on
  record PairOf (n : ℕ) (ps : Pairs) (m : NodeId) (kind : Kind) : Type 0 where
    place : ℕ
    pair : Pair
    is : m.0 ≡ n + place
    there : slice_get ps place ≡ Some pair
    left : HasKind lk kind pair.0
    right : HasKind rk kind pair.1
    proper : pair.0.0 ≡ 0 → pair.1.0 ≡ 0 → ⊥

  pair_of : (n : ℕ) (ps : Pairs) → AllByRecursion (Proper lk rk) ps → (m : NodeId) (kind : Kind) → kind_of (kinds_from j n ps) m ≡ Some kind → PairOf n ps m kind
  pair_of n [] a m kind e = absurd (cc e)
  pair_of n (p ∷ ps) a m kind e =
      let own = a.0.0.0 in
      let step = kinds_step j none n p ps own (pair_kind j none p own a.0.0.1 a.0.0.2 a.0.1) in
      let here : kind_of ((numbered n, own) ∷ kinds_from j (suc n) ps) m ≡ Some kind = subst (λ (ks : Kinds). kind_of ks m ≡ Some kind) step e in
      elim (decide (numbered n) m) [
        | inl same ↦
            let kinds : own ≡ kind = some_kind (sym (here_kind (numbered n, own) (kinds_from j (suc n) ps) m same) ∙ here) in
            let number : n ≡ m.0 = ap (λ (x : NodeId). x.0) same in
            record {
              place = 0;
              pair = p;
              is = omega arith;
              there = refl;
              left = subst (λ (k : Kind). HasKind lk k p.0) kinds a.0.0.1;
              right = subst (λ (k : Kind). HasKind rk k p.1) kinds a.0.0.2;
              proper = a.0.1;
            }
        | inr other ↦
            let rest = pair_of (suc n) ps a.1 m kind (sym (later_kind (numbered n, own) (kinds_from j (suc n) ps) m other) ∙ here) in
            let is = rest.is in
            record { place = suc rest.place; pair = rest.pair; is = omega arith; there = rest.there; left = rest.left; right = rest.right; proper = rest.proper }
      ]

  kind_at : (n : ℕ) (ps : Pairs) → AllByRecursion (Proper lk rk) ps → (i : ℕ) (p : Pair) → slice_get ps i ≡ Some p
      → (kind : Kind) × (kind_of (kinds_from j n ps) (numbered (n + i)) ≡ Some kind) × HasKind lk kind p.0 × HasKind rk kind p.1
  kind_at n [] a i p e = absurd (cc e)
  kind_at n (q ∷ ps) a zero p e =
      let own = a.0.0.0 in
      let step = kinds_step j none n q ps own (pair_kind j none q own a.0.0.1 a.0.0.2 a.0.1) in
      let same : q ≡ p = some_pair e in
      let number : n + 0 ≡ n = omega arith in (
        own,
        subst (λ (ks : Kinds). kind_of ks (numbered (n + 0)) ≡ Some own) (sym step)
            (here_kind (numbered n, own) (kinds_from j (suc n) ps) (numbered (n + 0)) (ap numbered (sym number))),
        subst (λ (x : Pair). HasKind lk own x.0) same a.0.0.1,
        subst (λ (x : Pair). HasKind rk own x.1) same a.0.0.2,
      )
  kind_at n (q ∷ ps) a (suc i) p e =
      let own = a.0.0.0 in
      let step = kinds_step j none n q ps own (pair_kind j none q own a.0.0.1 a.0.0.2 a.0.1) in
      let rest = kind_at (suc n) ps a.1 i p e in
      let number : suc n + i ≡ n + suc i = omega arith in
      let moved : kind_of (kinds_from j (suc n) ps) (numbered (n + suc i)) ≡ Some rest.0 = subst (λ (x : ℕ). kind_of (kinds_from j (suc n) ps) (numbered x) ≡ Some rest.0) number rest.1 in (
        rest.0,
        subst (λ (ks : Kinds). kind_of ks (numbered (n + suc i)) ≡ Some rest.0) (sym step)
            (later_kind (numbered n, own) (kinds_from j (suc n) ps) (numbered (n + suc i)) (λ same. differs n i (ap (λ (x : NodeId). x.0) same)) ∙ moved),
        rest.2,
        rest.3,
      )
    where
      differs : (n i : ℕ) → n ≡ n + suc i → ⊥
      differs n i e = omega arith

  module _ (rest : Pairs) (front : j.pairs ≡ (null, null) ∷ rest) (proper : AllByRecursion (Proper lk rk) rest) where
    abbrev left : Pure
    left = pure_of j.left.state

    abbrev right : Pure
    right = pure_of j.right.state

    at_front : (i : ℕ) (p : Pair) → slice_get ((null, null) ∷ rest) i ≡ Some p → slice_get j.pairs i ≡ Some p
    at_front i p e = ap (λ (ps : Pairs). slice_get ps i) front ∙ e

    from_front : (i : ℕ) (p : Pair) → slice_get j.pairs i ≡ Some p → slice_get ((null, null) ∷ rest) i ≡ Some p
    from_front i p e = ap (λ (ps : Pairs). slice_get ps i) (sym front) ∙ e

    one_kind : (i : ℕ) (l r : NodeId) → slice_get ((null, null) ∷ rest) i ≡ Some (l, r) → HaveOneKind left right l r
    one_kind zero l r e =
        let both : Pair = (null, null) in
        let own : Pair = (l, r) in
        let same : both ≡ own = some_pair e in
        (Ptr, inl (sym (ap (λ (p : Pair). p.0) same)), inl (sym (ap (λ (p : Pair). p.1) same)))
    one_kind (suc i) l r e = let k = kind_at 1 rest proper i (l, r) e in (k.0, k.2, k.3)

    pub joinable : AreJoinable left right j.pairs
    joinable = (at_front 0 (null, null) refl, λ n l r e. one_kind n.0 l r (from_front n.0 (l, r) e))

    -- the kind of a pair is that of its node other than 0
    pair_has : (l r : NodeId) (kind : Kind) → HasKind lk kind l → HasKind rk kind r → (l.0 ≡ 0 → r.0 ≡ 0 → ⊥) → IsKindOfPair left right l r kind
    pair_has l r kind hl hr other = elim (decide l null) [
      | inr not_null ↦ inl (not_null, kind_by lk kind l not_null hl)
      | inl e ↦ inr ((λ d. other (ap (λ (n : NodeId). n.0) e) (ap (λ (n : NodeId). n.0) d)), kind_by rk kind r (λ d. other (ap (λ (n : NodeId). n.0) e) (ap (λ (n : NodeId). n.0) d)) hr)
    ]
      where
        kind_by : (ks : Kinds) (kind : Kind) (n : NodeId) → n ≢ null → HasKind ks kind n → kind_of ks n ≡ Some kind
        kind_by ks kind n other (inl e) = absurd (other e)
        kind_by ks kind n other (inr e) = e

    has_pair : (l r : NodeId) (kind own : Kind) → IsKindOfPair left right l r kind → HasKind lk own l → HasKind rk own r → own ≡ kind
    has_pair l r kind own (inl k) hl hr = elim hl [ inl e ↦ absurd (k.0 e) | inr e ↦ some_kind (sym e ∙ k.1) ]
    has_pair l r kind own (inr k) hl hr = elim hr [ inl e ↦ absurd (k.0 e) | inr e ↦ some_kind (sym e ∙ k.1) ]

    kinds_to : (n : NodeId) (kind : Kind) → kind_of (kinds_from j 1 rest) n ≡ Some kind → (n ≢ null) × ((l r : NodeId) × StandsFor j.pairs n l r × IsKindOfPair left right l r kind)
    kinds_to n kind e =
        let p = pair_of 1 rest proper n kind e in
        let is = p.is in
        let place : n.0 ≡ suc p.place = omega arith in (
          λ z. not_zero n p.place place z,
          (
            p.pair.0,
            p.pair.1,
            subst (λ (i : ℕ). slice_get j.pairs i ≡ Some (p.pair.0, p.pair.1)) (sym place) (at_front (suc p.place) p.pair p.there),
            pair_has p.pair.0 p.pair.1 kind p.left p.right p.proper,
          ),
        )
      where
        not_zero : (n : NodeId) (i : ℕ) → n.0 ≡ suc i → n ≡ null → ⊥
        not_zero n i place z = let number : n.0 ≡ 0 = ap (λ (m : NodeId). m.0) z in omega arith

    kinds_back : (n : NodeId) (kind : Kind) → (i : ℕ) → n.0 ≡ i → n ≢ null → (l r : NodeId) → slice_get ((null, null) ∷ rest) i ≡ Some (l, r) → IsKindOfPair left right l r kind
        → kind_of (kinds_from j 1 rest) n ≡ Some kind
    kinds_back n kind zero place other l r e k = absurd (other (ap numbered place))
    kinds_back n kind (suc i) place other l r e k =
        let here = kind_at 1 rest proper i (l, r) e in
        let own = has_pair l r kind here.0 k here.2 here.3 in
        let is : n.0 ≡ 1 + i = omega arith in
        subst (λ (m : NodeId). kind_of (kinds_from j 1 rest) m ≡ Some kind) (sym (ap numbered is)) (here.1 ∙ ap (λ (x : Kind). Some x) own)

    pub joint_kinds : AreJointKinds left right j.pairs (kinds_from j 1 rest)
    joint_kinds = record {
      rise = rises 1 rest proper;
      exact = λ n kind. (kinds_to n kind, λ w. kinds_back n kind n.0 refl w.0 w.1.0 w.1.1 (from_front n.0 (w.1.0, w.1.1) w.1.2) w.1.3);
    }
