-- Nodes that rise, with their kinds, are one list where they are the same nodes.
use Rattle.std.proofs.Common.{◌≡◌, ◌⊎◌, ◌<◌, ◌≤◌, ℕ, suc, [], ◌∷◌, Some, None, refl, sym, ap, subst, ◌∙◌, inl, inr, arith}
use Rattle.mc_base.specs.declared.ids.NodeId.{NodeId}
use Rattle.mc_base.specs.declared.plain.Kind.{Kind}
use Rattle.mc_pure.specs.Pure.{Kinds, Pure, kind_of}
use Rattle.mc_pure.specs.Nodes.{RiseFrom}
use Rattle.mc_pure.proofs.Changing.{same_node, number}
use Rattle.mc_pure.proofs.Placing.{Entry, here_kind, later_kind}
use Rattle.mc_pure_ops.specs.Join.Joint.{Pairs, AreJointKinds}
use Rattle.mc_pure_ops.proofs.JoinLemmas.Sorted.{below_none}

pub order : (m n : ℕ) → (m < n) ⊎ ((m ≡ n) ⊎ (n < m))
order m n = grind arith

some_kind : {x y : Kind} → Some x ≡ Some y → x ≡ y
some_kind e = cc

none_some : (kind : Kind) → None ≡ Some kind → ⊥
none_some kind e = cc

-- a node with a kind is not below the others
not_below : (low : ℕ) (kinds : Kinds) → RiseFrom low kinds → (n : NodeId) (kind : Kind) → kind_of kinds n ≡ Some kind → low ≤ n.0
not_below low kinds r n kind e = elim (order n.0 low) [
  | inl less ↦ absurd (none_some kind (sym (below_none low kinds n r less) ∙ e))
  | inr other ↦ elim other [ inl same ↦ omega arith | inr more ↦ omega arith ]
]

entry_same : (x y : Entry) → x.0 ≡ y.0 → x.1 ≡ y.1 → x ≡ y
entry_same x y p q = ap (λ (n : NodeId). let e : Entry = (n, x.1) in e) p ∙ ap (λ (k : Kind). let e : Entry = (y.0, k) in e) q

-- all of these nodes are among those, with their kinds
abbrev Within : Kinds → Kinds → Type 0
Within xs ys = (n : NodeId) (kind : Kind) → kind_of xs n ≡ Some kind → kind_of ys n ≡ Some kind

rest_within : (low : ℕ) (x y : Entry) (xs ys : Kinds) → RiseFrom (suc x.0.0) xs → x.0 ≡ y.0 → Within (x ∷ xs) (y ∷ ys) → Within xs ys
rest_within low x y xs ys r same within n kind e =
    let above = not_below (suc x.0.0) xs r n kind e in
    sym (later_kind y ys n (λ q. other (same ∙ q) above)) ∙ within n kind (later_kind x xs n (λ q. other q above) ∙ e)
  where
    other : x.0 ≡ n → suc x.0.0 ≤ n.0 → ⊥
    other q above = let is : x.0.0 ≡ n.0 = number q in omega arith

-- the first is not below that of the others
not_less : (x y : Entry) (xs ys : Kinds) → RiseFrom (suc y.0.0) ys → x.0.0 < y.0.0 → Within (x ∷ xs) (y ∷ ys) → ⊥
not_less x y xs ys r less within =
    none_some x.1 (sym (below_none y.0.0 (y ∷ ys) x.0 (omega arith, r) less) ∙ within x.0 x.1 (here_kind x xs x.0 refl))

pub rise_one : (low : ℕ) (xs ys : Kinds) → RiseFrom low xs → RiseFrom low ys → Within xs ys → Within ys xs → xs ≡ ys
rise_one low [] [] r q to from = refl
rise_one low [] (y ∷ ys) r q to from = absurd (none_some y.1 (from y.0 y.1 (here_kind y ys y.0 refl)))
rise_one low (x ∷ xs) [] r q to from = absurd (none_some x.1 (to x.0 x.1 (here_kind x xs x.0 refl)))
rise_one low (x ∷ xs) (y ∷ ys) r q to from =
    elim (order x.0.0 y.0.0) [
      | inl less ↦ absurd (not_less x y xs ys q.1 less to)
      | inr other ↦ elim other [
        | inr less ↦ absurd (not_less y x ys xs r.1 less from)
        | inl same ↦ both (same_node x.0 y.0 same)
            (rise_one (suc x.0.0) xs ys r.1 (subst (λ (n : ℕ). RiseFrom (suc n) ys) (sym same) q.1)
            (rest_within low x y xs ys r.1 (same_node x.0 y.0 same) to) (rest_within low y x ys xs q.1 (sym (same_node x.0 y.0 same)) from))
      ]
    ]
  where
    both : x.0 ≡ y.0 → xs ≡ ys → (x ∷ xs) ≡ (y ∷ ys)
    both same rest =
        let kinds : x.1 ≡ y.1 = some_kind (sym (sym (here_kind y ys x.0 (sym same)) ∙ to x.0 x.1 (here_kind x xs x.0 refl))) in
        ap (λ (e : Entry). e ∷ xs) (entry_same x y same kinds) ∙ ap (λ (ks : Kinds). y ∷ ks) rest

-- pairs have one list of kinds
pub joint_once : (left right : Pure) (pairs : Pairs) (xs ys : Kinds) → AreJointKinds left right pairs xs → AreJointKinds left right pairs ys → xs ≡ ys
joint_once left right pairs xs ys a b =
    rise_one 1 xs ys a.rise b.rise (λ n kind e. (b.exact n kind).1 ((a.exact n kind).0 e)) (λ n kind e. (a.exact n kind).1 ((b.exact n kind).0 e))
