-- Lists of nodes with their kinds.
use Rattle.std.proofs.Common.{◌≡◌, ◌≢◌, ℕ, zero, suc, ◌<◌, ◌≤◌, ◌⊎◌, [], ◌∷◌, Some, None, slice_get, map, refl, sym, ◌∙◌, ap, subst, inl, inr, arith}
use Rattle.mc_base.specs.declared.ids.NodeId.{NodeId}
use Rattle.mc_base.specs.declared.plain.Kind.{Kind}
use Rattle.mc_pure.specs.Pure.{Kinds, kind_of}
use Rattle.mc_pure.specs.Rows.{nodes_of}
use Rattle.mc_pure.specs.Nodes.{RiseFrom}
use Rattle.mc_pure.specs.Whole.{kinds_without}
use Rattle.mc_pure.proofs.Changing.{number, same_false, same_node, same_true}
use Rattle.mc_pure.proofs.Placing.{Entry, here_kind, later_kind}
use Rattle.mc_pure_ops.proofs.JoinLemmas.Sorted.{below_none, decide, not_none, same, some_same}

-- the nodes with kinds are all nodes but 0
kind_place : (kinds : Kinds) (n : NodeId) (kind : Kind) → kind_of kinds n ≡ Some kind → (i : ℕ) × (slice_get (map (λ k. k.0) kinds) i ≡ Some n)
kind_place [] n kind e = cc
kind_place (k ∷ kinds) n kind e = elim (decide k.0 n) [
  | inl x ↦ (zero, ap (λ (z : NodeId). Some z) x)
  | inr x ↦ (let h = kind_place kinds n kind (sym (later_kind k kinds n x) ∙ e) in (suc h.0, h.1))
]

pub node_place : (kinds : Kinds) (n : NodeId) (kind : Kind) → kind_of kinds n ≡ Some kind → (i : ℕ) × (slice_get (nodes_of kinds) i ≡ Some n)
node_place kinds n kind e = let h = kind_place kinds n kind e in (suc h.0, h.1)

-- without a node
drop_here : (k : Entry) (kinds : Kinds) (n : NodeId) → k.0 ≡ n → kinds_without (k ∷ kinds) n ≡ kinds_without kinds n
drop_here k kinds n e = rw (same_true k.0 n e) refl

drop_later : (k : Entry) (kinds : Kinds) (n : NodeId) → k.0 ≢ n → kinds_without (k ∷ kinds) n ≡ k ∷ kinds_without kinds n
drop_later k kinds n e = rw (same_false k.0 n e) refl

pub lower : (low other : ℕ) (kinds : Kinds) → other ≤ low → RiseFrom low kinds → RiseFrom other kinds
lower low other [] l r = tt
lower low other (k ∷ kinds) l r = let x = r.0 in (omega arith, r.1)

pub rise_without : (low : ℕ) (kinds : Kinds) (n : NodeId) → RiseFrom low kinds → RiseFrom low (kinds_without kinds n)
rise_without low [] n r = tt
rise_without low (k ∷ kinds) n r = elim (decide k.0 n) [
  | inl x ↦ (let y = r.0 in subst (λ (z : Kinds). RiseFrom low z) (sym (drop_here k kinds n x)) (lower (suc k.0.0) low (kinds_without kinds n) (omega arith) (rise_without (suc k.0.0) kinds n r.1)))
  | inr x ↦ subst (λ (z : Kinds). RiseFrom low z) (sym (drop_later k kinds n x)) (r.0, rise_without (suc k.0.0) kinds n r.1)
]

pub without_here : (kinds : Kinds) (n : NodeId) → kind_of (kinds_without kinds n) n ≡ None
without_here [] n = refl
without_here (k ∷ kinds) n = elim (decide k.0 n) [
  | inl x ↦ ap (λ (z : Kinds). kind_of z n) (drop_here k kinds n x) ∙ without_here kinds n
  | inr x ↦ ap (λ (z : Kinds). kind_of z n) (drop_later k kinds n x) ∙ (later_kind k (kinds_without kinds n) n x ∙ without_here kinds n)
]

pub without_other : (kinds : Kinds) (n m : NodeId) → n ≢ m → kind_of (kinds_without kinds n) m ≡ kind_of kinds m
without_other [] n m d = refl
without_other (k ∷ kinds) n m d = elim (decide k.0 n) [
  | inl x ↦ ap (λ (z : Kinds). kind_of z m) (drop_here k kinds n x) ∙ (without_other kinds n m d ∙ sym (later_kind k kinds m (λ y. d (sym x ∙ y))))
  | inr x ↦ ap (λ (z : Kinds). kind_of z m) (drop_later k kinds n x) ∙ elim (decide k.0 m) [
    | inl y ↦ here_kind k (kinds_without kinds n) m y ∙ sym (here_kind k kinds m y)
    | inr y ↦ later_kind k (kinds_without kinds n) m y ∙ (without_other kinds n m d ∙ sym (later_kind k kinds m y))
  ]
]

-- two ascending lists with the same kinds are one
abbrev pub AreSame : Kinds → Kinds → Type 0
AreSame xs ys = (n : NodeId) → kind_of xs n ≡ kind_of ys n

heads : (x y : Entry) (xs ys : Kinds) → RiseFrom (suc x.0.0) xs → RiseFrom (suc y.0.0) ys → AreSame (x ∷ xs) (y ∷ ys) → x.0.0 < y.0.0 → ⊥
heads x y xs ys r s h l =
    let a : kind_of (y ∷ ys) x.0 ≡ None = later_kind y ys x.0 (λ e. let z = number e in omega arith) ∙ below_none (suc y.0.0) ys x.0 s (omega arith) in
    let b : Some x.1 ≡ None = sym (here_kind x xs x.0 refl) ∙ (h x.0 ∙ a) in
    cc

same_heads : (x y : Entry) (xs ys : Kinds) → RiseFrom (suc x.0.0) xs → RiseFrom (suc y.0.0) ys → AreSame (x ∷ xs) (y ∷ ys) → x.0 ≡ y.0
same_heads x y xs ys r s h = elim (sides x.0.0 y.0.0) [
  | inl a ↦ absurd (heads x y xs ys r s h a)
  | inr a ↦ elim a [
    | inl b ↦ same_node x.0 y.0 b
    | inr b ↦ absurd (heads y x ys xs s r (λ n. sym (h n)) b)
  ]
]
  where
    sides : (a b : ℕ) → (a < b) ⊎ ((a ≡ b) ⊎ (b < a))
    sides a b = grind arith

entry : (a b : NodeId) (k l : Kind) → a ≡ b → k ≡ l → (let x : Entry = (a, k) in let y : Entry = (b, l) in x ≡ y)
entry a b k l e f = rw (e, f) refl

pub one_list : (low : ℕ) (xs ys : Kinds) → RiseFrom low xs → RiseFrom low ys → AreSame xs ys → xs ≡ ys
one_list low [] [] r s h = refl
one_list low [] (y ∷ ys) r s h = let e : None ≡ Some y.1 = h y.0 ∙ here_kind y ys y.0 refl in absurd (not_none e)
one_list low (x ∷ xs) [] r s h = let e : None ≡ Some x.1 = sym (h x.0) ∙ here_kind x xs x.0 refl in absurd (not_none e)
one_list low (x ∷ xs) (y ∷ ys) r s h = both same (one_list (suc x.0.0) xs ys r.1 (subst (λ (z : NodeId). RiseFrom (suc z.0) ys) (sym same) s.1) rest)
  where
    same : x.0 ≡ y.0
    same = same_heads x y xs ys r.1 s.1 h

    rest : AreSame xs ys
    rest n = elim (decide x.0 n) [
      | inl e ↦ below_none (suc x.0.0) xs n r.1 (let z = number e in omega arith) ∙ sym (below_none (suc y.0.0) ys n s.1 (let z = number e in let w = number same in omega arith))
      | inr e ↦ sym (later_kind x xs n e) ∙ (h n ∙ later_kind y ys n (λ z. e (same ∙ z)))
    ]

    both : x.0 ≡ y.0 → xs ≡ ys → x ∷ xs ≡ y ∷ ys
    both a b =
        let k : x.1 ≡ y.1 = some_same (sym (here_kind x xs x.0 refl) ∙ (h x.0 ∙ here_kind y ys x.0 (sym a))) in
        let e = entry x.0 y.0 x.1 y.1 a k in
        cc
