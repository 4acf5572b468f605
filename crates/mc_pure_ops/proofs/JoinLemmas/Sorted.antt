-- Lists of nodes with their kinds.
use Rattle.std.proofs.Common.{◌≡◌, ◌≢◌, ℕ, zero, suc, ◌<◌, ◌≤◌, ◌⊎◌, [], ◌∷◌, Some, None, slice_get, nat_lt, true, false, refl, sym, ◌∙◌, ap, subst, inl, inr, arith}
use Rattle.std.proofs.lemmas.Bool.Decides.{nat_tests}
use Rattle.mc_base.specs.declared.ids.NodeId.{NodeId}
use Rattle.mc_base.specs.declared.plain.Kind.{Kind}
use Rattle.mc_base.specs.Nodes.{null}
use Rattle.mc_pure.specs.Pure.{Kinds, kind_of}
use Rattle.mc_pure.specs.Nodes.{RiseFrom, with_kind}
use Rattle.mc_pure.proofs.Changing.{no, number, same_node}
use Rattle.mc_pure.proofs.Placing.{Entry, here_kind, later_kind, less_or}

pub same : (a b : ℕ) → (a ≡ b) ⊎ (a ≢ b)
same a b = grind arith

pub less : (a b : ℕ) → a < b → nat_lt a b ≡ true
less a b l = grind (arith, nat_tests)

pub not_less : (a b : ℕ) → b ≤ a → nat_lt a b ≡ false
not_less a b l = grind (arith, nat_tests)

pub decide : (a b : NodeId) → (a ≡ b) ⊎ (a ≢ b)
decide a b = elim (same a.0 b.0) [ inl x ↦ inl (same_node a b x) | inr x ↦ inr (λ e. x (number e)) ]

pub some_same : {x y : Kind} → Some x ≡ Some y → x ≡ y
some_same e = cc

pub not_none : {x : Kind} → None ≡ Some x → ⊥
not_none e = cc

-- nodes below the least have no kind
pub below_none : (low : ℕ) (kinds : Kinds) (n : NodeId) → RiseFrom low kinds → n.0 < low → kind_of kinds n ≡ None
below_none low [] n r l = refl
below_none low (k ∷ kinds) n r l =
    let x = r.0 in
    later_kind k kinds n (λ e. let z = number e in omega arith) ∙ below_none (suc k.0.0) kinds n r.1 (omega arith)

pub null_none : (kinds : Kinds) → RiseFrom 1 kinds → kind_of kinds null ≡ None
null_none kinds r = below_none 1 kinds null r (omega arith)

-- one more node
pub first_kind : (k : Entry) (kinds : Kinds) (n : NodeId) (kind : Kind) → n.0 < k.0.0 → with_kind (k ∷ kinds) n kind ≡ (n, kind) ∷ k ∷ kinds
first_kind k kinds n kind l = rw (less n.0 k.0.0 l) refl

pub next_kind : (k : Entry) (kinds : Kinds) (n : NodeId) (kind : Kind) → k.0.0 ≤ n.0 → with_kind (k ∷ kinds) n kind ≡ k ∷ with_kind kinds n kind
next_kind k kinds n kind l = rw (not_less n.0 k.0.0 l) refl

pub head_differs : (k : Entry) (kinds : Kinds) (n : NodeId) → kind_of (k ∷ kinds) n ≡ None → k.0 ≢ n
head_differs k kinds n a e = let h : Some k.1 ≡ None = sym (here_kind k kinds n e) ∙ a in cc

pub rest_none : (k : Entry) (kinds : Kinds) (n : NodeId) → kind_of (k ∷ kinds) n ≡ None → kind_of kinds n ≡ None
rest_none k kinds n a = sym (later_kind k kinds n (head_differs k kinds n a)) ∙ a

pub above : (a b : ℕ) → b ≤ a → a ≢ b → suc b ≤ a
above a b l n = omega arith

pub rise_with : (low : ℕ) (kinds : Kinds) (n : NodeId) (kind : Kind) → RiseFrom low kinds → low ≤ n.0 → kind_of kinds n ≡ None → RiseFrom low (with_kind kinds n kind)
rise_with low [] n kind r l a = (l, tt)
rise_with low (k ∷ kinds) n kind r l a = elim (less_or n.0 k.0.0) [
  | inl x ↦ subst (λ (z : Kinds). RiseFrom low z) (sym (first_kind k kinds n kind x)) (l, (omega arith, r.1))
  | inr x ↦ subst (λ (z : Kinds). RiseFrom low z) (sym (next_kind k kinds n kind x))
      (r.0, rise_with (suc k.0.0) kinds n kind r.1 (above n.0 k.0.0 x (λ e. head_differs k kinds n a (sym (same_node n k.0 e)))) (rest_none k kinds n a))
]

pub with_here : (kinds : Kinds) (n : NodeId) (kind : Kind) → kind_of kinds n ≡ None → kind_of (with_kind kinds n kind) n ≡ Some kind
with_here [] n kind a = here_kind (n, kind) [] n refl
with_here (k ∷ kinds) n kind a = elim (less_or n.0 k.0.0) [
  | inl x ↦ ap (λ (z : Kinds). kind_of z n) (first_kind k kinds n kind x) ∙ here_kind (n, kind) (k ∷ kinds) n refl
  | inr x ↦ ap (λ (z : Kinds). kind_of z n) (next_kind k kinds n kind x) ∙ (later_kind k (with_kind kinds n kind) n (head_differs k kinds n a) ∙ with_here kinds n kind (rest_none k kinds n a))
]

pub with_other : (kinds : Kinds) (n m : NodeId) (kind : Kind) → n ≢ m → kind_of (with_kind kinds n kind) m ≡ kind_of kinds m
with_other [] n m kind d = later_kind (n, kind) [] m d
with_other (k ∷ kinds) n m kind d = elim (less_or n.0 k.0.0) [
  | inl x ↦ ap (λ (z : Kinds). kind_of z m) (first_kind k kinds n kind x) ∙ later_kind (n, kind) (k ∷ kinds) m d
  | inr x ↦ ap (λ (z : Kinds). kind_of z m) (next_kind k kinds n kind x) ∙ elim (decide k.0 m) [
    | inl y ↦ here_kind k (with_kind kinds n kind) m y ∙ sym (here_kind k kinds m y)
    | inr y ↦ later_kind k (with_kind kinds n kind) m y ∙ (with_other kinds n m kind d ∙ sym (later_kind k kinds m y))
  ]
]

-- where a node's kind stands
pub kind_place : (kinds : Kinds) (n : NodeId) (kind : Kind) → kind_of kinds n ≡ Some kind → (i : ℕ) × (slice_get kinds i ≡ Some (n, kind))
kind_place [] n kind e = cc
kind_place (k ∷ kinds) n kind e = elim (decide k.0 n) [
  | inl x ↦
      let h : Some k.1 ≡ Some kind = sym (here_kind k kinds n x) ∙ e in
      (zero, entry k.0 n k.1 kind x (some_same h))
  | inr x ↦ (let h = kind_place kinds n kind (sym (later_kind k kinds n x) ∙ e) in (suc h.0, h.1))
]
  where
    entry : (a b : NodeId) (c d : Kind) → a ≡ b → c ≡ d → (let x : Entry = (a, c) in let y : Entry = (b, d) in Some x ≡ Some y)
    entry a b c d p q = rw (p, q)
