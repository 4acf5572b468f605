-- The first such node taken away.
use Rattle.std.proofs.Common.{◌≡◌, ◌≢◌, ℕ, zero, suc, ◌<◌, ◌≤◌, List, [], ◌∷◌, Some, slice_get, get_or, length, refl, ap, inl, inr, arith}
use Rattle.std.specs.List.{remove}
use Rattle.mc_base.specs.declared.ids.NodeId.{NodeId}
use Rattle.mc_pure.specs.Firsts.{without_first}
use Rattle.mc_pure.proofs.Changing.{same_true, same_false, same_node, decide}

pub Differ : List NodeId → NodeId → ℕ → Type 0
Differ xs a n = (i : ℕ) (x : NodeId) → i < n → slice_get xs i ≡ Some x → x.0 ≢ a.0

found : (xs : List NodeId) (a : NodeId) (i : ℕ) (d : NodeId) → i < length xs → ((k : ℕ) (x : NodeId) → k < i → slice_get xs k ≡ Some x → x.0 ≢ a.0) → (get_or xs i d).0 ≡ a.0 → without_first xs a ≡ remove xs i
found [] a i d l b e = absurd (omega arith)
found (x ∷ xs) a zero d l b e = rw (same_true x a (same_node x a e)) refl
found (x ∷ xs) a (suc i) d l b e =
    let h = found xs a i d (omega arith) (λ k y m g. b (suc k) y (omega arith) g) e in
    rw (same_false x a (λ z. b 0 x (omega arith) refl (ap (λ (n : NodeId). n.0) z))) (ap (λ (z : List NodeId). x ∷ z) h)

pub first_found : (xs : List NodeId) (a : NodeId) (i : ℕ) (d : NodeId) → i < length xs → ((k : ℕ) (x : NodeId) → k < i → slice_get xs k ≡ Some x → x.0 ≢ a.0) → (get_or xs i d).0 ≡ a.0 → without_first xs a ≡ remove xs i
first_found xs a i d l b e = found xs a i d l b e

pub none_found : (xs : List NodeId) (a : NodeId) (n : ℕ) → length xs ≤ n → ((k : ℕ) (x : NodeId) → k < n → slice_get xs k ≡ Some x → x.0 ≢ a.0) → without_first xs a ≡ xs
none_found [] a n l b = refl
none_found (x ∷ xs) a zero l b = absurd (omega arith)
none_found (x ∷ xs) a (suc n) l b =
    rw (same_false x a (λ z. b 0 x (omega arith) refl (ap (λ (m : NodeId). m.0) z))) (ap (λ (z : List NodeId). x ∷ z) (none_found xs a n (omega arith) (λ k y m g. b (suc k) y (omega arith) g)))

step : (y x : NodeId) (xs rest : List NodeId) → ((i : ℕ) → slice_get rest i ≡ Some x → (j : ℕ) × (slice_get xs j ≡ Some x)) → (i : ℕ) → slice_get (y ∷ rest) i ≡ Some x → (j : ℕ) × (slice_get (y ∷ xs) j ≡ Some x)
step y x xs rest h zero e = (zero, e)
step y x xs rest h (suc i) e = let k = h i e in (suc k.0, k.1)

pub from_more : (xs : List NodeId) (a : NodeId) (i : ℕ) (x : NodeId) → slice_get (without_first xs a) i ≡ Some x → (j : ℕ) × (slice_get xs j ≡ Some x)
from_more [] a i x e = cc
from_more (y ∷ xs) a i x e = elim (decide y a) [
  | inl s ↦ (suc i, rw (same_true y a s) at e)
  | inr s ↦ step y x xs (without_first xs a) (λ k g. from_more xs a k x g) i (rw (same_false y a s) at e)
]
