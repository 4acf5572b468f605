-- Lists of things that each have a part.
use Rattle.std.proofs.Common.{◌≡◌, ℕ, zero, suc, Some, List, [], ◌∷◌, ◌++◌, remove, slice_get, refl, sym, subst}
use Rattle.std.specs.List.{AllByRecursion}
use Rattle.mc_flow.specs.Heap.Heap.{Region}
use Rattle.mc_flow.specs.Heap.Parts.{Split, IsEmpty, Star, StarAt}
use Rattle.mc_flow.proofs.HeapLemmas.Splits.{split_turned, split_left, split_right, split_empty, split_whole, nothing, nothing-IsEmpty}

module _ {A : Type 0} where
  -- by a weaker meaning
  pub star_map : (M N : A → Region → Type 0) → ((x : A) (h : Region) → M x h → N x h) → (xs : List A) (h : Region) → Star M xs h → Star N xs h
  star_map M N f [] h s = s
  star_map M N f (x ∷ xs) h s = (s.0, s.1, s.2, f x s.0 s.3, star_map M N f xs s.1 s.4)

  pub star_at_map : (M N S T : A → Region → Type 0) → ((x : A) (h : Region) → M x h → N x h) → ((x : A) (h : Region) → S x h → T x h) → (i : ℕ) (xs : List A) (h : Region) → StarAt M S i xs h → StarAt N T i xs h
  star_at_map M N S T f g i [] h s = s
  star_at_map M N S T f g zero (x ∷ xs) h s = (s.0, s.1, s.2, g x s.0 s.3, star_map M N f xs s.1 s.4)
  star_at_map M N S T f g (suc i) (x ∷ xs) h s = (s.0, s.1, s.2, f x s.0 s.3, star_at_map M N S T f g i xs s.1 s.4)

  -- a region more goes to the part of the thing at the place, and it is then as the others are
  pub star_fill : (M S : A → Region → Type 0) (r : Region) → ((x : A) (l h : Region) → Split h l r → S x l → M x h) → (i : ℕ) (xs : List A) (c m : Region) → Split m c r → StarAt M S i xs c → Star M xs m
  star_fill M S r f i [] c m q s = absurd s
  star_fill M S r f zero (x ∷ xs) c m q s =
      let w = split_right q (split_turned s.2) in
      (w.0, s.1, split_turned w.2, f x s.0 w.0 w.1 s.3, s.4)
  star_fill M S r f (suc i) (x ∷ xs) c m q s =
      let w = split_right q s.2 in
      (s.0, w.0, w.2, s.3, star_fill M S r f i xs s.1 w.0 w.1 s.4)

  -- the same, where it then has another meaning
  pub star_at_fill : (M S T : A → Region → Type 0) (r : Region) → ((x : A) (l h : Region) → Split h l r → S x l → T x h) → (i : ℕ) (xs : List A) (c m : Region) → Split m c r → StarAt M S i xs c → StarAt M T i xs m
  star_at_fill M S T r f i [] c m q s = absurd s
  star_at_fill M S T r f zero (x ∷ xs) c m q s =
      let w = split_right q (split_turned s.2) in
      (w.0, s.1, split_turned w.2, f x s.0 w.0 w.1 s.3, s.4)
  star_at_fill M S T r f (suc i) (x ∷ xs) c m q s =
      let w = split_right q s.2 in
      (s.0, w.0, w.2, s.3, star_at_fill M S T r f i xs s.1 w.0 w.1 s.4)

  pub star_append : (M : A → Region → Type 0) (xs ys : List A) (h l r : Region) → Split h l r → Star M xs l → Star M ys r → Star M (xs ++ ys) h
  star_append M [] ys h l r q s t = subst (λ z. Star M ys z) (sym (split_empty s q)) t
  star_append M (x ∷ xs) ys h l r q s t =
      let w = split_right q s.2 in
      (s.0, w.0, w.2, s.3, star_append M xs ys w.0 s.1 r w.1 s.4 t)

  -- a thing with a part of its own joins the list at its end
  pub star_push : (M : A → Region → Type 0) (xs : List A) (y : A) (h l r : Region) → Split h l r → Star M xs l → M y r → Star M (xs ++ y ∷ []) h
  star_push M xs y h l r q s m =
      star_append M xs (y ∷ []) h l r q s (r, nothing, split_turned (split_whole r nothing-IsEmpty), m, nothing-IsEmpty)

  -- what holds of the thing at the place by some number
  pub star_at_some : (M : A → Region → Type 0) (T : ℕ → A → Region → Type 0) (i : ℕ) (xs : List A) (h : Region) → StarAt M (λ x g. (k : ℕ) × T k x g) i xs h → (k : ℕ) × StarAt M (T k) i xs h
  star_at_some M T i [] h s = absurd s
  star_at_some M T zero (x ∷ xs) h s = (s.3.0, (s.0, s.1, s.2, s.3.1, s.4))
  star_at_some M T (suc i) (x ∷ xs) h s =
      let w = star_at_some M T i xs s.1 s.4 in
      (w.0, (s.0, s.1, s.2, s.3, w.1))

  -- all things but one, which has an empty part
  pub star_without : (M S : A → Region → Type 0) (x0 : A) → ((g : Region) → IsEmpty g → S x0 g) → (i : ℕ) (xs : List A) (h : Region) → slice_get xs i ≡ Some x0 → Star M (remove xs i) h → StarAt M S i xs h
  star_without M S x0 f i [] h e s = cc
  star_without M S x0 f zero (x ∷ xs) h e s =
      let is : x0 ≡ x = cc in
      (nothing, h, split_whole h nothing-IsEmpty, subst (λ y. S y nothing) is (f nothing nothing-IsEmpty), s)
  star_without M S x0 f (suc i) (x ∷ xs) h e s = (s.0, s.1, s.2, s.3, star_without M S x0 f i xs s.1 e s.4)

  -- one thing and its part, and the others
  pub star_take : (M : A → Region → Type 0) (x0 : A) (i : ℕ) (xs : List A) (h : Region) → slice_get xs i ≡ Some x0 → Star M xs h → (l : Region) × (r : Region) × Split h l r × M x0 l × Star M (remove xs i) r
  star_take M x0 i [] h e s = cc
  star_take M x0 zero (x ∷ xs) h e s =
      let is : x ≡ x0 = cc in
      (s.0, s.1, s.2, subst (λ y. M y s.0) is s.3, s.4)
  star_take M x0 (suc i) (x ∷ xs) h e s =
      let w = star_take M x0 i xs s.1 e s.4 in
      let u = split_left s.2 (split_turned w.2) in
      (w.0, u.0, split_turned u.2, w.3, (s.0, w.1, u.1, s.3, w.4))

  -- by a meaning that follows where each thing has P
  pub star_map_all : (M N : A → Region → Type 0) (P : A → Type 0) → ((x : A) (h : Region) → P x → M x h → N x h) → (xs : List A) (h : Region) → AllByRecursion P xs → Star M xs h → Star N xs h
  star_map_all M N P f [] h a s = s
  star_map_all M N P f (x ∷ xs) h a s = (s.0, s.1, s.2, f x s.0 a.0 s.3, star_map_all M N P f xs s.1 a.1 s.4)

  -- the thing at the place is there, and has its meaning somewhere
  pub star_at_get : (M S : A → Region → Type 0) (i : ℕ) (xs : List A) (h : Region) → StarAt M S i xs h → (x : A) × (g : Region) × (slice_get xs i ≡ Some x) × S x g
  star_at_get M S i [] h s = absurd s
  star_at_get M S zero (x ∷ xs) h s = (x, s.0, refl, s.3)
  star_at_get M S (suc i) (x ∷ xs) h s = star_at_get M S i xs s.1 s.4
