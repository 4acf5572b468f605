-- Lists that fit kinds, item by item.
use Rattle.std.proofs.Common.{◌≡◌, ◌<◌, ◌≤◌, ◌+◌, ℕ, suc, List, [], ◌∷◌, Option, Some, None, map, length, get_or, slice_get, drop, refl, sym, ap, subst, arith}
use Rattle.std.proofs.lemmas.List.{drop_more}
use Rattle.std.proofs.Math.ListN.{drop_of_length-le}
use Rattle.mc_base.specs.declared.ids.NodeId.{NodeId}
use Rattle.mc_base.specs.declared.plain.Kind.{Kind}
use Rattle.mc_pure.specs.Pure.{Kinds, HasKind}
use Rattle.mc_state.proofs.Lists.{each_here, each_more}
use Rattle.mc_state.specs.Fits.{HaveKinds, MayHaveKind, MayHaveKinds}

-- ---- one kind for each node

module _ (own : Kinds) where
  pub have_long : (kinds : List Kind) (ns : List NodeId) → HaveKinds own kinds ns → length kinds ≡ length ns
  have_long [] [] h = refl
  have_long [] (n ∷ ns) h = absurd h
  have_long (k ∷ kinds) [] h = absurd h
  have_long (k ∷ kinds) (n ∷ ns) h = ap suc (have_long kinds ns h.1)

  pub have_before : (kinds : List Kind) (ns : List NodeId) (i : ℕ) (d : Kind) (e : NodeId) → i < length kinds → i < length ns → HasKind own (get_or kinds i d) (get_or ns i e) → HaveKinds own (drop (i + 1) kinds) (drop (i + 1) ns) → HaveKinds own (drop i kinds) (drop i ns)
  have_before kinds ns i d e l m q rest = rw (drop_more kinds i d l, drop_more ns i e m) (q, rest)

  pub have_at : (kinds : List Kind) (ns : List NodeId) (i : ℕ) (d : Kind) (e : NodeId) → i < length kinds → i < length ns → HaveKinds own (drop i kinds) (drop i ns) → HasKind own (get_or kinds i d) (get_or ns i e) × HaveKinds own (drop (i + 1) kinds) (drop (i + 1) ns)
  have_at kinds ns i d e l m h =
      let first : HaveKinds own (get_or kinds i d ∷ drop (i + 1) kinds) (drop i ns) = subst (λ (z : List Kind). HaveKinds own z (drop i ns)) (drop_more kinds i d l) h in
      subst (λ (z : List NodeId). HaveKinds own (get_or kinds i d ∷ drop (i + 1) kinds) z) (drop_more ns i e m) first

  pub have_end : (kinds : List Kind) (ns : List NodeId) (i : ℕ) → length kinds ≡ length ns → length kinds ≤ i → HaveKinds own (drop i kinds) (drop i ns)
  have_end kinds ns i same past =
      let other : length ns ≤ i = omega arith in
      rw (drop_of_length-le kinds past, drop_of_length-le ns other) tt

-- ---- the same of items that have kinds, where nodes may be unknown

module _ {X : Type 0} (own : Kinds) (kind : X → Kind) where
  pub may_long : (xs : List X) (ns : List (Option NodeId)) → MayHaveKinds own (map kind xs) ns → length xs ≡ length ns
  may_long [] [] h = refl
  may_long [] (n ∷ ns) h = absurd h
  may_long (x ∷ xs) [] h = absurd h
  may_long (x ∷ xs) (n ∷ ns) h = ap suc (may_long xs ns h.1)

  pub may_before : (xs : List X) (ns : List (Option NodeId)) (i : ℕ) (d : X) (e : Option NodeId) → i < length xs → i < length ns → MayHaveKind own (kind (get_or xs i d)) (get_or ns i e) → MayHaveKinds own (map kind (drop (i + 1) xs)) (drop (i + 1) ns) → MayHaveKinds own (map kind (drop i xs)) (drop i ns)
  may_before xs ns i d e l m q rest = rw (drop_more xs i d l, drop_more ns i e m) (q, rest)

  pub may_at : (xs : List X) (ns : List (Option NodeId)) (i : ℕ) (d : X) (e : Option NodeId) → i < length xs → i < length ns → MayHaveKinds own (map kind (drop i xs)) (drop i ns) → MayHaveKind own (kind (get_or xs i d)) (get_or ns i e) × MayHaveKinds own (map kind (drop (i + 1) xs)) (drop (i + 1) ns)
  may_at xs ns i d e l m h =
      let first : MayHaveKinds own (map kind (get_or xs i d ∷ drop (i + 1) xs)) (drop i ns) = subst (λ (z : List X). MayHaveKinds own (map kind z) (drop i ns)) (drop_more xs i d l) h in
      subst (λ (z : List (Option NodeId)). MayHaveKinds own (map kind (get_or xs i d ∷ drop (i + 1) xs)) z) (drop_more ns i e m) first

  pub may_end : (xs : List X) (ns : List (Option NodeId)) (i : ℕ) → length xs ≡ length ns → length xs ≤ i → MayHaveKinds own (map kind (drop i xs)) (drop i ns)
  may_end xs ns i same past =
      let other : length ns ≤ i = omega arith in
      rw (drop_of_length-le xs past, drop_of_length-le ns other) tt

  pub may_rest : (xs : List X) (ns : List (Option NodeId)) (i : ℕ) → i < length xs → i < length ns → MayHaveKinds own (map kind (drop i xs)) (drop i ns) → MayHaveKinds own (map kind (drop (i + 1) xs)) (drop (i + 1) ns)
  may_rest [] ns i l m h = absurd (omega arith)
  may_rest (x ∷ xs) ns i l m h = (may_at (x ∷ xs) ns i x None l m h).1

-- ---- what holds of each item of a list, as a loop over an equal list finds that names the item

module _ {X : Type 0} (P : X → Type 0) (ys xs : List X) (same : ys ≡ xs) where
  pub named_here : (i : ℕ) (x : X) → i < length ys → x ≡ get_or ys i x → ((k : ℕ) (y : X) → slice_get xs k ≡ Some y → P y) → P x
  named_here i x l q all = subst P (sym q) (each_here P ys xs same i x l all)

  pub named_more : (i : ℕ) (x : X) → i < length ys → x ≡ get_or ys i x → ((k : ℕ) → k < i → (y : X) → slice_get xs k ≡ Some y → P y) → P x → (k : ℕ) → k < i + 1 → (y : X) → slice_get xs k ≡ Some y → P y
  named_more i x l q before here = each_more P ys xs same i x l before (subst P q here)
