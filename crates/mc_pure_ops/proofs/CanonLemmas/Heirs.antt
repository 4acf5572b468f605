-- The least node beside one that is left out of its class.
use Rattle.std.proofs.Common.{◌≡◌, ◌≢◌, ℕ, suc, ◌⊎◌, ◌<◌, ◌≤◌, ◌+◌, ℤ, neg_ℤ, ◌+ℤ◌, List, Option, Some, None, slice_get, get_or, length, refl, sym, ◌∙◌, ap, subst, inl, inr, arith}
use Rattle.std.proofs.lemmas.Option.{slice_get_within, slice_get-get_or}
use Rattle.mc_base.specs.declared.ids.NodeId.{NodeId}
use Rattle.mc_base.specs.declared.plain.Atom.TheVariants.{Eq}
use Rattle.mc_base.specs.Nodes.{null}
use Rattle.mc_pure.specs.Pure.{Pure, IsNode}
use Rattle.mc_pure.specs.Rows.{nodes_of}
use Rattle.mc_pure.specs.Derived.{Follows, IsFalse, turned, chained}
use Rattle.mc_pure.specs.Canonical.{IsLeast}
use Rattle.mc_pure.specs.Classes.{HasNormalForm, NormalSaysAll}
use Rattle.mc_pure.specs.declared.classes.ClassPlace.{ClassPlace}
use Rattle.mc_pure_ops.specs.Canon.Left.{IsLeftOut, IsHeir}
use Rattle.mc_pure_ops.specs.Canon.Forgotten.{IsHeirBelow, IsNextHeir}
use Rattle.mc_pure.proofs.Changing.{number}
use Rattle.mc_pure.proofs.Placing.{node_place}
use Rattle.mc_pure_ops.proofs.CanonLemmas.Nodes.{least_once, least_whole}
use Rattle.mc_pure_ops.proofs.JoinLemmas.Follow.{eq_as}

split : (k n : ℕ) → k < suc n → (k < n) ⊎ (k ≡ n)
split k n l = grind arith

some_same : (a b : NodeId) → Some a ≡ Some b → a ≡ b
some_same a b e = cc

-- the node at the last place
at_last : (nodes : List NodeId) (i k : ℕ) (other m : NodeId) → slice_get nodes i ≡ Some other → k ≡ i → slice_get nodes k ≡ Some m → m ≡ other
at_last nodes i k other m e s f = some_same m other (sym f ∙ ap (λ (z : ℕ). slice_get nodes z) s ∙ e)

module _ (p : Pure) (lost other : NodeId) where
  -- a node that is not of the class, or is the one that is left out
  pub heir_skipped : ((c : ℤ) → Follows p (Eq other lost c) → other ≡ lost) → (old : Option ClassPlace) → IsNextHeir p lost other old old
  heir_skipped w None nodes i least e h = λ k m c l f d. elim (split k i l) [
    | inl x ↦ h k m c x f d
    | inr x ↦ (let s = at_last nodes i k other m e x f in s ∙ w c (eq_as p d s refl refl))
  ]
  heir_skipped w (Some heir) nodes i least e h = (
    h.0,
    h.1,
    h.2,
    λ k m c l f ne d. elim (split k i l) [
      | inl x ↦ h.3 k m c x f ne d
      | inr x ↦ (let s = at_last nodes i k other m e x f in absurd (ne (s ∙ w c (eq_as p d s refl refl))))
    ],
  )

  pub heir_same : other ≡ lost → (old : Option ClassPlace) → IsNextHeir p lost other old old
  heir_same s old = heir_skipped (λ c d. s) old

  pub heir_other : (IsFalse p → ⊥) → (place : ClassPlace) → IsLeast p place.least → Follows p (Eq other place.least place.offset) → place.least ≢ lost → (old : Option ClassPlace) → IsNextHeir p lost other old old
  heir_other t place l d ne old nodes i least e h =
      heir_skipped (λ c f. absurd (ne (least_once p t None place.least lost _ (least_whole p place.least l) (least_whole p lost least) (chained (turned d) f)))) old nodes i least e h

  pub heir_kept : (best : ClassPlace) → best.least.0 ≤ other.0 → IsNextHeir p lost other (Some best) (Some best)
  heir_kept best le nodes i least e h = (
    h.0,
    h.1,
    h.2,
    λ k m c l f ne d. elim (split k i l) [
      | inl x ↦ h.3 k m c x f ne d
      | inr x ↦ (let s = number (at_last nodes i k other m e x f) in omega arith)
    ],
  )

  module _ (there : IsNode p.kinds other) (place new : ClassPlace) (d : Follows p (Eq other place.least place.offset)) (s : place.least ≡ lost) (ne : other ≢ lost) (new_is : new.least ≡ other) (offset_is : new.offset ≡ place.offset) where
    new_equal : Follows p (Eq new.least lost new.offset)
    new_equal = eq_as p d (sym new_is) s (sym offset_is)

    new_node : IsNode p.kinds new.least
    new_node = subst (λ (z : NodeId). IsNode p.kinds z) (sym new_is) there

    pub heir_first : IsNextHeir p lost other None (Some new)
    heir_first nodes i least e h = (
      new_node,
      (λ f. ne (sym new_is ∙ f)),
      new_equal,
      λ k m c l f no d. elim (split k i l) [
        | inl x ↦ absurd (no (h k m c x f d))
        | inr x ↦ (let u = number (at_last nodes i k other m e x f) in let v = number new_is in omega arith)
      ],
    )

    pub heir_nearer : (best : ClassPlace) → (best.least.0 ≤ other.0 → ⊥) → IsNextHeir p lost other (Some best) (Some new)
    heir_nearer best gt nodes i least e h = (
      new_node,
      (λ f. ne (sym new_is ∙ f)),
      new_equal,
      λ k m c l f no d. elim (split k i l) [
        | inl x ↦ (let u = h.3 k m c x f no d in let v = number new_is in let w = less best.least.0 other.0 gt in omega arith)
        | inr x ↦ (let u = number (at_last nodes i k other m e x f) in let v = number new_is in omega arith)
      ],
    )
      where
        less : (a b : ℕ) → (a ≤ b → ⊥) → b < a
        less a b n = grind arith

pub none_below : (p : Pure) (lost : NodeId) (nodes : List NodeId) → IsHeirBelow p lost nodes 0 None
none_below p lost nodes k m c l f d = absurd (omega arith)

pub next_below : (p : Pure) (lost : NodeId) (nodes : List NodeId) (i : ℕ) (d : NodeId) (old new : Option ClassPlace) → i < length nodes → (IsLeast p lost → IsHeirBelow p lost nodes i old) → IsNextHeir p lost (get_or nodes i d) old new → IsLeast p lost → IsHeirBelow p lost nodes (i + 1) new
next_below p lost nodes i d old new l h w least =
    subst (λ (z : ℕ). IsHeirBelow p lost nodes z new) (up i) (w nodes i least (slice_get-get_or nodes i d l) (h least))
  where
    up : (i : ℕ) → suc i ≡ i + 1
    up i = omega arith

pub is_left_out : (law : NormalSaysAll) (p : Pure) (form : HasNormalForm p) (lost : NodeId) (out : Option NodeId) (nodes : List NodeId) (i : ℕ) (heir : Option ClassPlace) → out ≡ Some lost → nodes ≡ nodes_of p.kinds → length nodes ≤ i → IsNode p.kinds lost → lost ≢ null → (IsLeast p lost → IsHeirBelow p lost nodes i heir) → IsLeftOut p out heir
is_left_out law p form lost out nodes i heir s e le there nz h =
    subst (λ (z : Option NodeId). IsLeftOut p z heir) (sym s) (there, nz, λ least. last heir (h least))
  where
    place : (m : NodeId) (c : ℤ) → Follows p (Eq m lost c) → (k : ℕ) × (k < i) × (slice_get nodes k ≡ Some m)
    place m c d =
        let w = node_place p.kinds m (law p form.nf form.normal (Eq m lost c) d).0 in
        let f : slice_get nodes w.0 ≡ Some m = subst (λ (z : List NodeId). slice_get z w.0 ≡ Some m) (sym e) w.1 in
        let l = slice_get_within nodes w.0 m f in
        (w.0, omega arith, f)

    last : (heir : Option ClassPlace) → IsHeirBelow p lost nodes i heir → IsHeir p lost heir
    last None h = λ m c d. (let k = place m c d in h k.0 m c k.1 k.2 d)
    last (Some heir) h = (record { node = h.0; left = h.1; least = λ m c w d. (let f = chained (turned d) h.2 in let k = place m (neg_ℤ c +ℤ heir.offset) f in h.3 k.0 m (neg_ℤ c +ℤ heir.offset) k.1 k.2 w f) }, h.2)
