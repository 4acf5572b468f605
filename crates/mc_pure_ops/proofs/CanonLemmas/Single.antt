-- What is written of one node.
use Rattle.std.proofs.Common.{◌≡◌, ◌≢◌, ℕ, ◌⊎◌, ◌≤◌, ℤ, ◌<ℤ◌, List, [], Option, Some, None, slice_get, length, refl, sym, ◌∙◌, ap, subst, inr}
use Rattle.mc_base.specs.declared.ids.NodeId.{NodeId}
use Rattle.mc_base.specs.declared.plain.Kind.{Kind}
use Rattle.mc_base.specs.declared.plain.Atom.{Atom}
use Rattle.mc_base.specs.declared.plain.Atom.TheVariants.{Eq, Ne, In}
use Rattle.mc_base.specs.Nodes.{null}
use Rattle.mc_pure.specs.Pure.{Pure, IsNode, kind_of, low_of, high_of}
use Rattle.mc_pure.specs.Rows.{nodes_of}
use Rattle.mc_pure.specs.Derived.{Follows, IsFalse, HasRange}
use Rattle.mc_pure.specs.declared.classes.ClassPlace.{ClassPlace}
use Rattle.mc_pure_ops.specs.Canon.Order.{Added, GivesAtMost}
use Rattle.mc_pure_ops.specs.Canon.Left.{IsLeft, IsPlace, FindsPlace, IsRangeLeft, IsClassLeft, OfNode, OfNodes}
use Rattle.mc_pure_ops.proofs.CanonLemmas.Lists.{added_as, Upto, upto_all}
use Rattle.mc_pure_ops.proofs.CanonLemmas.Nodes.{place_once}
use Rattle.mc_pure.proofs.Placing.{node_place}
use Rattle.mc_pure_ops.proofs.JoinLemmas.Follow.{range_once}

in_same : (a : NodeId) (l m h k : ℤ) → l ≡ m → h ≡ k → In a l h ≡ In a m k
in_same a l m h k p q = cc

eq_same : (a : NodeId) (P Q : ClassPlace) → P ≡ Q → Eq a P.least P.offset ≡ Eq a Q.least Q.offset
eq_same a P Q e = ap (λ (z : ClassPlace). Eq a z.least z.offset) e

some_kind : (a b : Kind) → Some a ≡ Some b → a ≡ b
some_kind a b e = cc

module _ (p : Pure) (lost : Option NodeId) (n : NodeId) where
  abbrev RangeHere : Atom → Type 0
  RangeHere = OfNode (IsRangeLeft p lost) n

  abbrev ClassHere : Atom → Type 0
  ClassHere = OfNode (IsClassLeft p lost) n

  pub null_range : n ≡ null → GivesAtMost RangeHere None
  null_range e (In a l h) k = k.0.0.1 (k.1 ∙ e)
  null_range e (Eq a b c) k = k.0.0
  null_range e (Ne a b c) k = k.0.0

  pub lost_range : (IsLeft lost n → ⊥) → GivesAtMost RangeHere None
  lost_range w (In a l h) k = w (subst (λ (z : NodeId). IsLeft lost z) k.1 k.0.1)
  lost_range w (Eq a b c) k = k.0.0
  lost_range w (Ne a b c) k = k.0.0

  pub no_kind_range : kind_of p.kinds n ≡ None → GivesAtMost RangeHere None
  no_kind_range e (In a l h) k = let f = subst (λ (z : NodeId). kind_of p.kinds z ≡ Some k.0.0.0) k.1 k.0.0.2 in cc
  no_kind_range e (Eq a b c) k = k.0.0
  no_kind_range e (Ne a b c) k = k.0.0

  module _ (t : IsFalse p → ⊥) where
    pub wide_range : (lo hi : ℤ) (kind : Kind) → HasRange p n lo hi → kind_of p.kinds n ≡ Some kind → ((low_of kind <ℤ lo) ⊎ (hi <ℤ high_of kind) → ⊥) → GivesAtMost RangeHere None
    wide_range lo hi kind r e w (Eq a b c) k = k.0.0
    wide_range lo hi kind r e w (Ne a b c) k = k.0.0
    wide_range lo hi kind r e w (In a l h) k =
        let f = subst (λ (z : NodeId). kind_of p.kinds z ≡ Some k.0.0.0) k.1 k.0.0.2 in
        let s = some_kind k.0.0.0 kind (sym f ∙ e) in
        let same = range_once p t n l h lo hi (subst (λ (z : NodeId). HasRange p z l h) k.1 k.0.0.3) r in
        let v = subst (λ (z : Kind). (low_of z <ℤ l) ⊎ (h <ℤ high_of z)) s k.0.0.4 in
        w (subst (λ (z : ℤ). (low_of kind <ℤ z) ⊎ (hi <ℤ high_of kind)) same.0 (subst (λ (z : ℤ). (low_of kind <ℤ l) ⊎ (z <ℤ high_of kind)) same.1 v))

    pub narrow_range : (lo hi : ℤ) (kind : Kind) (f : Atom) → n ≢ null → IsLeft lost n → HasRange p n lo hi → kind_of p.kinds n ≡ Some kind → (low_of kind <ℤ lo) ⊎ (hi <ℤ high_of kind) → f ≡ In n lo hi → GivesAtMost RangeHere (Some f)
    narrow_range lo hi kind f ne w r e v s =
        (subst (λ (z : Atom). RangeHere z) (sym s) (((kind, ne, e, r, v), w), refl), λ g k. one g k ∙ sym s)
      where
        one : (g : Atom) → RangeHere g → g ≡ In n lo hi
        one (Eq a b c) k = absurd k.0.0
        one (Ne a b c) k = absurd k.0.0
        one (In a l h) k =
            let same = range_once p t n l h lo hi (subst (λ (z : NodeId). HasRange p z l h) k.1 k.0.0.3) r in
            ap (λ (z : NodeId). In z l h) k.1 ∙ in_same n l lo h hi same.0 same.1

  pub lost_class : (IsLeft lost n → ⊥) → GivesAtMost ClassHere None
  lost_class w (Eq a b c) k = w (subst (λ (z : NodeId). IsLeft lost z) k.1 k.0.3)
  lost_class w (In a l h) k = k.0
  lost_class w (Ne a b c) k = k.0

  -- the place that an equality says
  said : (b : NodeId) (c : ℤ) (a : NodeId) → ClassHere (Eq a b c) → IsPlace p lost n (record { least = b; offset = c })
  said b c a k = record { least = k.0.4; equal = subst (λ (z : NodeId). Follows p (Eq z b c)) k.1 k.0.5 }

  pub no_class : FindsPlace p lost n None → GivesAtMost ClassHere None
  no_class w (Eq a b c) k = w (record { least = b; offset = c }) (said b c a k)
  no_class w (In a l h) k = k.0
  no_class w (Ne a b c) k = k.0

  module _ (t : IsFalse p → ⊥) (place : ClassPlace) (here : IsPlace p lost n place) where
    said_least : (b : NodeId) (c : ℤ) (a : NodeId) → ClassHere (Eq a b c) → b ≡ place.least
    said_least b c a k = ap (λ (z : ClassPlace). z.least) (place_once p t lost n (record { least = b; offset = c }) place (said b c a k) here)

    pub null_class : place.least ≡ null → GivesAtMost ClassHere None
    null_class e (Eq a b c) k = k.0.1 (said_least b c a k ∙ e)
    null_class e (In a l h) k = k.0
    null_class e (Ne a b c) k = k.0

    pub self_class : place.least ≡ n → GivesAtMost ClassHere None
    self_class e (Eq a b c) k = k.0.0 (k.1 ∙ sym (said_least b c a k ∙ e))
    self_class e (In a l h) k = k.0
    self_class e (Ne a b c) k = k.0

    pub other_class : (f : Atom) → place.least ≢ null → place.least ≢ n → IsNode p.kinds n → IsLeft lost n → f ≡ Eq n place.least place.offset → GivesAtMost ClassHere (Some f)
    other_class f nz ne there w s =
        (subst (λ (z : Atom). ClassHere z) (sym s) (((λ e. ne (sym e)), nz, there, w, here.least, here.equal), refl), λ g k. one g k ∙ sym s)
      where
        one : (g : Atom) → ClassHere g → g ≡ Eq n place.least place.offset
        one (In a l h) k = absurd k.0
        one (Ne a l h) k = absurd k.0
        one (Eq a b c) k = ap (λ (z : NodeId). Eq z b c) k.1 ∙ eq_same n (record { least = b; offset = c }) place (place_once p t lost n (record { least = b; offset = c }) place (said b c a k) here)

module _ (p : Pure) (lost : Option NodeId) (nodes : List NodeId) (e : nodes ≡ nodes_of p.kinds) (i : ℕ) (list : List Atom) (l : length nodes ≤ i) where
  listed_node : (a : NodeId) → IsNode p.kinds a → (k : ℕ) × (slice_get nodes k ≡ Some a)
  listed_node a h = subst (λ (z : List NodeId). (k : ℕ) × (slice_get z k ≡ Some a)) (sym e) (node_place p.kinds a h)

  range_node : (f : Atom) → IsRangeLeft p lost f → OfNodes (IsRangeLeft p lost) nodes f
  range_node (In a lo hi) k = (a, listed_node a (k.0.0, inr k.0.2), (k, refl))
  range_node (Eq a b c) k = absurd k.0
  range_node (Ne a b c) k = absurd k.0

  class_node : (f : Atom) → IsClassLeft p lost f → OfNodes (IsClassLeft p lost) nodes f
  class_node (Eq a b c) k = (a, listed_node a k.2, (k, refl))
  class_node (In a lo hi) k = absurd k
  class_node (Ne a b c) k = absurd k

  pub all_ranges : Added (Upto (OfNode (IsRangeLeft p lost)) nodes i) [] list → Added (IsRangeLeft p lost) [] list
  all_ranges a = added_as (OfNodes (IsRangeLeft p lost) nodes) (IsRangeLeft p lost) [] list range_node (λ f k. k.2.0) (upto_all (OfNode (IsRangeLeft p lost)) nodes i [] list l a)

  pub all_classes : Added (Upto (OfNode (IsClassLeft p lost)) nodes i) [] list → Added (IsClassLeft p lost) [] list
  all_classes a = added_as (OfNodes (IsClassLeft p lost) nodes) (IsClassLeft p lost) [] list class_node (λ f k. k.2.0) (upto_all (OfNode (IsClassLeft p lost)) nodes i [] list l a)
