-- A whole join by the same steps gives one state.
use Rattle.std.proofs.Common.{◌≡◌, ℕ, ℤ, List, [], ◌++◌, Some, slice_get, refl, ap, ap₂, sym, ◌∙◌, subst, inl, inr}
use Rattle.mc_base.specs.declared.ids.NodeId.{NodeId}
use Rattle.mc_base.specs.declared.plain.Atom.{Atom}
use Rattle.mc_pure_ops.specs.Join.Joint.{Pairs, IsJoin, IsJoint, sides}
use Rattle.mc_pure.specs.Pure as pure
use Rattle.mc_pure.specs.Pure.{Kinds, Pure, Base, IsNode, kind_of}
use Rattle.mc_pure.specs.Derived.{Follows, base}
use Rattle.mc_pure.specs.Laws.{FollowsFromMore}
use Rattle.mc_pure.specs.Canonical.{IsRangeAtom, IsClassAtom, IsDifference, IsListOf, IsCanonical, plainly}
use Rattle.mc_state.specs.State.{State, pure_of}
use Rattle.mc_rules_logic.specs.Fold.Changed.{alone}
use Rattle.mc_rules_logic.proofs.FoldLemmas.Ordered.{same_listed}
use Rattle.mc_rules_logic.proofs.FoldLemmas.WrittenOnce.{one_written}
use Rattle.mc_joins.specs.Joinings.{Joining}
use Rattle.mc_joins.specs.Laws.{JoinsAreDetermined}
use Rattle.mc_joins.specs.Whole.{AreJointAtoms, over_nodes, result_of}

-- what is known has one canonical list
one_canonical_of : (p : Pure) (xs ys : List Atom) → IsListOf p xs → IsListOf p ys → xs ≡ ys
one_canonical_of p xs ys a b =
    let ranges : a.ranges ≡ b.ranges = same_listed (IsRangeAtom p) (IsRangeAtom p) (λ f r. r) (λ f r. r) a.ranges b.ranges a.ranges_listed b.ranges_listed in
    let equalities : a.equalities ≡ b.equalities =
    same_listed (IsClassAtom p) (IsClassAtom p) (λ f r. r) (λ f r. r) a.equalities b.equalities a.equalities_listed b.equalities_listed in
    let plain : plainly p (a.ranges ++ a.equalities) ≡ plainly p (b.ranges ++ b.equalities) = ap₂ (λ r e. plainly p (r ++ e)) ranges equalities in
    let differences : a.differences ≡ b.differences =
    same_listed (IsDifference p (plainly p (a.ranges ++ a.equalities))) (IsDifference p (plainly p (b.ranges ++ b.equalities)))
    (λ f d. subst (λ (x : Pure). IsDifference p x f) plain d) (λ f d. subst (λ (x : Pure). IsDifference p x f) (sym plain) d)
    a.differences b.differences a.differences_listed b.differences_listed in
    a.together ∙ ap₂ (λ r m. r ++ m) ranges (ap₂ (λ e d. e ++ d) equalities differences) ∙ sym b.together

one_canonical : (p : Pure) (xs ys : List Atom) → IsCanonical p xs → IsCanonical p ys → xs ≡ ys
one_canonical p xs ys (inl a) (inl b) = a.1 ∙ sym b.1
one_canonical p xs ys (inl a) (inr b) = absurd (b.0 a.0)
one_canonical p xs ys (inr a) (inl b) = absurd (a.0 b.0)
one_canonical p xs ys (inr a) (inr b) = one_canonical_of p xs ys a.1 b.1

module _ (more : FollowsFromMore) where
  module _ (left right : Pure) (pairs : Pairs) (round : ℕ) (thresholds : List ℤ) (p q : Pure) (i : IsJoin left right pairs round thresholds p) (k : IsJoin left right pairs round thresholds q) (kinds : p.kinds ≡ q.kinds) where
    same_joint : (f : Atom) → IsJoint (sides left right pairs i.left_list i.right_list round thresholds) p.kinds f
        → IsJoint (sides left right pairs k.left_list k.right_list round thresholds) q.kinds f
    same_joint f x =
        subst (λ (ks : Kinds). IsJoint (sides left right pairs k.left_list k.right_list round thresholds) ks f) kinds
        (subst (λ (r : List Atom). IsJoint (sides left right pairs k.left_list r round thresholds) p.kinds f) (one_canonical right i.right_list k.right_list i.right_canonical k.right_canonical)
        (subst (λ (l : List Atom). IsJoint (sides left right pairs l i.right_list round thresholds) p.kinds f) (one_canonical left i.left_list k.left_list i.left_canonical k.left_canonical) x))

    no_start : (place : ℕ) (a : NodeId) → slice_get p.starts place ≡ Some a → ⊥
    no_start place a e = let none : slice_get {X = NodeId} [] place ≡ Some a = ap (λ (ns : List NodeId). slice_get ns place) (sym i.starts) ∙ e in absurd (cc none)

    base_moves : (f : Atom) → Base p f → Follows q f
    base_moves _ (pure.written {f} place e) = k.complete f (same_joint f (i.sound f (place, e)))
    base_moves _ pure.zero = base pure.zero
    base_moves _ (pure.kind {n} {k = own} place e) = base (pure.kind {n = n} {k = own} place (ap (λ (ks : Kinds). slice_get ks place) (sym kinds) ∙ e))
    base_moves _ (pure.block {a} place e) = absurd (no_start place a e)
    base_moves _ (pure.apart {a} {b} m n differ e d) = absurd (no_start m a e)

    follows_too : (f : Atom) → Follows p f → Follows q f
    follows_too f x = more p q (λ n is. subst (λ (ks : Kinds). IsNode ks n) kinds is) base_moves f x

  pub joins_are_determined : JoinsAreDetermined
  joins_are_determined w round thresholds left right steps t u a b =
      let last : a.last ≡ b.last = cc (a.reached, b.reached) in
      let of_a : AreJointAtoms round thresholds b.last t = subst (λ (j : Joining). AreJointAtoms round thresholds j t) last a.atoms in
      let shape : t ≡ result_of left right b.last t.atoms = a.gives ∙ ap (λ (j : Joining). result_of left right j t.atoms) last in
      let kinds : t.kinds ≡ u.kinds = ap (λ (s : State). s.kinds) shape ∙ sym (ap (λ (s : State). s.kinds) b.gives) in
      let l = pure_of b.last.left.state in
      let r = pure_of b.last.right.state in
      let p = over_nodes t of_a.joint in
      let q = over_nodes u b.atoms.joint in
      let there : (f : Atom) → Follows (alone t) f → Follows (alone u) f =
      λ f h. (b.atoms.same f).1 (follows_too l r b.last.pairs round thresholds p q of_a.join b.atoms.join kinds f ((of_a.same f).0 h)) in
      let back : (f : Atom) → Follows (alone u) f → Follows (alone t) f =
      λ f h. (of_a.same f).1 (follows_too l r b.last.pairs round thresholds q p b.atoms.join of_a.join (sym kinds) f ((b.atoms.same f).0 h)) in
      let atoms : t.atoms ≡ u.atoms = one_written (alone t) (alone u) kinds refl there back t.atoms u.atoms of_a.listed b.atoms.listed in
      shape ∙ ap (result_of left right b.last) atoms ∙ sym b.gives
