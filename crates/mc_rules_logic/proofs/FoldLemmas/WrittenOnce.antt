-- The list that is written where a node is forgotten is one.
use Rattle.std.proofs.Common.{◌≡◌, List, [], ◌∷◌, ◌++◌, refl, sym, ◌∙◌, ap, ap₂, subst}
use Rattle.mc_base.specs.declared.ids.NodeId.{NodeId}
use Rattle.mc_base.specs.declared.plain.Atom.{Atom}
use Rattle.mc_base.specs.declared.plain.Atom.TheVariants.{Eq, Ne, In}
use Rattle.mc_pure.specs.Canonical.{IsLeast, IsRangeAtom, IsClassAtom, IsDifference, plainly}
use Rattle.mc_pure.specs.Derived.{Follows}
use Rattle.mc_pure.specs.Pure.{Kinds, Pure, IsNode, kind_of}
use Rattle.mc_state.specs.State.{State}
use Rattle.mc_rules_logic.specs.Fold.Changed.{alone, left_over, Forgets}
use Rattle.mc_rules_logic.specs.Fold.Laws.{ForgetIsDetermined}
use Rattle.mc_pure.specs.Whole.{IsInside, IsWholeList}
use Rattle.mc_rules_logic.proofs.FoldLemmas.Naming.{after_is}
use Rattle.mc_rules_logic.proofs.FoldLemmas.Ordered.{same_listed}

-- what is listed for one is listed for another from which the same follows
module _ (p q : Pure) (kinds : p.kinds ≡ q.kinds) (there : (f : Atom) → Follows p f → Follows q f) (back : (f : Atom) → Follows q f → Follows p f) where
  range_moves : (f : Atom) → IsRangeAtom p f → IsRangeAtom q f
  range_moves (Eq a b c) r = absurd r
  range_moves (Ne a b c) r = absurd r
  range_moves (In n lo hi) r = (
    r.0,
    r.1,
    ap (λ (ks : Kinds). kind_of ks n) (sym kinds) ∙ r.2,
    record { follows = there (In n lo hi) r.3.follows; least = λ m k h. r.3.least m k (back (In n m k) h) },
    r.4,
  )

  least_moves : (b : NodeId) → IsLeast p b → IsLeast q b
  least_moves b l = (subst (λ (ks : Kinds). IsNode ks b) kinds l.0, λ m c h. l.1 m c (back (Eq b m c) h))

  class_moves : (f : Atom) → IsClassAtom p f → IsClassAtom q f
  class_moves (Eq a b c) r = (r.0, r.1, least_moves b r.2, there (Eq a b c) r.3)
  class_moves (Ne a b c) r = absurd r
  class_moves (In n lo hi) r = absurd r

  difference_moves : (plain : Pure) (f : Atom) → IsDifference p plain f → IsDifference q plain f
  difference_moves plain (Eq a b c) r = absurd r
  difference_moves plain (Ne i j c) r = (least_moves i r.0, least_moves j r.1, r.2, there (Ne i j c) r.3, r.4)
  difference_moves plain (In n lo hi) r = absurd r

  gap_moves : (plain : Pure) (f : Atom) → IsInside p plain f → IsInside q plain f
  gap_moves plain (Eq a b c) r = absurd r
  gap_moves plain (Ne i j c) r = (least_moves i r.0, r.1, r.2, there (Ne i j c) r.3, r.4)
  gap_moves plain (In n lo hi) r = absurd r

module _ (p q : Pure) (kinds : p.kinds ≡ q.kinds) (starts : p.starts ≡ q.starts) (there : (f : Atom) → Follows p f → Follows q f) (back : (f : Atom) → Follows q f → Follows p f) where
  pub one_written : (atoms others : List Atom) → IsWholeList p atoms → IsWholeList q others → atoms ≡ others
  one_written atoms others w v =
      let a = w.canonical in
      let b = v.canonical in
      let ranges : a.ranges ≡ b.ranges =
      same_listed (IsRangeAtom p) (IsRangeAtom q) (range_moves p q kinds there back) (range_moves q p (sym kinds) back there) a.ranges b.ranges a.ranges_listed b.ranges_listed in
      let equalities : a.equalities ≡ b.equalities =
      same_listed (IsClassAtom p) (IsClassAtom q) (class_moves p q kinds there back) (class_moves q p (sym kinds) back there) a.equalities b.equalities a.equalities_listed b.equalities_listed in
      let plain_p : Pure = plainly p (a.ranges ++ a.equalities) in
      let plain_q : Pure = plainly q (b.ranges ++ b.equalities) in
      let plain : plain_p ≡ plain_q =
      ap (λ ks. record { kinds = ks; written = a.ranges ++ a.equalities; starts = p.starts }) kinds
      ∙ ap (λ ns. record { kinds = q.kinds; written = a.ranges ++ a.equalities; starts = ns }) starts
      ∙ ap₂ (λ r e. record { kinds = q.kinds; written = r ++ e; starts = q.starts }) ranges equalities in
      let differences : a.differences ≡ b.differences =
      same_listed (IsDifference p plain_p) (IsDifference q plain_q)
      (λ f d. subst (λ (x : Pure). IsDifference q x f) plain (difference_moves p q kinds there back plain_p f d))
      (λ f d. subst (λ (x : Pure). IsDifference p x f) (sym plain) (difference_moves q p (sym kinds) back there plain_q f d))
      a.differences b.differences a.differences_listed b.differences_listed in
      let gaps : w.inner ≡ v.inner =
      same_listed (IsInside p plain_p) (IsInside q plain_q)
      (λ f d. subst (λ (x : Pure). IsInside q x f) plain (gap_moves p q kinds there back plain_p f d))
      (λ f d. subst (λ (x : Pure). IsInside p x f) (sym plain) (gap_moves q p (sym kinds) back there plain_q f d))
      w.inner v.inner w.inner_listed v.inner_listed in
      let lists : w.list ≡ v.list = a.together ∙ ap₂ (λ r m. r ++ m) ranges (ap₂ (λ e d. e ++ d) equalities differences) ∙ sym b.together in
      w.together ∙ ap₂ (λ l g. l ++ g) lists gaps ∙ sym v.together

-- two states without one node are one
pub forget_one : (node : NodeId) (s t u : State) → Forgets node s t → Forgets node s u → t ≡ u
forget_one node s t u f g =
    let atoms : t.atoms ≡ u.atoms =
    one_written (alone t) (alone u) (f.kinds ∙ sym g.kinds) refl (λ a h. (g.derived a).1 ((f.derived a).0 h)) (λ a h. (f.derived a).1 ((g.derived a).0 h)) t.atoms u.atoms f.listed g.listed in
    after_is s t node f ∙ ap (left_over s node) atoms ∙ sym (after_is s u node g)

pub forget_determined : ForgetIsDetermined
forget_determined node s next other i j = i.gives ∙ ap (λ t. t ∷ []) (forget_one node s i.after j.after i.forgets j.forgets) ∙ sym j.gives
