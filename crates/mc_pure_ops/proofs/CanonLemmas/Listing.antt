-- Lists that gained exactly some atoms list them.
use Rattle.std.proofs.Common.{◌≡◌, ℕ, zero, suc, ◌⊎◌, ◌<◌, ℤ, pos, ◌<ℤ◌, List, [], ◌∷◌, ◌++◌, Some, None, slice_get, refl, ◌∙◌, ap, subst, inl, inr, arith}
use Rattle.std.specs.Prelude.{Contains}
use Rattle.std.proofs.lemmas.Int.{ints}
use Rattle.std.proofs.lemmas.Option.{slice_get_within, slice_get-get_or, get_or_from_slice_get}
use Rattle.mc_base.specs.declared.ids.NodeId.{NodeId}
use Rattle.mc_base.specs.declared.plain.Atom.{Atom}
use Rattle.mc_base.specs.declared.plain.Atom.TheVariants.{Eq, Ne, In}
use Rattle.mc_pure.specs.Pure.{Pure}
use Rattle.mc_pure.specs.Derived.{IsFalse, HasRange, turned, chained}
use Rattle.mc_pure.specs.Canonical.{IsRangeAtom, IsClassAtom, ComesBefore, AreInOrder, AreListed}
use Rattle.mc_pure_ops.specs.Canon.Order.{Among, IsBefore, AreSorted, Added}
use Rattle.mc_pure.proofs.Changing.{same_node}
use Rattle.mc_pure_ops.proofs.CanonLemmas.Nodes.{offset_once, least_once, least_whole}
use Rattle.mc_pure_ops.proofs.JoinLemmas.Follow.{eq_as, range_once}

pub contains_from : (xs : List Atom) (f : Atom) → Among xs f → Contains xs f
contains_from xs f m = (m.0, slice_get_within xs m.0 f m.1, get_or_from_slice_get xs m.0 f f m.1)

pub contains_to : (xs : List Atom) (f : Atom) → Contains xs f → Among xs f
contains_to xs f m = (m.0, slice_get-get_or xs m.0 f m.1 ∙ ap (λ (z : Atom). Some z) m.2)

pub none_among : (f : Atom) → Among [] f → ⊥
none_among f m = let e = m.1 in cc

sorted : (P : Atom → Type 0) (xs : List Atom) → ((f g : Atom) → P f → P g → IsBefore f g → ComesBefore f g) → AreSorted xs → ((f : Atom) → Among xs f → P f) → AreInOrder xs
sorted P [] step o all = tt
sorted P (f ∷ []) step o all = tt
sorted P (f ∷ g ∷ fs) step o all = (step f g (all f (zero, refl)) (all g (suc zero, refl)) o.0, sorted P (g ∷ fs) step o.1 (λ h m. all h (suc m.0, m.1)))

pub gained : (P : Atom → Type 0) (xs : List Atom) → Added P [] xs → (f : Atom) → Among xs f → P f
gained P xs a f m = elim (a.from f m) [ inl x ↦ absurd (none_among f x) | inr x ↦ x ]

pub listed : (P : Atom → Type 0) (xs : List Atom) → ((f g : Atom) → P f → P g → IsBefore f g → ComesBefore f g) → Added P [] xs → AreListed P xs
listed P xs step a = record {
  order = sorted P xs step (a.order tt) (gained P xs a);
  exact = λ f. ((λ c. gained P xs a f (contains_to xs f c)), (λ h. contains_from xs f (a.added f h)));
}

-- membership of two lists
pub left_in : (fs gs : List Atom) (f : Atom) → Among fs f → Among (fs ++ gs) f
left_in fs gs f m = at fs m.0 m.1
  where
    at : (fs : List Atom) (k : ℕ) → slice_get fs k ≡ Some f → Among (fs ++ gs) f
    at [] k e = cc
    at (x ∷ fs) zero e = (zero, e)
    at (x ∷ fs) (suc k) e = let m = at fs k e in (suc m.0, m.1)

pub right_in : (fs gs : List Atom) (f : Atom) → Among gs f → Among (fs ++ gs) f
right_in [] gs f m = m
right_in (x ∷ fs) gs f m = let k = right_in fs gs f m in (suc k.0, k.1)

pub either_in : (fs gs : List Atom) (f : Atom) → Among (fs ++ gs) f → Among fs f ⊎ Among gs f
either_in fs gs f m = at fs m.0 m.1
  where
    later : (x : Atom) (fs : List Atom) → Among fs f ⊎ Among gs f → Among (x ∷ fs) f ⊎ Among gs f
    later x fs (inl k) = inl (suc k.0, k.1)
    later x fs (inr k) = inr k

    at : (fs : List Atom) (k : ℕ) → slice_get (fs ++ gs) k ≡ Some f → Among fs f ⊎ Among gs f
    at [] k e = inr (k, e)
    at (x ∷ fs) zero e = inl (zero, e)
    at (x ∷ fs) (suc k) e = later x fs (at fs k e)

-- neighbours, by the node first
pub range_step : (p : Pure) → (IsFalse p → ⊥) → (f g : Atom) → IsRangeAtom p f → IsRangeAtom p g → IsBefore f g → ComesBefore f g
range_step p t (Eq a b c) g x y w = absurd x
range_step p t (Ne a b c) g x y w = absurd x
range_step p t (In a l h) (Eq i j k) x y w = absurd y
range_step p t (In a l h) (Ne i j k) x y w = absurd y
range_step p t (In a l h) (In i m k) x y w = elim w [
  | inl z ↦ absurd (omega arith)
  | inr z ↦ elim z.1 [
    | inl v ↦ v
    | inr v ↦
        let s = same_node a i v.0 in
        let e = range_once p t i l h m k (subst (λ (u : NodeId). HasRange p u l h) s x.3) y.3 in
        absurd (elim v.1 [ inl u ↦ omega (arith, ints, u, e.0) | inr u ↦ omega (arith, ints, u.1, e.1) ])
  ]
]

pub class_step : (p : Pure) → (IsFalse p → ⊥) → (f g : Atom) → IsClassAtom p f → IsClassAtom p g → IsBefore f g → ComesBefore f g
class_step p t (In a l h) g x y w = absurd x
class_step p t (Ne a b c) g x y w = absurd x
class_step p t (Eq a b c) (In i m k) x y w = absurd y
class_step p t (Eq a b c) (Ne i j k) x y w = absurd y
class_step p t (Eq a b c) (Eq i j k) x y w = elim w [
  | inl z ↦ absurd (omega arith)
  | inr z ↦ elim z.1 [
    | inl v ↦ v
    | inr v ↦
        let s = same_node a i v.0 in
        let d = eq_as p x.3 s refl refl in
        let b_is = least_once p t None b j _ (least_whole p b x.2) (least_whole p j y.2) (chained (turned d) y.3) in
        let c_is = offset_once p t i j c k (eq_as p d refl b_is refl) y.3 in
        let same : b.0 ≡ j.0 = ap (λ (u : NodeId). u.0) b_is in
        absurd (elim v.1 [ inl u ↦ omega (arith, ints, u, same) | inr u ↦ omega (arith, ints, u.1, c_is) ])
  ]
]

pub difference_step : (a b i j : NodeId) (c k : ℤ) → IsBefore (Ne a b c) (Ne i j k) → ComesBefore (Ne a b c) (Ne i j k)
difference_step a b i j c k w = elim w [
  | inl z ↦ absurd (omega arith)
  | inr z ↦ elim z.1 [
    | inl v ↦ inl v
    | inr v ↦ inr (v.0, elim v.1 [ inl u ↦ inl (less b.0 j.0 u) | inr u ↦ inr (same b.0 j.0 u.0, u.1) ])
  ]
]
  where
    less : (m n : ℕ) → pos m <ℤ pos n → m < n
    less m n u = omega (arith, ints)

    same : (m n : ℕ) → pos m ≡ pos n → m ≡ n
    same m n u = omega (arith, ints)
