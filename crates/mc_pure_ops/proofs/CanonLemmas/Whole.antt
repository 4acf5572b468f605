-- The canonical list.
use Rattle.std.proofs.Common.{◌≡◌, ◌↔◌, ℕ, ◌⊎◌, pos, List, [], ◌++◌, Option, Some, None, slice_get, Bool, true, false, IsTrue, append_assoc, refl, sym, ◌∙◌, ap, subst, inl, inr}
use Rattle.mc_base.specs.declared.ids.NodeId.{NodeId}
use Rattle.mc_base.specs.declared.plain.Kind.{Kind}
use Rattle.mc_base.specs.declared.plain.Atom.{Atom}
use Rattle.mc_base.specs.declared.plain.Atom.TheVariants.{Eq, Ne, In}
use Rattle.mc_pure.specs.declared.rows.Row.{Row}
use Rattle.mc_pure.specs.Pure as begin
use Rattle.mc_pure.specs.Pure.{Pure, Base, kind_of, kind_atom, written, kind, block, apart}
use Rattle.mc_pure.specs.Derived.{Follows, IsFalse, base}
use Rattle.mc_pure.specs.Normal.{IsNormal}
use Rattle.mc_pure.specs.Rows.{IsTie}
use Rattle.mc_pure.specs.Classes.{HasNormalForm, NormalSaysAll}
use Rattle.mc_pure.specs.Laws.{FollowsFromMore}
use Rattle.mc_pure.specs.Canonical.{IsRangeAtom, IsClassAtom, IsDifference, IsListOf, IsCanonical, ComesBefore, plainly}
use Rattle.mc_pure_ops.specs.Canon.Order.{Among, IsBefore, Added}
use Rattle.mc_pure_ops.specs.Canon.Left.{IsLeft, LeavesOut, IsRangeLeft, IsClassLeft}
use Rattle.mc_pure_ops.specs.Canon.Gaps.{ArePair, DifferenceLeft}
use Rattle.mc_pure_ops.proofs.CanonLemmas.Lists.{added_as}
use Rattle.mc_pure_ops.proofs.CanonLemmas.Nodes.{whole_least, least_whole}
use Rattle.mc_pure.proofs.Placing.{place_of_kind}
use Rattle.mc_pure_ops.proofs.CanonLemmas.Plain.{plain}
use Rattle.mc_pure_ops.proofs.CanonLemmas.Exact.{IsDifferenceLeft, difference_true, difference_made}
use Rattle.mc_pure_ops.proofs.CanonLemmas.Within.{plain_in}
use Rattle.mc_pure_ops.proofs.CanonLemmas.Listing.{gained, listed, left_in, right_in, either_in, range_step, class_step, difference_step}

leaves_none : (f : Atom) → LeavesOut None f
leaves_none (Eq a b c) = (tt, tt)
leaves_none (Ne a b c) = (tt, tt)
leaves_none (In a l h) = tt

-- what is written of ranges and equalities follows
pub range_tie : (p : Pure) (f : Atom) → IsRangeAtom p f → IsTie f × Follows p f
range_tie p (In a l h) k = (tt, k.3.follows)
range_tie p (Eq a b c) k = absurd k
range_tie p (Ne a b c) k = absurd k

pub class_tie : (p : Pure) (f : Atom) → IsClassAtom p f → IsTie f × Follows p f
class_tie p (Eq a b c) k = (tt, k.3)
class_tie p (In a l h) k = absurd k
class_tie p (Ne a b c) k = absurd k

module _ (law : NormalSaysAll) (grows : FollowsFromMore) (p : Pure) (true_p : IsFalse p → ⊥) (nf : NodeId → Row) (n : IsNormal p nf) where
  class_to : (f : Atom) → IsClassAtom p f → IsClassLeft p None f
  class_to (Eq a b c) k = (k.0, k.1, (law p nf n (Eq a b c) k.3).0, tt, least_whole p b k.2, k.3)
  class_to (In a l h) k = absurd k
  class_to (Ne a b c) k = absurd k

  class_from : (f : Atom) → IsClassLeft p None f → IsClassAtom p f
  class_from (Eq a b c) k = (k.0, k.1, whole_least p b k.4, k.5)
  class_from (In a l h) k = absurd k
  class_from (Ne a b c) k = absurd k

  module _ (ranges equalities differences : List Atom) (rs : Added (IsRangeLeft p None) [] ranges) (es : Added (IsClassLeft p None) [] equalities) (ds : Added (DifferenceLeft p None p.starts false []) [] differences) where
    abbrev r : Pure
    r = plainly p (ranges ++ equalities)

    range_added : Added (IsRangeAtom p) [] ranges
    range_added = added_as (IsRangeLeft p None) (IsRangeAtom p) [] ranges (λ f k. (k, leaves_none f)) (λ f k. k.0) rs

    class_added : Added (IsClassAtom p) [] equalities
    class_added = added_as (IsClassLeft p None) (IsClassAtom p) [] equalities class_to class_from es

    tie_in : (f : Atom) → Among (ranges ++ equalities) f → IsTie f × Follows p f
    tie_in f m = elim (either_in ranges equalities f m) [
      | inl x ↦ range_tie p f (gained (IsRangeAtom p) ranges range_added f x)
      | inr x ↦ class_tie p f (gained (IsClassAtom p) equalities class_added f x)
    ]

    base_in : (f : Atom) → Base r f → (IsTie f × Follows p f) ⊎ ((i j : ℕ) × (x y : NodeId) × ArePair p.starts i j x y × (f ≡ Ne x y (pos 0)))
    base_in f (written place e) = inl (tie_in f (place, e))
    base_in _ begin.zero = inl (tt, base begin.zero)
    base_in _ (kind place e) = inl (tt, base (kind place e))
    base_in _ (block place e) = inl (tt, base (block place e))
    base_in _ (apart {a} {b} i j ne x y) = inr (i, j, a, b, record { differ = ne; first = x; second = y }, refl)

    ranges_in : (f : Atom) → IsRangeLeft p None f → Follows r f
    ranges_in f k = let m = left_in ranges equalities f (rs.added f k) in base (written m.0 m.1)

    classes_in : (f : Atom) → IsClassLeft p None f → Follows r f
    classes_in f k = let m = right_in ranges equalities f (es.added f k) in base (written m.0 m.1)

    kinds_in : (a : NodeId) (k : Kind) → kind_of p.kinds a ≡ Some k → IsLeft None a → Follows r (kind_atom a k)
    kinds_in a k e w = let m = place_of_kind p.kinds a k e in base (kind m.0 m.1)

    pairs_in : (i j : ℕ) (x y : NodeId) → ArePair p.starts i j x y → IsLeft None x × IsLeft None y × Follows r (Ne x y (pos 0))
    pairs_in i j x y w = (tt, tt, base (apart i j w.differ w.first w.second))

    difference_to : (f : Atom) → IsDifference p r f → IsDifferenceLeft p None p.starts false f
    difference_to (Eq a b c) k = absurd k
    difference_to (In a l h) k = absurd k
    difference_to (Ne i j c) k =
        let li = least_whole p i k.0 in
        let lj = least_whole p j k.1 in
        (li, lj, k.2, k.3, λ w. k.4 (plain_in law p true_p nf n None r (λ a na x. na) kinds_in ranges_in classes_in p.starts pairs_in (record { left = i; right = j; by = c }) li lj w))

    difference_from : (f : Atom) → IsDifferenceLeft p None p.starts false f → IsDifference p r f
    difference_from (Eq a b c) k = absurd k
    difference_from (In a l h) k = absurd k
    difference_from (Ne i j c) k =
        (whole_least p i k.0, whole_least p j k.1, k.2, k.3, λ d. k.4 (plain law p nf n p.starts (λ x a e. e) grows r ((λ m h. h), base_in) i j c d))

    no_nodes : (i : ℕ) (a : NodeId) → (let none : List NodeId = [] in slice_get none i ≡ Some a) → slice_get p.starts i ≡ Some a
    no_nodes i a e = cc

    difference_added : Added (IsDifference p r) [] differences
    difference_added =
        added_as (DifferenceLeft p None p.starts false []) (IsDifference p r) [] differences
        (λ f k. difference_made law p nf n None p.starts false [] (λ i j x y w. inr w) f (difference_to f k))
        (λ f k. difference_from f (difference_true p None p.starts false f [] no_nodes k))
        ds

    next_difference : (f g : Atom) → IsDifference p r f → IsDifference p r g → IsBefore f g → ComesBefore f g
    next_difference (Eq a b c) g x y w = absurd x
    next_difference (In a l h) g x y w = absurd x
    next_difference (Ne a b c) (Eq i j k) x y w = absurd y
    next_difference (Ne a b c) (In i m k) x y w = absurd y
    next_difference (Ne a b c) (Ne i j k) x y w = difference_step a b i j c k w

    pub is_list : (atoms : List Atom) → atoms ≡ ranges ++ (equalities ++ differences) → IsListOf p atoms
    is_list atoms e = record {
      ranges = ranges;
      equalities = equalities;
      differences = differences;
      together = e;
      ranges_listed = listed (IsRangeAtom p) ranges (range_step p true_p) range_added;
      equalities_listed = listed (IsClassAtom p) equalities (class_step p true_p) class_added;
      differences_listed = listed (IsDifference p r) differences next_difference difference_added;
    }

pub not_false : (p : Pure) (b : Bool) → IsTrue b ↔ IsFalse p → b ≡ false → IsFalse p → ⊥
not_false p b e f w = let t = e.1 w in let g : true ≡ false = sym (is_true b t) ∙ f in cc
  where
    is_true : (b : Bool) → IsTrue b → b ≡ true
    is_true true t = refl
    is_true false t = cc

pub is_false : (p : Pure) (b : Bool) → IsTrue b ↔ IsFalse p → b ≡ true → IsFalse p
is_false p b e f = e.0 (rw f refl)

-- the three lists, one after the other
pub canonical : (law : NormalSaysAll) (grows : FollowsFromMore) (p : Pure) → (IsFalse p → ⊥) → HasNormalForm p → (lost : Option NodeId) → lost ≡ None → (ranges equalities differences first atoms : List Atom) (starts : List NodeId) → starts ≡ p.starts → Added (IsRangeLeft p lost) [] ranges → Added (IsClassLeft p lost) [] equalities → Added (DifferenceLeft p lost starts false []) [] differences → first ≡ ranges ++ equalities → atoms ≡ first ++ differences → IsCanonical p atoms
canonical law grows p t form lost l R E D first atoms starts s rs es ds f a =
    let rs' = subst (λ (z : Option NodeId). Added (IsRangeLeft p z) [] R) l rs in
    let es' = subst (λ (z : Option NodeId). Added (IsClassLeft p z) [] E) l es in
    let ds' = subst (λ (z : Option NodeId). Added (DifferenceLeft p z p.starts false []) [] D) l (subst (λ (z : List NodeId). Added (DifferenceLeft p lost z false []) [] D) s ds) in
    let together : atoms ≡ R ++ (E ++ D) = a ∙ ap (λ (z : List Atom). z ++ D) f ∙ append_assoc R E D in
    inr (t, is_list law grows p t form.nf form.normal R E D rs' es' ds' atoms together)
