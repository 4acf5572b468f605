-- Disequalities moved to the least nodes of classes.
use Rattle.std.proofs.Common.{◌≡◌, ℕ, ◌≢◌, ◌⊎◌, ◌<◌, ◌≤◌, ◌+◌, ℤ, pos, negsuc, ◌+ℤ◌, ◌-ℤ◌, neg_ℤ, ◌≤ℤ◌, ◌<ℤ◌, List, Option, Some, None, slice_get, get_or, length, Bool, true, false, refl, sym, ◌∙◌, ap, subst, inl, inr, arith}
use Rattle.std.proofs.lemmas.Int.{ints}
use Rattle.std.proofs.lemmas.Option.{slice_get_within, slice_get-get_or}
use Rattle.mc_base.specs.declared.ids.NodeId.{NodeId}
use Rattle.mc_base.specs.declared.plain.Atom.{Atom}
use Rattle.mc_base.specs.declared.plain.Atom.TheVariants.{Eq, Ne, In}
use Rattle.mc_pure.specs.Pure.{Pure, IsNode}
use Rattle.mc_pure.specs.Derived.{Follows, IsFalse, HasRange, turned, chained, differs, differs_along}
use Rattle.mc_pure.specs.Rows.{IsShort}
use Rattle.mc_pure.specs.Classes.{IsLong}
use Rattle.mc_pure.specs.declared.classes.ClassPlace.{ClassPlace}
use Rattle.mc_pure_ops.specs.declared.canon.gaps.Gap.{Gap}
use Rattle.mc_pure_ops.specs.Canon.Order.{GivesAtMost}
use Rattle.mc_pure_ops.specs.Canon.Left.{IsPlace, FindsPlace}
use Rattle.mc_pure_ops.specs.Canon.Gaps.{AreNodes, AreApart, ArePair, IsMoved, MovedPlaces, StartGives, StartsGive, IsPlain, IsTurned, gap_atom, turned_gap, Shows, Gives, GapOf, PairGives, PairsGiveAt}
use Rattle.mc_pure_ops.proofs.CanonLemmas.Lists.{at_most_as}
use Rattle.mc_pure_ops.proofs.CanonLemmas.Nodes.{ne_as, place_once, not_below, kind_range}
use Rattle.mc_pure_ops.proofs.JoinLemmas.Follow.{eq_as, range_once}

pub gap_same : (a b : Gap) → a.left ≡ b.left → a.right ≡ b.right → a.by ≡ b.by → a ≡ b
gap_same a b p q r =
    ap (λ (z : NodeId). let x : Gap = record { left = z; right = a.right; by = a.by } in x) p
    ∙ ap (λ (z : NodeId). let x : Gap = record { left = b.left; right = z; by = a.by } in x) q
    ∙ ap (λ (z : ℤ). let x : Gap = record { left = b.left; right = b.right; by = z } in x) r

-- ranges that do not meet
pub apart_to : (p : Pure) (g : Gap) (l h m k : ℤ) → HasRange p g.left l h → HasRange p g.right m k → (h <ℤ (m +ℤ g.by)) ⊎ ((k +ℤ g.by) <ℤ l) → AreApart p g
apart_to p g l h m k x y w = record { lo = l; hi = h; m = m; k = k; left_range = x; right_range = y; apart = w }

pub apart_from : (p : Pure) (nf : IsFalse p → ⊥) (g : Gap) (l h m k : ℤ) → HasRange p g.left l h → HasRange p g.right m k → AreApart p g → (h <ℤ (m +ℤ g.by)) ⊎ ((k +ℤ g.by) <ℤ l)
apart_from p nf g l h m k x y a =
    let u = range_once p nf g.left a.lo a.hi l h a.left_range x in
    let v = range_once p nf g.right a.m a.k m k a.right_range y in
    elim a.apart [ inl w ↦ inl (omega (arith, ints, u.1, v.0)) | inr w ↦ inr (omega (arith, ints, u.0, v.1)) ]

-- the range of a node lies in that of its kind
pub range_bounds : (p : Pure) (a : NodeId) (l h : ℤ) → IsNode p.kinds a → HasRange p a l h → (negsuc 2147483647 ≤ℤ l) × (h ≤ℤ pos 4611686018427387903)
range_bounds p a l h na r =
    let k = kind_range p a na in
    let w = r.least k.0 k.1 k.2 in
    (omega (arith, ints, k.3, w.0), omega (arith, ints, k.4, w.1))

pub met_long : (l h m k c : ℤ) → negsuc 2147483647 ≤ℤ l → h ≤ℤ pos 4611686018427387903 → negsuc 2147483647 ≤ℤ m → k ≤ℤ pos 4611686018427387903 → ((h <ℤ (m +ℤ c)) ⊎ ((k +ℤ c) <ℤ l) → ⊥) → IsLong c
met_long l h m k c a b d e n =
    let x = not_below (m +ℤ c) h (λ w. n (inl w)) in
    let y = not_below l (k +ℤ c) (λ w. n (inr w)) in
    (omega (arith, ints), omega (arith, ints))

-- the same of ends that are theirs
pub spans_to : (l h m k ll lh rl rh c d : ℤ) → ll ≡ l → lh ≡ h → rl ≡ m → rh ≡ k → d ≡ c → (lh <ℤ (rl +ℤ d)) ⊎ ((rh +ℤ d) <ℤ ll) → (h <ℤ (m +ℤ c)) ⊎ ((k +ℤ c) <ℤ l)
spans_to l h m k ll lh rl rh c d p q r s e (inl w) = inl (omega (arith, ints))
spans_to l h m k ll lh rl rh c d p q r s e (inr w) = inr (omega (arith, ints))

pub spans_from : (l h m k ll lh rl rh c d : ℤ) → ll ≡ l → lh ≡ h → rl ≡ m → rh ≡ k → d ≡ c → (h <ℤ (m +ℤ c)) ⊎ ((k +ℤ c) <ℤ l) → (lh <ℤ (rl +ℤ d)) ⊎ ((rh +ℤ d) <ℤ ll)
spans_from l h m k ll lh rl rh c d p q r s e (inl w) = inl (omega (arith, ints))
spans_from l h m k ll lh rl rh c d p q r s e (inr w) = inr (omega (arith, ints))

-- a disequality of nodes and that of the nodes of a gap, by the places of all four
module _ (p : Pure) (nf : IsFalse p → ⊥) (x y : NodeId) (d : ℤ) (g : Gap) (first second left right : ClassPlace) (px : IsPlace p None x first) (py : IsPlace p None y second) (pl : IsPlace p None g.left left) (pr : IsPlace p None g.right right) where
  pub moved_to : MovedPlaces first second left right d g.by → IsMoved p x y d g
  moved_to m =
      let by = m.by_is in
      record {
        e = first.offset -ℤ left.offset;
        h = second.offset -ℤ right.offset;
        left_equal = eq_as p (chained (eq_as p px.equal refl m.left_is refl) (turned pl.equal)) refl refl (omega (arith, ints));
        right_equal = eq_as p (chained (eq_as p py.equal refl m.right_is refl) (turned pr.equal)) refl refl (omega (arith, ints));
        by_is = omega (arith, ints);
      }

  pub moved_from : IsMoved p x y d g → MovedPlaces first second left right d g.by
  moved_from m =
      let by = m.by_is in
      let a = place_once p nf None x first (record { least = left.least; offset = m.e +ℤ left.offset }) px (record { least = pl.least; equal = chained m.left_equal pl.equal }) in
      let b = place_once p nf None y second (record { least = right.least; offset = m.h +ℤ right.offset }) py (record { least = pr.least; equal = chained m.right_equal pr.equal }) in
      let ea : first.offset ≡ m.e +ℤ left.offset = ap (λ (z : ClassPlace). z.offset) a in
      let eb : second.offset ≡ m.h +ℤ right.offset = ap (λ (z : ClassPlace). z.offset) b in
      record {
        left_is = ap (λ (z : ClassPlace). z.least) a;
        right_is = ap (λ (z : ClassPlace). z.least) b;
        by_is = omega (arith, ints);
      }

-- one way round alone
pub one_way : (inside : Bool) (g : Gap) → IsTurned inside g → IsTurned inside (turned_gap g) → ⊥
one_way true g x y = let u = x.1 in let v = y.1 in omega (arith, ints)
one_way false g x y = omega arith

pub gives_first : (p : Pure) (starts : List NodeId) (inside : Bool) (g : Gap) (f : Atom) → GivesAtMost (Shows p starts inside g) (Some f) → GivesAtMost (Gives p starts inside g) (Some f)
gives_first p starts inside g f m = (inl m.0, λ h k. elim k [ inl x ↦ m.1 h x | inr x ↦ absurd (one_way inside g m.0.turned x.turned) ])

pub gives_second : (p : Pure) (starts : List NodeId) (inside : Bool) (g t : Gap) (o : Option Atom) → t.left ≡ g.right → t.right ≡ g.left → t.by ≡ neg_ℤ g.by → GivesAtMost (Shows p starts inside g) None → GivesAtMost (Shows p starts inside t) o → GivesAtMost (Gives p starts inside g) o
gives_second p starts inside g t o a b c none m =
    let m' = subst (λ (z : Gap). GivesAtMost (Shows p starts inside z) o) (gap_same t (turned_gap g) a b c) m in
    at_most_as (Shows p starts inside (turned_gap g)) (Gives p starts inside g) o (λ h k. inr k) (λ h k. elim k [ inl x ↦ absurd (none h x) | inr x ↦ x ]) m'

-- the gap of a disequality is one
pub gap_once : (p : Pure) (nf : IsFalse p → ⊥) (lost : Option NodeId) (x y : NodeId) (d : ℤ) (g t : Gap) → GapOf p lost x y d g → GapOf p lost x y d t → g ≡ t
gap_once p nf lost x y d g t a b =
    let l = place_once p nf lost x a.left_place b.left_place a.left_is b.left_is in
    let r = place_once p nf lost y a.right_place b.right_place a.right_is b.right_is in
    let lo = ap (λ (z : ClassPlace). z.offset) l in
    let ro = ap (λ (z : ClassPlace). z.offset) r in
    let ga = a.by in
    let gb = b.by in
    gap_same g t (a.left ∙ ap (λ (z : ClassPlace). z.least) l ∙ sym b.left) (a.right ∙ ap (λ (z : ClassPlace). z.least) r ∙ sym b.right) (omega (arith, ints))

module _ (p : Pure) (nf : IsFalse p → ⊥) (lost : Option NodeId) (starts : List NodeId) (inside : Bool) (x y : NodeId) (d : ℤ) where
  pub pair_found : (first second : ClassPlace) (g : Gap) (o : Option Atom) → IsPlace p lost x first → IsPlace p lost y second → g.left ≡ first.least → g.right ≡ second.least → g.by ≡ (second.offset +ℤ d) -ℤ first.offset → GivesAtMost (Gives p starts inside g) o → GivesAtMost (PairGives p lost starts inside x y d) o
  pair_found first second g o px py l r b m =
      let here : GapOf p lost x y d g = record { left_place = first; right_place = second; left_is = px; right_is = py; left = l; right = r; by = b } in
      at_most_as (Gives p starts inside g) (PairGives p lost starts inside x y d) o
      (λ f k. (g, here, k))
      (λ f k. subst (λ (z : Gap). Gives p starts inside z f) (gap_once p nf lost x y d k.0 g k.1 here) k.2)
      m

  pub no_first : FindsPlace p lost x None → GivesAtMost (PairGives p lost starts inside x y d) None
  no_first none f k = none k.1.left_place k.1.left_is

  pub no_second : FindsPlace p lost y None → GivesAtMost (PairGives p lost starts inside x y d) None
  no_second none f k = none k.1.right_place k.1.right_is

-- the atom of a gap follows from the disequality
pub gap_true : (p : Pure) (lost : Option NodeId) (x y : NodeId) (d : ℤ) (g : Gap) → GapOf p lost x y d g → Follows p (Ne x y d) → Follows p (gap_atom g)
gap_true p lost x y d g k f =
    let one = differs (differs_along (differs (differs_along f k.right_is.equal)) k.left_is.equal) in
    let by = k.by in
    let e : neg_ℤ (neg_ℤ (d +ℤ k.right_place.offset) +ℤ k.left_place.offset) ≡ g.by = omega (arith, ints) in
    subst (λ (z : NodeId). Follows p (Ne z g.right g.by)) (sym k.left)
    (subst (λ (z : NodeId). Follows p (Ne k.left_place.least z g.by)) (sym k.right) (ne_as p one e))

split : (k n : ℕ) → k < n + 1 → (k < n) ⊎ (k ≡ n)
split k n l = grind arith

at_place : (xs : List NodeId) (i k : ℕ) (d x : NodeId) → i < length xs → k ≡ i → slice_get xs k ≡ Some x → get_or xs i d ≡ x
at_place xs i k d x l s e =
    let h : slice_get xs i ≡ Some x = subst (λ (z : ℕ). slice_get xs z ≡ Some x) s e in
    let m = slice_get-get_or xs i d l in
    cc

-- starts of blocks, as the code has them
module _ (p : Pure) (nf : IsFalse p → ⊥) (starts : List NodeId) (i : ℕ) (d : NodeId) (g : Gap) (first left right : ClassPlace) (li : i < length starts) (px : IsPlace p None (get_or starts i d) first) (pl : IsPlace p None g.left left) (pr : IsPlace p None g.right right) where
  first_at : (x : NodeId) → slice_get starts i ≡ Some x → IsPlace p None x first
  first_at x e = subst (λ (z : NodeId). IsPlace p None z first) (at_place starts i i d x li refl e) px

  pub start_class : (first.least ≡ left.least → ⊥) → StartGives p starts g i → ⊥
  start_class ne k =
      let m = k.4 in
      let a = place_once p nf None k.1 first (record { least = left.least; offset = m.e +ℤ left.offset }) (first_at k.1 k.3.first) (record { least = pl.least; equal = chained m.left_equal pl.equal }) in
      ne (ap (λ (z : ClassPlace). z.least) a)

  pub start_yes : (j : ℕ) (second : ClassPlace) → j < length starts → i ≢ j → IsPlace p None (get_or starts j d) second → MovedPlaces first second left right (pos 0) g.by → StartGives p starts g i
  start_yes j second lj ne py m =
      (j, get_or starts i d, get_or starts j d, record { differ = ne; first = slice_get-get_or starts i d li; second = slice_get-get_or starts j d lj }, moved_to p nf (get_or starts i d) (get_or starts j d) (pos 0) g first second left right px py pl pr m)

  -- none of the first starts
  abbrev pub NoneBelow : ℕ → Type 0
  NoneBelow n = (j : ℕ) (x y : NodeId) → j < n → ArePair starts i j x y → IsMoved p x y (pos 0) g → ⊥

  pub start_other : (n : ℕ) (second : ClassPlace) → n < length starts → IsPlace p None (get_or starts n d) second → (MovedPlaces first second left right (pos 0) g.by → ⊥) → NoneBelow n → NoneBelow (n + 1)
  start_other n second ln py never below j x y l w m = elim (split j n l) [
    | inl z ↦ below j x y z w m
    | inr z ↦
        let py' = subst (λ (u : NodeId). IsPlace p None u second) (at_place starts n j d y ln z w.second) py in
        never (moved_from p nf x y (pos 0) g first second left right (first_at x w.first) py' pl pr m)
  ]

  pub start_itself : (n : ℕ) → i ≡ n → NoneBelow n → NoneBelow (n + 1)
  start_itself n e below j x y l w m = elim (split j n l) [ inl z ↦ below j x y z w m | inr z ↦ w.differ (e ∙ sym z) ]

  pub start_no : (n : ℕ) → length starts ≤ n → NoneBelow n → StartGives p starts g i → ⊥
  start_no n l below k = let w = slice_get_within starts k.0 k.2 k.3.second in below k.0 k.1 k.2 (omega arith) k.3 k.4

pub starts_more : (p : Pure) (starts : List NodeId) (g : Gap) (n : ℕ) → ((i : ℕ) → i < n → StartGives p starts g i → ⊥) → (StartGives p starts g n → ⊥) → (i : ℕ) → i < n + 1 → StartGives p starts g i → ⊥
starts_more p starts g n below here i l k = elim (split i n l) [
  | inl z ↦ below i z k
  | inr z ↦ here (subst (λ (u : ℕ). StartGives p starts g u) z k)
]

pub starts_no : (p : Pure) (starts : List NodeId) (g : Gap) (n : ℕ) → length starts ≤ n → ((i : ℕ) → i < n → StartGives p starts g i → ⊥) → StartsGive p starts g → ⊥
starts_no p starts g n l below k = let w = slice_get_within starts k.0 k.1.1 k.1.3.first in below k.0 (omega arith) k.1
