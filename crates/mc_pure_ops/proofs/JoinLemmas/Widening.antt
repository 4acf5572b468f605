-- Hulls and widened ranges.
use Rattle.std.proofs.Common.{◌≡◌, ◌⊎◌, ◌≤◌, ℕ, ℤ, pos, negsuc, ◌≤ℤ◌, ◌<ℤ◌, List, All, Some, None, slice_get, refl, sym, ◌∙◌, ap, subst, inl, inr, arith}
use Rattle.std.proofs.lemmas.Int.{ints, clamps}
use Rattle.std.proofs.lemmas.List.Elements.{All-contains}
use Rattle.std.specs.Int.{int_max, int_min}
use Rattle.mc_base.specs.declared.ids.NodeId.{NodeId}
use Rattle.mc_base.specs.declared.plain.Kind.{Kind}
use Rattle.mc_base.specs.declared.plain.Kind.TheVariants.{Int, Ptr}
use Rattle.mc_base.specs.declared.plain.Atom.{Atom}
use Rattle.mc_base.specs.declared.plain.Atom.TheVariants.{In}
use Rattle.mc_base.specs.declared.ranges.Range.{Range}
use Rattle.mc_base.specs.Ranges.Ends.{IsInt, IsBetween}
use Rattle.mc_base.specs.Ranges.Range.{IsEmpty, IsIntRange, IsLeastRange, InEither}
use Rattle.mc_base.specs.Ranges.Thresholds.{IsNearestAbove, IsNearestBelow, WidensUp, WidensDown}
use Rattle.mc_pure.specs.Pure.{Pure, HasKind}
use Rattle.mc_pure.specs.Derived.{IsFalse, HasRange}
use Rattle.mc_pure_ops.specs.Canon.Order.{GivesAtMost}
use Rattle.mc_pure_ops.specs.Join.Joint.{Pairs, IsKindOfPair, IsLate, IsJointRange}
use Rattle.mc_pure_ops.specs.Join.Parts.{node, MayBeKind, RangeAt}
use Rattle.mc_pure_ops.proofs.JoinLemmas.Follow.{not_below, range_once, int_range}
use Rattle.mc_pure_ops.proofs.JoinLemmas.Pairing.{Pair, pair_same}

pub hull_ends : (one other both : Range) → (IsEmpty one → ⊥) → (IsEmpty other → ⊥) → IsLeastRange (InEither one other) both → (both.lo ≡ int_min one.lo other.lo) × (both.hi ≡ int_max one.hi other.hi)
hull_ends one other both p q h =
    let x = not_below one.lo one.hi p in
    let y = not_below other.lo other.hi q in
    let a = h.all one.lo (inl (omega (arith, ints), x)) in
    let b = h.all one.hi (inl (x, omega (arith, ints))) in
    let c = h.all other.lo (inr (omega (arith, ints), y)) in
    let d = h.all other.hi (inr (y, omega (arith, ints))) in
    let inside = λ (n : ℤ) (w : InEither one other n). within n w in
    let u = h.least (int_min one.lo other.lo) (int_max one.hi other.hi) inside both.lo (omega (arith, ints), omega (arith, ints, a.0, a.1)) in
    let v = h.least (int_min one.lo other.lo) (int_max one.hi other.hi) inside both.hi (omega (arith, ints, a.0, a.1), omega (arith, ints)) in
    (omega (arith, ints, clamps, a.0, c.0, u.0), omega (arith, ints, clamps, b.1, d.1, v.1))
  where
    within : (n : ℤ) → InEither one other n → IsBetween (int_min one.lo other.lo) (int_max one.hi other.hi) n
    within n (inl w) = (omega (arith, ints, clamps, w.0), omega (arith, ints, clamps, w.1))
    within n (inr w) = (omega (arith, ints, clamps, w.0), omega (arith, ints, clamps, w.1))

-- the nearest threshold is one
module _ (thresholds : List ℤ) (all : All IsInt thresholds) where
  above_int : (n e : ℤ) → IsNearestAbove thresholds n e → e ≤ℤ pos 2147483647
  above_int n e h = elim h.among [
    | inl c ↦ (let i = All-contains IsInt thresholds e all c in i.1)
    | inr s ↦ omega (arith, ints)
  ]

  above_le : (n d e : ℤ) → IsNearestAbove thresholds n d → IsNearestAbove thresholds n e → d ≤ℤ e
  above_le n d e h k = elim k.among [
    | inl c ↦ All-contains (λ (t : ℤ). n ≤ℤ t → d ≤ℤ t) thresholds e h.nearest c k.reached
    | inr s ↦ (let i = above_int n d h in omega (arith, ints))
  ]

  below_int : (n e : ℤ) → IsNearestBelow thresholds n e → negsuc 2147483647 ≤ℤ e
  below_int n e h = elim h.among [
    | inl c ↦ (let i = All-contains IsInt thresholds e all c in i.0)
    | inr s ↦ omega (arith, ints)
  ]

  below_le : (n d e : ℤ) → IsNearestBelow thresholds n d → IsNearestBelow thresholds n e → e ≤ℤ d
  below_le n d e h k = elim k.among [
    | inl c ↦ All-contains (λ (t : ℤ). t ≤ℤ n → t ≤ℤ d) thresholds e h.nearest c k.reached
    | inr s ↦ (let i = below_int n d h in omega (arith, ints))
  ]

  sides : (a b : ℤ) → (a ≤ℤ b) ⊎ (b <ℤ a)
  sides a b = grind (arith, ints)

  up_once : (old new d e : ℤ) → WidensUp thresholds old new d → WidensUp thresholds old new e → d ≡ e
  up_once old new d e h k = elim (sides new old) [
    | inl x ↦ h.kept x ∙ sym (k.kept x)
    | inr x ↦ (let u = above_le new d e (h.moved x) (k.moved x) in let v = above_le new e d (k.moved x) (h.moved x) in omega (arith, ints, u, v))
  ]

  down_once : (old new d e : ℤ) → WidensDown thresholds old new d → WidensDown thresholds old new e → d ≡ e
  down_once old new d e h k = elim (sides old new) [
    | inl x ↦ h.kept x ∙ sym (k.kept x)
    | inr x ↦ (let u = below_le new d e (h.moved x) (k.moved x) in let v = below_le new e d (k.moved x) (h.moved x) in omega (arith, ints, u, v))
  ]

  late_or : (kind : Kind) (round : ℕ) → IsLate kind round ⊎ (IsLate kind round → ⊥)
  late_or Int round = at round
    where
      at : (n : ℕ) → (3 ≤ n) ⊎ (3 ≤ n → ⊥)
      at n = grind arith
  late_or Ptr round = inr (λ h. h)

  pub joint_once : (kind : Kind) (round : ℕ) (x h y k lo hi m n : ℤ) → IsJointRange kind round thresholds x h y k lo hi → IsJointRange kind round thresholds x h y k m n → (lo ≡ m) × (hi ≡ n)
  joint_once kind round x h y k lo hi m n a b = elim (late_or kind round) [
    | inl l ↦ (let u = a.wide l in let v = b.wide l in (down_once x (int_min x y) lo m u.0 v.0, up_once h (int_max h k) hi n u.1 v.1))
    | inr l ↦ (let u = a.hull l in let v = b.hull l in (u.0 ∙ sym v.0, u.1 ∙ sym v.1))
  ]

range_as : (kind other : Kind) (round : ℕ) (t : List ℤ) (x h y k x' h' y' k' lo hi : ℤ) → kind ≡ other → x ≡ x' → h ≡ h' → y ≡ y' → k ≡ k' → IsJointRange kind round t x h y k lo hi → IsJointRange other round t x' h' y' k' lo hi
range_as kind other round t x h y k x' h' y' k' lo hi e p q r s j =
    subst (λ (z : Kind). IsJointRange z round t x' h' y' k' lo hi) e
    (subst (λ (z : ℤ). IsJointRange kind round t z h' y' k' lo hi) p
    (subst (λ (z : ℤ). IsJointRange kind round t x z y' k' lo hi) q
    (subst (λ (z : ℤ). IsJointRange kind round t x h z k' lo hi) r
    (subst (λ (z : ℤ). IsJointRange kind round t x h y z lo hi) s j))))

pub late_int : (p : Pure) (nf : IsFalse p → ⊥) (kind other : Kind) (round : ℕ) (n : NodeId) (r : Range) → kind ≡ other → HasKind p.kinds other n → HasRange p n r.lo r.hi → IsLate kind round → IsIntRange r
late_int p nf Int other round n r e k h l = int_range p nf n r.lo r.hi (subst (λ (z : Kind). HasKind p.kinds z n) (sym e) k) h
late_int p nf Ptr other round n r e k h l = absurd l

module _ (left right : Pure) (nl : IsFalse left → ⊥) (nr : IsFalse right → ⊥) (ps : Pairs) (round : ℕ) (thresholds : List ℤ) (all : All IsInt thresholds) (i : ℕ) (P : Pair) (at : slice_get ps i ≡ Some P) where
  pub no_range : MayBeKind left right P.0 P.1 None → GivesAtMost (RangeAt left right ps round thresholds i) None
  no_range none f h =
      let s = pair_same ps i P h.l h.r at h.pair in
      none h.kind (subst (λ (z : NodeId). IsKindOfPair left right z P.1 h.kind) (sym s.0) (subst (λ (z : NodeId). IsKindOfPair left right h.l z h.kind) (sym s.1) h.kind_is))

  pub one_range : (kind : Kind) (one other both : Range) → MayBeKind left right P.0 P.1 (Some kind) → HasRange left P.0 one.lo one.hi → HasRange right P.1 other.lo other.hi
      → IsJointRange kind round thresholds one.lo one.hi other.lo other.hi both.lo both.hi → GivesAtMost (RangeAt left right ps round thresholds i) (Some (In (node i) both.lo both.hi))
  one_range kind one other both k x y j = (
    record { kind = kind; l = P.0; r = P.1; pair = at; kind_is = k.0; x = one.lo; h = one.hi; y = other.lo; k = other.hi; left_range = x; right_range = y; lo = both.lo; hi = both.hi; range = j; is = refl },
    same,
  )
    where
      same : (f : Atom) → RangeAt left right ps round thresholds i f → f ≡ In (node i) both.lo both.hi
      same f h =
          let s = pair_same ps i P h.l h.r at h.pair in
          let kind_is : h.kind ≡ kind = k.1 h.kind (subst (λ (z : NodeId). IsKindOfPair left right z P.1 h.kind) (sym s.0) (subst (λ (z : NodeId). IsKindOfPair left right h.l z h.kind) (sym s.1) h.kind_is)) in
          let a = range_once left nl P.0 h.x h.h one.lo one.hi (subst (λ (z : NodeId). HasRange left z h.x h.h) (sym s.0) h.left_range) x in
          let b = range_once right nr P.1 h.y h.k other.lo other.hi (subst (λ (z : NodeId). HasRange right z h.y h.k) (sym s.1) h.right_range) y in
          let e = joint_once thresholds all kind round one.lo one.hi other.lo other.hi h.lo h.hi both.lo both.hi
          (range_as h.kind kind round thresholds h.x h.h h.y h.k one.lo one.hi other.lo other.hi h.lo h.hi kind_is a.0 a.1 b.0 b.1 h.range) j in
          h.is ∙ (ap (λ (z : ℤ). In (node i) z h.hi) e.0 ∙ ap (λ (z : ℤ). In (node i) both.lo z) e.1)
