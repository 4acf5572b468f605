-- What follows from ranges, equalities and starts of blocks alone.
use Rattle.std.proofs.Common.{◌≡◌, ℕ, zero, suc, ◌⊎◌, ℤ, pos, ◌-ℤ◌, List, [], ◌∷◌, Some, slice_get, refl, sym, ◌∙◌, ap, subst, inl, inr, arith}
use Rattle.std.proofs.lemmas.Int.{ints}
use Rattle.mc_base.specs.declared.ids.NodeId.{NodeId}
use Rattle.mc_base.specs.declared.plain.Atom.{Atom}
use Rattle.mc_base.specs.declared.plain.Atom.TheVariants.{Eq, Ne, In}
use Rattle.mc_pure.specs.declared.rows.Row.{Row}
use Rattle.mc_pure.specs.Pure as begin
use Rattle.mc_pure.specs.Pure.{Pure, IsNode, Base, written, kind, block, apart}
use Rattle.mc_pure.specs.Derived.{Follows, HasRange, base, turned, chained, widened}
use Rattle.mc_pure.specs.Normal.{low, high, IsNormal}
use Rattle.mc_pure.specs.Rows.{nodes_of, IsTie}
use Rattle.mc_pure.specs.Classes.{NormalSaysAll}
use Rattle.mc_pure.specs.Laws.{FollowsFromMore}
use Rattle.mc_pure_ops.specs.Canon.Order.{Among}
use Rattle.mc_pure_ops.specs.Canon.Gaps.{ArePair, IsPlain}
use Rattle.mc_pure_ops.proofs.CanonLemmas.Nodes.{node_there}
use Rattle.mc_pure.proofs.Placing.{node_place}
use Rattle.mc_pure_ops.proofs.CanonLemmas.Moving.{apart_to}
use Rattle.mc_pure_ops.proofs.JoinLemmas.Follow.{eq_as}

-- the ranges and equalities that a normal form says of nodes
abbrev pub ties_of : (NodeId → Row) → List NodeId → List Atom
ties_of nf [] = []
ties_of nf (n ∷ ns) = In n (low (nf n)) (high (nf n)) ∷ Eq n (nf n).rep (nf n).off ∷ ties_of nf ns

range_tie : (nf : NodeId → Row) (ns : List NodeId) (i : ℕ) (n : NodeId) → slice_get ns i ≡ Some n → Among (ties_of nf ns) (In n (low (nf n)) (high (nf n)))
range_tie nf [] i n e = cc
range_tie nf (m ∷ ns) zero n e =
    let s : m ≡ n = cc in
    (zero, ap (λ (z : NodeId). Some (In z (low (nf z)) (high (nf z)))) s)
range_tie nf (m ∷ ns) (suc i) n e = let k = range_tie nf ns i n e in (suc (suc k.0), k.1)

class_tie : (nf : NodeId → Row) (ns : List NodeId) (i : ℕ) (n : NodeId) → slice_get ns i ≡ Some n → Among (ties_of nf ns) (Eq n (nf n).rep (nf n).off)
class_tie nf [] i n e = cc
class_tie nf (m ∷ ns) zero n e =
    let s : m ≡ n = cc in
    (suc zero, ap (λ (z : NodeId). Some (Eq z (nf z).rep (nf z).off)) s)
class_tie nf (m ∷ ns) (suc i) n e = let k = class_tie nf ns i n e in (suc (suc k.0), k.1)

pub data IsTieOf (nf : NodeId → Row) (ns : List NodeId) (f : Atom) : Type 0 where
  range_is : (n : NodeId) (i : ℕ) → slice_get ns i ≡ Some n → f ≡ In n (low (nf n)) (high (nf n)) → IsTieOf nf ns f
  class_is : (n : NodeId) (i : ℕ) → slice_get ns i ≡ Some n → f ≡ Eq n (nf n).rep (nf n).off → IsTieOf nf ns f

tie_from : (nf : NodeId → Row) (ns : List NodeId) (k : ℕ) (f : Atom) → slice_get (ties_of nf ns) k ≡ Some f → IsTieOf nf ns f
tie_from nf [] k f e = cc
tie_from nf (m ∷ ns) zero f e = range_is m zero refl cc
tie_from nf (m ∷ ns) (suc zero) f e = class_is m zero refl cc
tie_from nf (m ∷ ns) (suc (suc k)) f e = later (tie_from nf ns k f e)
  where
    later : IsTieOf nf ns f → IsTieOf nf (m ∷ ns) f
    later (range_is n i g h) = range_is n (suc i) g h
    later (class_is n i g h) = class_is n (suc i) g h

module _ (law : NormalSaysAll) (p : Pure) (nf : NodeId → Row) (n : IsNormal p nf) where
  pub range_of : (a : NodeId) → IsNode p.kinds a → HasRange p a (low (nf a)) (high (nf a))
  range_of a na = record { follows = (n.sound a na).within; least = λ m k d. let h = law p nf n (In a m k) d in (h.1, h.2) }

  -- two nodes of one class
  pub between : (x a : NodeId) → IsNode p.kinds x → IsNode p.kinds a → (nf x).rep ≡ (nf a).rep → Follows p (Eq x a ((nf x).off -ℤ (nf a).off))
  between x a nx na e = eq_as p (chained (eq_as p (n.sound x nx).equal refl e refl) (turned (n.sound a na).equal)) refl refl (omega (arith, ints))

  module _ (starts : List NodeId) (fewer : (i : ℕ) (a : NodeId) → slice_get starts i ≡ Some a → slice_get p.starts i ≡ Some a) where
    abbrev q : Pure
    q = record { kinds = p.kinds; written = ties_of nf (nodes_of p.kinds); starts = starts }

    tie_of_p : (f : Atom) → IsTieOf nf (nodes_of p.kinds) f → Follows p f
    tie_of_p f (range_is m i e h) = subst (λ (z : Atom). Follows p z) (sym h) (n.sound m (node_there p.kinds i m e)).within
    tie_of_p f (class_is m i e h) = subst (λ (z : Atom). Follows p z) (sym h) (n.sound m (node_there p.kinds i m e)).equal

    tie_true : (f : Atom) → Base q f → IsTie f → Follows p f
    tie_true f (written place e) t = tie_of_p f (tie_from nf (nodes_of p.kinds) place f e)
    tie_true _ begin.zero t = base begin.zero
    tie_true _ (kind place e) t = base (kind place e)
    tie_true _ (block {a} place e) t = base (block place (fewer place a e))
    tie_true _ (apart i j ne x y) t = absurd t

    no_ne : (f : Atom) (x y : NodeId) (d : ℤ) → IsTieOf nf (nodes_of p.kinds) f → f ≡ Ne x y d → ⊥
    no_ne f x y d (range_is m i e h) g = let z = sym g ∙ h in cc
    no_ne f x y d (class_is m i e h) g = let z = sym g ∙ h in cc

    pair_of : (f : Atom) (x y : NodeId) (d : ℤ) → Base q f → f ≡ Ne x y d → (i j : ℕ) × ArePair starts i j x y × (d ≡ pos 0)
    pair_of f x y d (written place e) g = absurd (no_ne f x y d (tie_from nf (nodes_of p.kinds) place f e) g)
    pair_of _ x y d begin.zero g = cc
    pair_of _ x y d (kind place e) g = cc
    pair_of _ x y d (block place e) g = cc
    pair_of _ x y d (apart {a} {b} i j ne ex ey) g =
        let ea : a ≡ x = cc in
        let eb : b ≡ y = cc in
        let ed : pos 0 ≡ d = cc in
        (i, j, record { differ = ne; first = subst (λ (z : NodeId). slice_get starts i ≡ Some z) ea ex; second = subst (λ (z : NodeId). slice_get starts j ≡ Some z) eb ey }, sym ed)

    ne_of_p : (x y : NodeId) (d : ℤ) → Base q (Ne x y d) → Base p (Ne x y d)
    ne_of_p x y d m =
        let k = pair_of (Ne x y d) x y d m refl in
        subst (λ (z : ℤ). Base p (Ne x y z)) (sym k.3) (apart k.0 k.1 k.2.differ (fewer k.0 x k.2.first) (fewer k.1 y k.2.second))

    own_range : (a : NodeId) → IsNode p.kinds a → Follows q (In a (low (nf a)) (high (nf a)))
    own_range a na = let l = node_place p.kinds a na in let k = range_tie nf (nodes_of p.kinds) l.0 a l.1 in base (written k.0 k.1)

    own_class : (a : NodeId) → IsNode p.kinds a → Follows q (Eq a (nf a).rep (nf a).off)
    own_class a na = let l = node_place p.kinds a na in let k = class_tie nf (nodes_of p.kinds) l.0 a l.1 in base (written k.0 k.1)

    q_normal : IsNormal q nf
    q_normal = record {
      sound = λ a na. record { equal = own_class a na; within = own_range a na };
      coherent = n.coherent;
      full = n.full;
      origin = n.origin;
      pinned = n.pinned;
      equals = λ a b c m. law p nf n (Eq a b c) (tie_true (Eq a b c) m tt);
      ranges = λ a l h m. law p nf n (In a l h) (tie_true (In a l h) m tt);
      known = λ a b c m. n.known a b c (ne_of_p a b c m);
      differ = λ a b c m. n.differ a b c (ne_of_p a b c m);
      narrow = λ a b c m. n.narrow a b c (ne_of_p a b c m);
      narrow' = λ a b c m. n.narrow' a b c (ne_of_p a b c m);
    }

    tie_follows : (f : Atom) → IsTie f → Follows p f → Follows q f
    tie_follows (Eq a b c) t d =
        let h = law p nf n (Eq a b c) d in
        eq_as q (chained (eq_as q (own_class a h.0) refl h.2 refl) (turned (own_class b h.1))) refl refl (omega (arith, ints, h.3))
    tie_follows (In a l m) t d = let h = law p nf n (In a l m) d in widened (own_range a h.0) h.1 h.2
    tie_follows (Ne a b c) t d = absurd t

    -- the base atoms are ranges and equalities that follow, and that starts of blocks differ
    abbrev pub IsPlainly : Pure → Type 0
    IsPlainly r =
        ((m : NodeId) → IsNode r.kinds m → IsNode p.kinds m)
        × ((f : Atom) → Base r f → (IsTie f × Follows p f) ⊎ ((i j : ℕ) × (x y : NodeId) × ArePair starts i j x y × (f ≡ Ne x y (pos 0))))

    -- then what differs is plain
    pub plain : FollowsFromMore → (r : Pure) → IsPlainly r → (a b : NodeId) (c : ℤ) → Follows r (Ne a b c) → IsPlain p starts (record { left = a; right = b; by = c })
    plain grows r w a b c d =
        let d' = grows r q w.0 (λ f m. elim (w.1 f m) [
          | inl k ↦ tie_follows f k.0 k.1
          | inr k ↦ subst (λ (z : Atom). Follows q z) (sym k.5) (base (apart k.0 k.1 k.4.differ k.4.first k.4.second))
        ]) (Ne a b c) d in
        let h = law q nf q_normal (Ne a b c) d' in
        elim h.2 [
          | inl k ↦ inl (apart_to p (record { left = a; right = b; by = c }) _ _ _ _ (range_of a h.0) (range_of b h.1) k)
          | inr l ↦ inr (elim l [
            | inl u ↦
                let k = pair_of (Ne u.0 u.1 u.2) u.0 u.1 u.2 u.3 refl in
                let known = n.known u.0 u.1 u.2 (ne_of_p u.0 u.1 u.2 u.3) in
                let by = u.4.by in
                let z = k.3 in (
                  k.0,
                  (
                    k.1,
                    u.0,
                    u.1,
                    k.2,
                    record {
                      e = (nf u.0).off -ℤ (nf a).off;
                      h = (nf u.1).off -ℤ (nf b).off;
                      left_equal = between u.0 a known.0 h.0 u.4.left;
                      right_equal = between u.1 b known.1 h.1 u.4.right;
                      by_is = omega (arith, ints);
                    },
                  ),
                )
            | inr u ↦
                let k = pair_of (Ne u.0 u.1 u.2) u.0 u.1 u.2 u.3 refl in
                let known = n.known u.0 u.1 u.2 (ne_of_p u.0 u.1 u.2 u.3) in
                let by = u.4.by in
                let z = k.3 in (
                  k.1,
                  (
                    k.0,
                    u.1,
                    u.0,
                    record { differ = λ e. k.2.differ (sym e); first = k.2.second; second = k.2.first },
                    record {
                      e = (nf u.1).off -ℤ (nf a).off;
                      h = (nf u.0).off -ℤ (nf b).off;
                      left_equal = between u.1 a known.1 h.0 u.4.right;
                      right_equal = between u.0 b known.0 h.1 u.4.left;
                      by_is = omega (arith, ints);
                    },
                  ),
                )
          ])
        ]
