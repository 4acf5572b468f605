-- Each node alone in its kind's range is a sound beginning.
use Rattle.std.proofs.Common.{◌≡◌, ◌≢◌, ℕ, zero, suc, pos, negsuc, ◌≤ℤ◌, ◌<◌, ◌⊎◌, List, [], ◌∷◌, Some, slice_get, map, refl, sym, ◌∙◌, ap, subst, inl, inr, arith}
use Rattle.std.proofs.lemmas.Int.{ints}
use Rattle.mc_base.specs.declared.ids.NodeId.{NodeId}
use Rattle.mc_base.specs.declared.plain.Kind.{Kind}
use Rattle.mc_base.specs.declared.plain.Kind.TheVariants.{Int, Ptr}
use Rattle.mc_base.specs.declared.plain.Atom.{Atom}
use Rattle.mc_base.specs.declared.plain.Atom.TheVariants.{Eq, Ne, In}
use Rattle.mc_base.specs.Nodes.{null}
use Rattle.mc_pure.specs.declared.rows.Row.{Row}
use Rattle.mc_pure.specs.Pure as begin
use Rattle.mc_pure.specs.Pure.{Pure, Kinds, IsNode, Base, IsWellFormed, low_of, high_of, kind_atom, written, kind, block, apart}
use Rattle.mc_pure.specs.Derived.{base, itself}
use Rattle.mc_pure.specs.Normal.{low, high}
use Rattle.mc_pure.specs.Nodes.{RiseFrom}
use Rattle.mc_pure.specs.Rows.{row_at, lone_row, At, Has, Over, RowSound, IsSound, nodes_of}
use Rattle.mc_pure.specs.Steps.{kind_row, start_rows, HasKinds}
use Rattle.mc_pure.specs.Known.{IsFit}
use Rattle.mc_pure.proofs.Changing.{has_row, in_at, number}
use Rattle.mc_pure.proofs.Placing.{kind_at, node_place, do_rise}

over_atom : (kinds : Kinds) (f : Atom) → IsWellFormed kinds f → Over (IsNode kinds) f
over_atom kinds (Eq a b c) w = ((w.0.0, w.0.1), (w.0.0, w.0.2))
over_atom kinds (Ne a b c) w = ((w.0.0, w.0.1), (w.0.0, w.0.2))
over_atom kinds (In a l h) w = w.0

pub known_over : (p : Pure) → IsFit p → RiseFrom 1 p.kinds → (f : Atom) → Base p f → Over (IsNode p.kinds) f
known_over p fit r f (written place e) = over_atom p.kinds f (fit.written place f e)
known_over p fit r _ begin.zero = (Int, inl refl)
known_over p fit r _ (kind {n} {k} place e) = (k, inr (kind_at 1 p.kinds r place n k e).0)
known_over p fit r _ (block {a} place e) = fit.starts place a e
known_over p fit r _ (apart {a} {b} i j ne x y) = (fit.starts i a x, fit.starts j b y)

map_row : (kinds : Kinds) (i : ℕ) (r : Row) → slice_get (map kind_row kinds) i ≡ Some r → (n : NodeId) × (k : Kind) × (slice_get kinds i ≡ Some (n, k)) × (r ≡ kind_row (n, k))
map_row [] i r e = cc
map_row (k ∷ kinds) zero r e = let s : kind_row k ≡ r = cc in (k.0, k.1, refl, sym s)
map_row (k ∷ kinds) (suc i) r e = map_row kinds i r e

row_map : (kinds : Kinds) (i : ℕ) (n : NodeId) (k : Kind) → slice_get kinds i ≡ Some (n, k) → slice_get (map kind_row kinds) i ≡ Some (kind_row (n, k))
row_map [] i n k e = cc
row_map (x ∷ kinds) zero n k e = let s : x ≡ (n, k) = cc in ap (λ (z : NodeId × Kind). Some (kind_row z)) s
row_map (x ∷ kinds) (suc i) n k e = row_map kinds i n k e

aligned : (kinds : Kinds) → map (λ r. r.node) (map kind_row kinds) ≡ map (λ k. k.0) kinds
aligned [] = refl
aligned (k ∷ kinds) = cc (aligned kinds)

kind_full : (k : Kind) → low_of k ≤ℤ high_of k
kind_full Int = omega (arith, ints)
kind_full Ptr = omega (arith, ints)

kind_above : (k : Kind) → negsuc 4611686018427387903 ≤ℤ low_of k
kind_above Int = omega (arith, ints)
kind_above Ptr = omega (arith, ints)

kind_below : (k : Kind) → high_of k ≤ℤ pos 4611686018427387903
kind_below Int = omega (arith, ints)
kind_below Ptr = omega (arith, ints)

kind_wide : (k : Kind) → low_of k ≢ high_of k
kind_wide Int e = absurd (omega (arith, ints))
kind_wide Ptr e = absurd (omega (arith, ints))

module _ (p : Pure) (fit : IsFit p) (rise : RiseFrom 1 p.kinds) where
  pub kind_sound : (i : ℕ) (n : NodeId) (k : Kind) → slice_get p.kinds i ≡ Some (n, k) → RowSound p (kind_row (n, k))
  kind_sound i n k e =
      let at = kind_at 1 p.kinds rise i n k e in
      let node : IsNode p.kinds n = (k, inr at.0) in
      let above = kind_above k in
      let below = kind_below k in
      record {
        node = node;
        equal = itself node;
        within = in_at p (base (kind i e)) refl (omega (arith, ints)) (omega (arith, ints));
        full = kind_full k;
        above = above;
        below = below;
        above' = omega (arith, ints);
        below' = omega (arith, ints);
        least = omega arith;
        pinned = λ z. absurd (kind_wide k z);
        zero = λ z. absurd (let w = number z in let l = at.1 in omega arith);
      }

  null_sound : RowSound p (lone_row null (pos 0) (pos 0))
  null_sound = record {
    node = (Int, inl refl);
    equal = itself (Int, inl refl);
    within = base begin.zero;
    full = omega (arith, ints);
    above = omega (arith, ints);
    below = omega (arith, ints);
    above' = omega (arith, ints);
    below' = omega (arith, ints);
    least = omega arith;
    pinned = λ z. refl;
    zero = λ z. (refl, refl);
  }

  each_sound : (i : ℕ) (r : Row) → slice_get (start_rows p.kinds) i ≡ Some r → RowSound p r
  each_sound zero r e = let s : lone_row null (pos 0) (pos 0) ≡ r = cc in subst (λ (z : Row). RowSound p z) s null_sound
  each_sound (suc i) r e = let m = map_row p.kinds i r e in subst (λ (z : Row). RowSound p z) (sym m.3) (kind_sound i m.0 m.1 m.2)

  own : (i : ℕ) (r : Row) → slice_get (start_rows p.kinds) i ≡ Some r → r.rep ≡ r.node
  own zero r e = let s : lone_row null (pos 0) (pos 0) ≡ r = cc in subst (λ (z : Row). z.rep ≡ z.node) s refl
  own (suc i) r e = let m = map_row p.kinds i r e in subst (λ (z : Row). z.rep ≡ z.node) (sym m.3) refl

  all_aligned : map (λ r. r.node) (start_rows p.kinds) ≡ nodes_of p.kinds
  all_aligned = cc (aligned p.kinds)

  node_there : (rows : List Row) (i : ℕ) (r : Row) → slice_get rows i ≡ Some r → slice_get (map (λ r. r.node) rows) i ≡ Some r.node
  node_there [] i r e = cc
  node_there (x ∷ rows) zero r e = let s : x ≡ r = cc in ap (λ (z : Row). Some z.node) s
  node_there (x ∷ rows) (suc i) r e = node_there rows i r e

  at_node : (i : ℕ) (r : Row) → slice_get (start_rows p.kinds) i ≡ Some r → slice_get (nodes_of p.kinds) i ≡ Some r.node
  at_node i r e = subst (λ (z : List NodeId). slice_get z i ≡ Some r.node) all_aligned (node_there (start_rows p.kinds) i r e)

  once : (r s : Row) → At (start_rows p.kinds) r → At (start_rows p.kinds) s → r.node ≡ s.node → r ≡ s
  once r s ar as' e = elim (order ar.0 as'.0) [
    | inl x ↦ absurd (let l = do_rise p.kinds rise ar.0 as'.0 r.node s.node x (at_node ar.0 r ar.1) (at_node as'.0 s as'.1) in let n = number e in omega arith)
    | inr y ↦ elim y [
      | inl x ↦ same ar.0 as'.0 x ar.1 as'.1
      | inr x ↦ absurd (let l = do_rise p.kinds rise as'.0 ar.0 s.node r.node x (at_node as'.0 s as'.1) (at_node ar.0 r ar.1) in let n = number e in omega arith)
    ]
  ]
    where
      order : (i j : ℕ) → (i < j) ⊎ ((i ≡ j) ⊎ (j < i))
      order i j = grind arith

      same : (i j : ℕ) → i ≡ j → slice_get (start_rows p.kinds) i ≡ Some r → slice_get (start_rows p.kinds) j ≡ Some s → r ≡ s
      same i j e a b = let c : slice_get (start_rows p.kinds) j ≡ Some r = subst (λ (z : ℕ). slice_get (start_rows p.kinds) z ≡ Some r) e a in some (sym c ∙ b)
        where
          some : Some r ≡ Some s → r ≡ s
          some e = cc

  has : (i : ℕ) (n : NodeId) → slice_get (nodes_of p.kinds) i ≡ Some n → Has (start_rows p.kinds) n
  has i n e = from (start_rows p.kinds) i (subst (λ (z : List NodeId). slice_get z i ≡ Some n) (sym all_aligned) e)
    where
      from : (rows : List Row) (i : ℕ) → slice_get (map (λ r. r.node) rows) i ≡ Some n → Has rows n
      from [] i e = cc
      from (x ∷ rows) zero e = (x, (zero, refl), cc)
      from (x ∷ rows) (suc i) e = let h = from rows i e in (h.0, (suc h.1.0, h.1.1), h.2)

  pub start_sound : IsSound p (start_rows p.kinds)
  start_sound = record {
    each = λ r at. each_sound at.0 r at.1;
    coherent = λ r s ar as' e.
        let k = once r s ar as' (sym (own ar.0 r ar.1) ∙ e ∙ own as'.0 s as'.1) in
        (ap (λ (z : Row). z.lo) k, ap (λ (z : Row). z.hi) k);
    all = λ a n. let k = node_place p.kinds a n in has k.0 a k.1;
    once = once;
    known = known_over p fit rise;
    aligned = all_aligned;
  }

  pub start_kinds : HasKinds p (start_rows p.kinds)
  start_kinds = record {
    zero = ((Int, inl refl), omega (arith, ints), omega (arith, ints));
    kinds = λ i n k e.
        let there : At (start_rows p.kinds) (kind_row (n, k)) = (suc i, row_map p.kinds i n k e) in
        let h = has_row (start_rows p.kinds) n (kind_row (n, k), there, refl) in
        let is = once (row_at (start_rows p.kinds) n) (kind_row (n, k)) h.0 there h.1 in
        let l = ap (λ (z : Row). low z) is in
        let u = ap (λ (z : Row). high z) is in
        ((k, inr (kind_at 1 p.kinds rise i n k e).0), omega (arith, ints, l), omega (arith, ints, u));
  }
