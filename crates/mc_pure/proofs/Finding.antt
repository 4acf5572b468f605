-- The row at a node's place.
use Rattle.std.proofs.Common.{◌≡◌, ◌≢◌, ◌⊎◌, ℕ, zero, suc, ℤ, pos, ◌<◌, ◌≤◌, List, [], ◌∷◌, Some, slice_get, get_or, map, refl, sym, ◌∙◌, ap, subst, inl, inr, arith}
use Rattle.std.proofs.lemmas.Option.{get_or_from_slice_get}
use Rattle.mc_base.specs.declared.ids.NodeId.{NodeId}
use Rattle.mc_base.specs.Nodes.{null}
use Rattle.mc_pure.specs.declared.rows.Row.{Row}
use Rattle.mc_pure.specs.Pure.{Pure, IsNode}
use Rattle.mc_pure.specs.declared.rows.Change.{Change}
use Rattle.mc_pure.specs.Nodes.{DoRise}
use Rattle.mc_pure.specs.Rows.{row_at, IsSound, StayBelow, changed_by, nodes_of}
use Rattle.mc_pure.specs.Steps.{IsTame}
use Rattle.mc_pure.proofs.Changing.{has_row, number, cases, not_changed}
use Rattle.mc_pure.proofs.Stepping.{tame}

row_of_map : (rows : List Row) (i : ℕ) (n : NodeId) → slice_get (map (λ r. r.node) rows) i ≡ Some n → (r : Row) × (slice_get rows i ≡ Some r) × (r.node ≡ n)
row_of_map [] i n e = cc
row_of_map (r ∷ rows) zero n e = (r, refl, cc)
row_of_map (r ∷ rows) (suc i) n e = row_of_map rows i n e

module _ (facts : Pure) (rows : List Row) (s : IsSound facts rows) (i : ℕ) (n : NodeId) (e : slice_get (nodes_of facts.kinds) i ≡ Some n) where
  found : (r : Row) × (slice_get rows i ≡ Some r) × (r.node ≡ n)
  found = row_of_map rows i n (rw s.aligned e)

  pub there_is : IsNode facts.kinds n
  there_is = let k = found in subst (λ (z : NodeId). IsNode facts.kinds z) k.2 (s.each k.0 (i, k.1)).node

  pub row_is : (d : Row) → get_or rows i d ≡ row_at rows n
  row_is d =
      let k = found in
      let h = has_row rows n (k.0, (i, k.1), k.2) in
      get_or_from_slice_get rows i k.0 d k.1 ∙ s.once k.0 (row_at rows n) (i, k.1) h.0 (k.2 ∙ sym h.1)

  pub row_tame : (d : Row) → IsTame (get_or rows i d)
  row_tame d = tame facts rows n (get_or rows i d) s there_is (row_is d)

node_at : (rows : List Row) (i : ℕ) (r : Row) → slice_get rows i ≡ Some r → slice_get (map (λ r. r.node) rows) i ≡ Some r.node
node_at [] i r e = cc
node_at (q ∷ rows) zero r e = let k : q ≡ r = cc in ap (λ (x : Row). Some x.node) k
node_at (q ∷ rows) (suc i) r e = node_at rows i r e

row_eq : (r q : Row) → r.node ≡ q.node → r.rep ≡ q.rep → r.off ≡ q.off → r.lo ≡ q.lo → r.hi ≡ q.hi → r ≡ q
row_eq r q a b c d e = fields r.node q.node r.rep q.rep r.off q.off r.lo q.lo r.hi q.hi a b c d e
  where
    fields : (n m x y : NodeId) (o p l k h i : ℤ) → n ≡ m → x ≡ y → o ≡ p → l ≡ k → h ≡ i → (let u : Row = record { node = n; rep = x; off = o; lo = l; hi = h } in let v : Row = record { node = m; rep = y; off = p; lo = k; hi = i } in u ≡ v)
    fields n m x y o p l k h i a b c d e = rw (a, b, c, d, e) refl

-- a row of null's class, where that stays 0
null_same : (c : Change) (r : Row) → c.keep ≡ null → (c.lo ≡ pos 0) × (c.hi ≡ pos 0) → (r.rep ≡ null → (r.lo ≡ pos 0) × (r.hi ≡ pos 0)) → r.rep ≢ c.gone → changed_by c r ≡ r
null_same c r e z own other = elim (cases c.gone c.keep c.by c.lo c.hi r) [
  | inl g ↦ absurd (other g.was)
  | inr g ↦ elim g [
    | inl h ↦ let k = own (h.was ∙ e) in row_eq (changed_by c r) r h.node (h.rep ∙ sym h.was) h.off (h.lo ∙ z.0 ∙ sym k.0) (h.hi ∙ z.1 ∙ sym k.1)
    | inr h ↦ h.is
  ]
]

-- rows before the least node of a class are of other classes
module _ (facts : Pure) (rows : List Row) (place : ℕ) (n : NodeId) (s : IsSound facts rows) (rise : DoRise (nodes_of facts.kinds)) (at : slice_get (nodes_of facts.kinds) place ≡ Some n) where
  rep_before : (i : ℕ) (r : Row) → i < place → slice_get rows i ≡ Some r → r.rep.0 < n.0
  rep_before i r l e =
      let least = (s.each r (i, e)).least in
      let before : r.node.0 < n.0 = rise i place r.node n l (subst (λ (z : List NodeId). slice_get z i ≡ Some r.node) s.aligned (node_at rows i r e)) at in
      omega arith

  pub below_stays : (c : Change) → c.keep.0 ≤ c.gone.0 → (c.keep ≡ null → (c.lo ≡ pos 0) × (c.hi ≡ pos 0)) → (n ≡ c.keep) ⊎ ((n ≡ c.gone) × (c.keep ≡ null)) → StayBelow c rows place
  below_stays c order none (inl k) i r l e =
      let b = rep_before i r l e in
      not_changed c.gone c.keep c.by c.lo c.hi r (λ x. omega (arith, number x, number k)) (λ x. omega (arith, number x, number k))
  below_stays c order none (inr k) i r l e =
      let b = rep_before i r l e in
      null_same c r k.1 (none k.1) (s.each r (i, e)).zero (λ x. omega (arith, number x, number k.0))
