-- The first edge of which something is known is the one with the least id.
use Rattle.std.proofs.Common.{◌≡◌, ◌≤◌, ◌<◌, ◌⊎◌, inl, inr, ℕ, zero, suc, Bool, true, false, Option, Some, None, [], ◌∷◌, length, refl, ap, sym, ◌∙◌, arith, eqb-true, eq-eqb}
use Rattle.std.specs.Prelude.{◌==◌, option_map, if◌then◌else◌}
use Rattle.mc_base.specs.declared.ids.EdgeId.{EdgeId}
use Rattle.mc_state.specs.declared.graph.edge.Edge.{Edge}
use Rattle.mc_state.specs.Graph.Graph.{Edges, edge_with, without, IdsAscend}
use Rattle.mc_state.proofs.Named.{below_none}
use Rattle.mc_cover.specs.Guessed.{or_else, first_edge}
use Rattle.mc_cover.proofs.Options.{same_some}

low_or : (a b : ℕ) → (a ≤ b) ⊎ (b < a)
low_or zero b = inl (omega arith)
low_or (suc a) zero = inr (omega arith)
low_or (suc a) (suc b) = elim (low_or a b) [ inl l ↦ inl (omega arith) | inr l ↦ inr (omega arith) ]

-- an edge that is there has no less an id than the least
least_id : (low : ℕ) (es : Edges) (high : ℕ) (id : EdgeId) (e : Edge) → IdsAscend low es high → edge_with es id ≡ Some e → low ≤ id.0
least_id low es high id e a h = at (low_or low id.0)
  where
    at : (low ≤ id.0) ⊎ (id.0 < low) → low ≤ id.0
    at (inl l) = l
    at (inr l) = let both = sym (below_none low es high id a l) ∙ h in absurd (cc both)

module _ {X : Type 0} (f : Edge → Option X) where
  -- what the first edge is: it is there, the test gives this, and no edge before it has one
  pub record IsFirst (es : Edges) (id : EdgeId) (x : X) : Type 0 where
    pub edge : Edge
    pub there : edge_with es id ≡ Some edge
    pub gives : f edge ≡ Some x
    pub least : (other : EdgeId) (e : Edge) (y : X) → edge_with es other ≡ Some e → f e ≡ Some y → id.0 ≤ other.0

  head_there : (e : EdgeId × Edge) (es : Edges) → edge_with (e ∷ es) e.0 ≡ Some e.1
  head_there e es = ap (λ b. if b then Some e.1 else edge_with es e.0) (eq-eqb e.0.0 e.0.0 refl)

  -- an edge of a longer list is its head, or one of the rest
  head_or : (e : EdgeId × Edge) (es : Edges) (id : EdgeId) (own : Edge) → edge_with (e ∷ es) id ≡ Some own → ((id ≡ e.0) × (own ≡ e.1)) ⊎ (edge_with es id ≡ Some own)
  head_or e es id own h = at (e.0.0 == id.0) refl h
    where
      at : (b : Bool) → (e.0.0 == id.0) ≡ b → (if b then Some e.1 else edge_with es id) ≡ Some own → ((id ≡ e.0) × (own ≡ e.1)) ⊎ (edge_with es id ≡ Some own)
      at true is h = inl (ap (λ n. record { 0 = n }) (sym (eqb-true e.0.0 id.0 is)), sym (same_some e.1 own h))
      at false is h = inr h

  rest_there : (e : EdgeId × Edge) (es : Edges) (high : ℕ) (id : EdgeId) (own : Edge) → IdsAscend (suc e.0.0) es high → edge_with es id ≡ Some own → edge_with (e ∷ es) id ≡ Some own
  rest_there e es high id own a h = at (e.0.0 == id.0) refl
    where
      at : (b : Bool) → (e.0.0 == id.0) ≡ b → (if b then Some e.1 else edge_with es id) ≡ Some own
      at true is = let same = eqb-true e.0.0 id.0 is in let l = least_id (suc e.0.0) es high id own a h in absurd (omega arith)
      at false is = h

  pub first_from : (low : ℕ) (es : Edges) (high : ℕ) (id : EdgeId) (x : X) → IdsAscend low es high → first_edge f es ≡ Some (id, x) → IsFirst es id x
  first_from low [] high id x a h = absurd (cc h)
  first_from low (e ∷ es) high id x a h = at (λ h. first_from (suc e.0.0) es high id x a.2 h) (f e.1) refl h
    where
      at : (first_edge f es ≡ Some (id, x) → IsFirst es id x) → (o : Option X) → f e.1 ≡ o → or_else (option_map (λ x. (e.0, x)) o) (first_edge f es) ≡ Some (id, x) → IsFirst (e ∷ es) id x
      at rest (Some y) is h =
          let pair = same_some (e.0, y) (id, x) h in
          let same_id : e.0 ≡ id = ap (λ (p : EdgeId × X). p.0) pair in
          let same_x : y ≡ x = ap (λ (p : EdgeId × X). p.1) pair in
          record {
            edge = e.1;
            there = ap (edge_with (e ∷ es)) (sym same_id) ∙ head_there e es;
            gives = is ∙ ap (λ y. Some y) same_x;
            least = λ other own y t g. least_of same_id other own t;
          }
        where
          least_of : e.0 ≡ id → (other : EdgeId) (own : Edge) → edge_with (e ∷ es) other ≡ Some own → id.0 ≤ other.0
          least_of same other own t =
              elim (head_or e es other own t) [
                | inl r ↦ (let n : other.0 ≡ e.0.0 = ap (λ (i : EdgeId). i.0) r.0 in let m : e.0.0 ≡ id.0 = ap (λ (i : EdgeId). i.0) same in omega arith)
                | inr r ↦ (let m : e.0.0 ≡ id.0 = ap (λ (i : EdgeId). i.0) same in let l = least_id (suc e.0.0) es high other own a.2 r in omega arith)
              ]
      at rest None is h =
          let r = rest h in
          record {
            edge = r.edge;
            there = rest_there e es high id r.edge a.2 r.there;
            gives = r.gives;
            least = λ other own y t g. least_of r other own y t g;
          }
        where
          least_of : IsFirst es id x → (other : EdgeId) (own : Edge) (y : X) → edge_with (e ∷ es) other ≡ Some own → f own ≡ Some y → id.0 ≤ other.0
          least_of r other own y t g =
              elim (head_or e es other own t) [
                | inl p ↦ (let both = sym is ∙ (ap f (sym p.1) ∙ g) in absurd (cc both))
                | inr p ↦ r.least other own y p g
              ]

  -- where no edge is first, none gives anything
  pub first_none : (es : Edges) → first_edge f es ≡ None → (id : EdgeId) (e : Edge) (x : X) → edge_with es id ≡ Some e → f e ≡ Some x → ⊥
  first_none [] h id e x t g = cc t
  first_none (head ∷ es) h id e x t g = at (λ h p. first_none es h id e x p g) (f head.1) refl h
    where
      at : (first_edge f es ≡ None → edge_with es id ≡ Some e → ⊥) → (o : Option X) → f head.1 ≡ o → or_else (option_map (λ x. (head.0, x)) o) (first_edge f es) ≡ None → ⊥
      at rest (Some y) is h = cc h
      at rest None is h =
          elim (head_or head es id e t) [
            | inl p ↦ (let both = sym is ∙ (ap f (sym p.1) ∙ g) in cc both)
            | inr p ↦ rest h p
          ]

  -- what is first is found
  pub first_to : (low : ℕ) (es : Edges) (high : ℕ) (id : EdgeId) (x : X) → IdsAscend low es high → IsFirst es id x → first_edge f es ≡ Some (id, x)
  first_to low es high id x a is = at (first_edge f es) refl
    where
      le_both : (a b : EdgeId) → a.0 ≤ b.0 → b.0 ≤ a.0 → a ≡ b
      le_both a b l m = ap (λ n. record { 0 = n }) (both a.0 b.0 l m)
        where
          both : (a b : ℕ) → a ≤ b → b ≤ a → a ≡ b
          both a b l m = omega arith

      at : (o : Option (EdgeId × X)) → first_edge f es ≡ o → first_edge f es ≡ Some (id, x)
      at None none = absurd (first_none es none id is.edge x is.there is.gives)
      at (Some (i, y)) some =
          let r = first_from low es high i y a some in
          let same : i ≡ id = le_both i id (r.least id is.edge x is.there is.gives) (is.least i r.edge y r.there r.gives) in
          let edges : r.edge ≡ is.edge = same_some r.edge is.edge (sym r.there ∙ (ap (edge_with es) same ∙ is.there)) in
          let xs : y ≡ x = same_some y x (sym r.gives ∙ (ap f edges ∙ is.gives)) in
          some ∙ (ap (λ i. Some (i, y)) same ∙ ap (λ y. Some (id, y)) xs)

-- one edge less
pub less_edges : (es : Edges) (id : EdgeId) (e : Edge) → edge_with es id ≡ Some e → suc (length (without es id)) ≡ length es
less_edges [] id e h = absurd (cc h)
less_edges (x ∷ es) id e h = at (λ h. less_edges es id e h) (x.0.0 == id.0) refl h
  where
    at : (edge_with es id ≡ Some e → suc (length (without es id)) ≡ length es) → (b : Bool) → (x.0.0 == id.0) ≡ b → (if b then Some x.1 else edge_with es id) ≡ Some e → suc (length (if b then es else x ∷ without es id)) ≡ suc (length es)
    at rest true is h = refl
    at rest false is h = ap suc (rest h)
