-- Tests of edges, and edges that pass them.
use Rattle.std.proofs.Common.{◌≡◌, ◌<◌, ◌≤◌, ℕ, zero, suc, List, [], ◌∷◌, Bool, true, false, Some, slice_get, refl, ap, ◌∙◌, eq-eqb, arith}
use Rattle.std.specs.Prelude.{◌==◌, ◌||◌, if◌then◌else◌}
use Rattle.std.specs.List.{list_any}
use Rattle.mc_base.specs.declared.ids.EdgeId.{EdgeId}
use Rattle.mc_state.specs.declared.graph.edge.Edge.{Edge}
use Rattle.mc_rules_logic.proofs.UnfoldLemmas.Judging.{or_left, or_right}
use Rattle.mc_state.specs.Graph.Graph.{Edges, edge_with, IdsAscend}

-- an item that passes at a place
pub record Passes {A : Type 0} (test : A → Bool) (xs : List A) : Type 0 where
  pub place : ℕ
  pub item : A
  pub there : slice_get xs place ≡ Some item
  pub holds : test item ≡ true

pub any_placed : {A : Type 0} (test : A → Bool) (xs : List A) → list_any test xs ≡ true → Passes test xs
any_placed test [] e = absurd (cc e)
any_placed test (x ∷ xs) e = at (any_placed test xs) (test x) refl e
  where
    at : (list_any test xs ≡ true → Passes test xs) → (b : Bool) → test x ≡ b → (b || list_any test xs) ≡ true → Passes test (x ∷ xs)
    at rest true holds e = record { place = 0; item = x; there = refl; holds = holds }
    at rest false holds e = let p = rest e in record { place = suc p.place; item = p.item; there = p.there; holds = p.holds }

pub any_at : {A : Type 0} (test : A → Bool) (xs : List A) (place : ℕ) (x : A) → slice_get xs place ≡ Some x → test x ≡ true → list_any test xs ≡ true
any_at test [] place x there holds = absurd (cc there)
any_at test (y ∷ xs) zero x there holds = let same : y ≡ x = cc there in or_left (test y) (list_any test xs) (ap test same ∙ holds)
any_at test (y ∷ xs) (suc place) x there holds = or_right (test y) (list_any test xs) (any_at test xs place x there holds)

-- an edge that passes, by its id, which is no less than the least
pub record Found (test : EdgeId × Edge → Bool) (low : ℕ) (es : Edges) : Type 0 where
  pub id : EdgeId
  pub edge : Edge
  pub there : edge_with es id ≡ Some edge
  pub above : low ≤ id.0
  pub holds : test (id, edge) ≡ true

pub any_found : (test : EdgeId × Edge → Bool) (low : ℕ) (es : Edges) (high : ℕ) → IdsAscend low es high → list_any test es ≡ true → Found test low es
any_found test low [] high a e = absurd (cc e)
any_found test low ((k, x) ∷ es) high a e = at (any_found test (suc k.0) es high a.2) (test (k, x)) refl e
  where
    first : low < suc k.0
    first = a.0

    at : (list_any test es ≡ true → Found test (suc k.0) es) → (b : Bool) → test (k, x) ≡ b → (b || list_any test es) ≡ true → Found test low ((k, x) ∷ es)
    at rest true holds e =
        let below : low ≤ k.0 = let less = first in omega arith in
        record { id = k; edge = x; there = ap (λ b. if b then Some x else edge_with es k) (eq-eqb k.0 k.0 refl); above = below; holds = holds }
    at rest false holds e =
        let f = rest e in
        let over = f.above in
        let less = first in
        let differ : (k.0 == f.id.0) ≡ false = lower k.0 f.id.0 over in
        record { id = f.id; edge = f.edge; there = ap (λ b. if b then Some x else edge_with es f.id) differ ∙ f.there; above = omega arith; holds = f.holds }
      where
        lower : (a b : ℕ) → suc a ≤ b → (a == b) ≡ false
        lower a b less = grind arith

-- an edge with an id passes where it passes with any
pub any_with : (test : EdgeId × Edge → Bool) (es : Edges) (id : EdgeId) (e : Edge) → edge_with es id ≡ Some e → ((k : EdgeId) → test (k, e) ≡ true) → list_any test es ≡ true
any_with test [] id e there holds = absurd (cc there)
any_with test ((k, x) ∷ es) id e there holds = at (any_with test es id e) (k.0 == id.0) there
  where
    at : (edge_with es id ≡ Some e → ((k : EdgeId) → test (k, e) ≡ true) → list_any test es ≡ true) → (here : Bool) → (if here then Some x else edge_with es id) ≡ Some e → (test (k, x) || list_any test es) ≡ true
    at rest true there = let same : x ≡ e = cc there in or_left (test (k, x)) (list_any test es) (ap (λ y. test (k, y)) same ∙ holds k)
    at rest false there = or_right (test (k, x)) (list_any test es) (rest there holds)
