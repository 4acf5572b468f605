-- Edges that stay, and edges that are new, where one edge comes in the place of others.
use Rattle.std.proofs.Common.{◌≡◌, ℕ, suc, List, [], ◌∷◌, ◌++◌, Bool, true, false, Some, None, refl, ◌∙◌, ap, arith, eqb-true, eq-eqb}
use Rattle.std.specs.Prelude.{◌==◌, if◌then◌else◌}
use Rattle.mc_base.specs.declared.ids.EdgeId.{EdgeId}
use Rattle.mc_state.specs.declared.graph.edge.Edge.{Edge}
use Rattle.mc_state.specs.Graph.Graph.{Edges, IdsAscend, edge_with, without}
use Rattle.mc_state.specs.Named.{others, is_among}
use Rattle.mc_state.proofs.Ids.{ids_without}
use Rattle.mc_cover.proofs.Left.{others_keep}

-- an edge in front of others
in_front : (es : Edges) (id : EdgeId) (e : Edge) (more : Edges) → edge_with es id ≡ Some e → edge_with (es ++ more) id ≡ Some e
in_front [] id e more is = absurd (cc is)
in_front (x ∷ es) id e more is = at (in_front es id e more) (x.0.0 == id.0) is
  where
    at : (edge_with es id ≡ Some e → edge_with (es ++ more) id ≡ Some e) → (b : Bool) → (if b then Some x.1 else edge_with es id) ≡ Some e
        → (if b then Some x.1 else edge_with (es ++ more) id) ≡ Some e
    at rest true is = is
    at rest false is = rest is

behind_all : (es : Edges) (id : EdgeId) (e : Edge) → edge_with es id ≡ None → edge_with (es ++ (id, e) ∷ []) id ≡ Some e
behind_all [] id e none = ap (λ b. if b then Some e else None) (eq-eqb id.0 id.0 refl)
behind_all (x ∷ es) id e none = at (behind_all es id e) (x.0.0 == id.0) none
  where
    at : (edge_with es id ≡ None → edge_with (es ++ (id, e) ∷ []) id ≡ Some e) → (b : Bool) → (if b then Some x.1 else edge_with es id) ≡ None
        → (if b then Some x.1 else edge_with (es ++ (id, e) ∷ []) id) ≡ Some e
    at rest true none = absurd (cc none)
    at rest false none = rest none

-- the next id names no edge yet
pub next_none : (low : ℕ) (es : Edges) (high : ℕ) → IdsAscend low es high → edge_with es (record { 0 = high }) ≡ None
next_none low [] high a = refl
next_none low (x ∷ es) high a = at (next_none (suc x.0.0) es high a.2) (x.0.0 == high) refl
  where
    at : edge_with es (record { 0 = high }) ≡ None → (b : Bool) → (x.0.0 == high) ≡ b → (if b then Some x.1 else edge_with es (record { 0 = high })) ≡ None
    at rest true is = let same : x.0.0 ≡ high = eqb-true x.0.0 high is in let less = a.1 in absurd (omega arith)
    at rest false is = rest

pub others_ascend : (es : Edges) (ids : List EdgeId) (high : ℕ) → IdsAscend 0 es high → IdsAscend 0 (others es ids) high
others_ascend es [] high a = a
others_ascend es (id ∷ ids) high a = others_ascend (without es id) ids high (ids_without 0 es high id a)

-- the edges where one comes in the place of others
abbrev pub with_one : Edges → List EdgeId → ℕ → Edge → Edges
with_one es gone next new = others es gone ++ (record { 0 = next }, new) ∷ []

pub stays : (es : Edges) (gone : List EdgeId) (next : ℕ) (new : Edge) (id : EdgeId) (e : Edge) → is_among id gone ≡ false → edge_with es id ≡ Some e → edge_with (with_one es gone next new) id ≡ Some e
stays es gone next new id e apart is = in_front (others es gone) id e ((record { 0 = next }, new) ∷ []) (others_keep es gone id apart ∙ is)

pub is_new : (es : Edges) (gone : List EdgeId) (next : ℕ) (new : Edge) → IdsAscend 0 es next → edge_with (with_one es gone next new) (record { 0 = next }) ≡ Some new
is_new es gone next new a = behind_all (others es gone) (record { 0 = next }) new (next_none 0 (others es gone) next (others_ascend es gone next a))
