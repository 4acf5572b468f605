-- Edges and their ids, as edges come, go and change.
use Rattle.std.proofs.Common.{◌≡◌, ◌+◌, ◌≤◌, ℕ, suc, List, [], ◌∷◌, ◌++◌, length, Bool, true, false, Some, subst, arith}
use Rattle.std.specs.Prelude.{◌==◌, if◌then◌else◌}
use Rattle.std.specs.List.{AllByRecursion}
use Rattle.mc_base.specs.declared.ids.EdgeId.{EdgeId}
use Rattle.mc_state.specs.declared.graph.edge.Edge.{Edge}
use Rattle.mc_state.specs.Graph.Graph.{Edges, Picks, IdsAscend, edge_with, without, replaced, numbered}

-- what holds of each edge
abbrev pub AllEdges : (Edge → Type 0) → Edges → Type 0
AllEdges P es = AllByRecursion (λ e. P e.1) es

pub ids_lower : (low bound : ℕ) (es : Edges) (high : ℕ) → low ≤ bound → IdsAscend bound es high → IdsAscend low es high
ids_lower low bound [] high less a = tt
ids_lower low bound (e ∷ es) high less a = let first = a.0 in (omega arith, a.1, a.2)

pub ids_append : (low mid high : ℕ) (es more : Edges) → low ≤ mid → mid ≤ high → IdsAscend low es mid → IdsAscend mid more high → IdsAscend low (es ++ more) high
ids_append low mid high [] more below above a b = ids_lower low mid more high below b
ids_append low mid high (e ∷ es) more below above a b =
    let last = a.1 in
    (a.0, omega arith, ids_append (suc e.0.0) mid high es more (omega arith) above a.2 b)

pub ids_numbered : (n high : ℕ) (new : List Edge) → high ≡ n + length new → IdsAscend n (numbered n new) high
ids_numbered n high [] e = tt
ids_numbered n high (x ∷ new) e = (omega arith, omega arith, ids_numbered (suc n) high new (omega arith))

pub ids_without : (low : ℕ) (es : Edges) (high : ℕ) (id : EdgeId) → IdsAscend low es high → IdsAscend low (without es id) high
ids_without low [] high id a = tt
ids_without low (e ∷ es) high id a = at (ids_without (suc e.0.0) es high id a.2) (e.0.0 == id.0)
  where
    at : IdsAscend (suc e.0.0) (without es id) high → (here : Bool) → IdsAscend low (if here then es else e ∷ without es id) high
    at rest true = let first = a.0 in ids_lower low (suc e.0.0) es high (omega arith) a.2
    at rest false = (a.0, a.1, rest)

pub ids_replaced : (low : ℕ) (es : Edges) (high : ℕ) (id : EdgeId) (new : Edge) → IdsAscend low es high → IdsAscend low (replaced es id new) high
ids_replaced low [] high id new a = tt
ids_replaced low (e ∷ es) high id new a = at (ids_replaced (suc e.0.0) es high id new a.2) (e.0.0 == id.0)
  where
    at : IdsAscend (suc e.0.0) (replaced es id new) high → (here : Bool) → IdsAscend low (if here then (e.0, new) ∷ es else e ∷ replaced es id new) high
    at rest true = a
    at rest false = (a.0, a.1, rest)

module _ (P : Edge → Type 0) where
  pub each_numbered : (n : ℕ) (new : List Edge) → AllByRecursion P new → AllEdges P (numbered n new)
  each_numbered n [] a = tt
  each_numbered n (e ∷ new) a = (a.0, each_numbered (suc n) new a.1)

  pub each_without : (es : Edges) (id : EdgeId) → AllEdges P es → AllEdges P (without es id)
  each_without [] id a = tt
  each_without (e ∷ es) id a = at (each_without es id a.1) (e.0.0 == id.0)
    where
      at : AllEdges P (without es id) → (here : Bool) → AllEdges P (if here then es else e ∷ without es id)
      at rest true = a.1
      at rest false = (a.0, rest)

  pub each_replaced : (es : Edges) (id : EdgeId) (new : Edge) → P new → AllEdges P es → AllEdges P (replaced es id new)
  each_replaced [] id new p a = tt
  each_replaced (e ∷ es) id new p a = at (each_replaced es id new p a.1) (e.0.0 == id.0)
    where
      at : AllEdges P (replaced es id new) → (here : Bool) → AllEdges P (if here then (e.0, new) ∷ es else e ∷ replaced es id new)
      at rest true = (p, a.1)
      at rest false = (a.0, rest)

  each_with : (es : Edges) (id : EdgeId) (x : Edge) → edge_with es id ≡ Some x → AllEdges P es → P x
  each_with [] id x e a = cc
  each_with (y ∷ ys) id x e a = at (λ h. each_with ys id x h a.1) (y.0.0 == id.0) e
    where
      at : (edge_with ys id ≡ Some x → P x) → (here : Bool) → (if here then Some y.1 else edge_with ys id) ≡ Some x → P x
      at rest true e = let same : y.1 ≡ x = cc in subst P same a.0
      at rest false e = rest e

  pub each_picked : (ids : List EdgeId) (es : Edges) (picked : List Edge) (left : Edges) → Picks ids es picked left → AllEdges P es → AllByRecursion P picked
  each_picked [] es picked left p a = rw p.0 tt
  each_picked (id ∷ ids) es [] left p a = tt
  each_picked (id ∷ ids) es (x ∷ picked) left p a = (each_with es id x p.0 a, each_picked ids (without es id) picked left p.1 (each_without es id a))

-- what stays as edges are taken out stays of those that are left
pub picks_keep : (Q : Edges → Type 0) → ((es : Edges) (id : EdgeId) → Q es → Q (without es id)) → (ids : List EdgeId) (es : Edges) (picked : List Edge) (left : Edges) → Picks ids es picked left → Q es → Q left
picks_keep Q f [] es picked left p q = rw p.1 q
picks_keep Q f (id ∷ ids) es [] left p q = absurd p
picks_keep Q f (id ∷ ids) es (x ∷ picked) left p q = picks_keep Q f ids (without es id) picked left p.1 (f es id q)
