-- What holds of each of a list, of known nodes and of edges.
use Rattle.std.proofs.Common.{◌≡◌, ℕ, zero, suc, List, [], ◌∷◌, ◌++◌, Bool, true, false, Option, Some, None, get_or, slice_get, slice_set, subst}
use Rattle.std.specs.Prelude.{◌==◌, if◌then◌else◌, All}
use Rattle.std.specs.List.{AllByRecursion}
use Rattle.std.proofs.lemmas.Option.{slice_get_within, get_or_from_slice_get}
use Rattle.mc_base.specs.declared.ids.EdgeId.{EdgeId}
use Rattle.mc_base.specs.declared.ids.NodeId.{NodeId}
use Rattle.mc_state.specs.declared.graph.edge.Edge.{Edge}
use Rattle.mc_state.specs.Graph.Edges.{known_nodes}
use Rattle.mc_state.specs.Graph.Graph.{Edges, edge_with}

pub all_append : {X : Type 0} (P : X → Type 0) (xs ys : List X) → AllByRecursion P xs → AllByRecursion P ys → AllByRecursion P (xs ++ ys)
all_append P [] ys a b = b
all_append P (x ∷ xs) ys a b = (a.0, all_append P xs ys a.1 b)

pub all_map : {X : Type 0} (P Q : X → Type 0) → ((x : X) → P x → Q x) → (xs : List X) → AllByRecursion P xs → AllByRecursion Q xs
all_map P Q f [] a = tt
all_map P Q f (x ∷ xs) a = (f x a.0, all_map P Q f xs a.1)

pub all_at : {X : Type 0} (P : X → Type 0) (xs : List X) (i : ℕ) (x : X) → slice_get xs i ≡ Some x → All P xs → P x
all_at P xs i x is all = subst P (get_or_from_slice_get xs i x x is) (all i x (slice_get_within xs i x is))

-- ---- known nodes

pub known_at : (P : NodeId → Type 0) (xs : List (Option NodeId)) (place : ℕ) (n : NodeId) → get_or xs place None ≡ Some n → AllByRecursion P (known_nodes xs) → P n
known_at P [] place n e a = cc
known_at P (None ∷ xs) zero n e a = cc
known_at P (Some k ∷ xs) zero n e a = let same : k ≡ n = cc in subst P same a.0
known_at P (None ∷ xs) (suc place) n e a = known_at P xs place n e a
known_at P (Some k ∷ xs) (suc place) n e a = known_at P xs place n e a.1

pub known_field : (P : NodeId → Type 0) (xs : List (Option NodeId)) (place : ℕ) (n : NodeId) → slice_get xs place ≡ Some (Some n) → AllByRecursion P (known_nodes xs) → P n
known_field P [] place n e a = cc
known_field P (None ∷ xs) zero n e a = cc
known_field P (Some k ∷ xs) zero n e a = let same : k ≡ n = cc in subst P same a.0
known_field P (None ∷ xs) (suc place) n e a = known_field P xs place n e a
known_field P (Some k ∷ xs) (suc place) n e a = known_field P xs place n e a.1

pub known_set : (P : NodeId → Type 0) (xs : List (Option NodeId)) (place : ℕ) (n : NodeId) → P n → AllByRecursion P (known_nodes xs) → AllByRecursion P (known_nodes (slice_set xs place (Some n)))
known_set P [] place n p a = a
known_set P (None ∷ xs) zero n p a = (p, a)
known_set P (Some k ∷ xs) zero n p a = (p, a.1)
known_set P (None ∷ xs) (suc place) n p a = known_set P xs place n p a
known_set P (Some k ∷ xs) (suc place) n p a = (a.0, known_set P xs place n p a.1)

-- ---- edges

pub edge_at : (P : Edge → Type 0) (es : Edges) (id : EdgeId) (e : Edge) → edge_with es id ≡ Some e → AllByRecursion (λ (x : EdgeId × Edge). P x.1) es → P e
edge_at P [] id e h a = cc
edge_at P (x ∷ es) id e h a = at (λ k. edge_at P es id e k a.1) (x.0.0 == id.0) h
  where
    at : (edge_with es id ≡ Some e → P e) → (here : Bool) → (if here then Some x.1 else edge_with es id) ≡ Some e → P e
    at others true k = let same : x.1 ≡ e = cc in subst P same a.0
    at others false k = others k
