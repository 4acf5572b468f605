-- Variables, atoms and edges that are put in one by one.
use Rattle.std.proofs.Common.{◌≡◌, ℕ, zero, suc, ◌<◌, ◌≤◌, ◌+◌, List, [], ◌∷◌, ◌++◌, Option, Some, None, Bool, true, get_or, length, map, option_map, take, drop, append_assoc, refl, sym, ◌∙◌, ap, subst, arith}
use Rattle.std.specs.Prelude.{slice_set}
use Rattle.std.proofs.lemmas.List.{take_more}
use Rattle.mc_base.specs.declared.ids.EdgeId.{EdgeId}
use Rattle.mc_base.specs.declared.ids.NodeId.{NodeId}
use Rattle.mc_base.specs.Nodes.{moved}
use Rattle.mc_state.specs.declared.graph.edge.Edge.{Edge}
use Rattle.mc_state.specs.Graph.Edges.{known_nodes}
use Rattle.mc_state.specs.Graph.Graph.{Graph, Edges, with_new, numbered}
use Rattle.mc_pure.specs.Pure.{Kinds, IsNode}
use Rattle.mc_state.specs.State.{State, with_var, with_edges}
use Rattle.mc_state.specs.Fits.{AreNodes}
use Rattle.mc_joins.proofs.AnewLemmas.Lists.{set_next, set_last}

-- ---- variables

-- the image of a variable's node is there
pub known_at : (kinds : Kinds) (f : ℕ → ℕ) (env : List (Option NodeId)) (i : ℕ) (d : Option NodeId) → i < length env → AreNodes kinds (map (moved f) (known_nodes env))
    → (n : NodeId) → option_map (moved f) (get_or env i d) ≡ Some n → IsNode kinds n
known_at kinds f [] i d l h n e = absurd (omega arith)
known_at kinds f (None ∷ env) zero d l h n e = cc
known_at kinds f (Some m ∷ env) zero d l h n e = let same : moved f m ≡ n = cc in subst (IsNode kinds) same h.0
known_at kinds f (None ∷ env) (suc i) d l h n e = known_at kinds f env i d (omega arith) h n e
known_at kinds f (Some m ∷ env) (suc i) d l h n e = known_at kinds f env i d (omega arith) h.1 n e

module _ (g : Option NodeId → Option NodeId) (begin : State) (env : List (Option NodeId)) (long : length begin.env ≡ length env) where
  abbrev vars_at : ℕ → List (Option NodeId)
  vars_at i = map g (take i env) ++ drop i begin.env

  pub vars_next : (fresh new : State) (i : ℕ) (d v : Option NodeId) → i < length env → fresh ≡ record begin { env = vars_at i } → v ≡ g (get_or env i d)
      → new ≡ with_var fresh (record { 0 = i }) v → new ≡ record begin { env = vars_at (i + 1) }
  vars_next fresh new i d v l h e is =
      let one : suc i ≡ i + 1 = omega arith in
      is
      ∙ (ap (λ (z : State). with_var z (record { 0 = i }) v) h
      ∙ ap (λ (z : List (Option NodeId)). record begin { env = z }) (ap (λ (z : Option NodeId). slice_set (vars_at i) i z) e ∙ (set_next g env begin.env i d l long ∙ ap vars_at one)))

  pub vars_last : (fresh : State) (i : ℕ) → length env ≤ i → fresh ≡ record begin { env = vars_at i } → fresh ≡ record begin { env = map g env }
  vars_last fresh i l h = h ∙ ap (λ (z : List (Option NodeId)). record begin { env = z }) (set_last g env begin.env i l long)

-- ---- edges

numbered_push : (n : ℕ) (xs : List Edge) (e : Edge) → numbered n (xs ++ e ∷ []) ≡ numbered n xs ++ (record { 0 = n + length xs }, e) ∷ []
numbered_push n [] e = let here : n ≡ n + 0 = omega arith in ap (λ (z : ℕ). let x : EdgeId = record { 0 = z } in (x, e) ∷ []) here
numbered_push n (x ∷ xs) e =
    let there : suc n + length xs ≡ n + suc (length xs) = omega arith in
    ap (λ (z : Edges). let y : EdgeId = record { 0 = n } in (y, x) ∷ z) (numbered_push (suc n) xs e ∙ ap (λ (z : ℕ). let y : EdgeId = record { 0 = z } in numbered (suc n) xs ++ (y, e) ∷ []) there)

long_push : (xs : List Edge) (e : Edge) → length (xs ++ e ∷ []) ≡ suc (length xs)
long_push [] e = refl
long_push (x ∷ xs) e = ap suc (long_push xs e)

abbrev pub graph_of : Edges → ℕ → Graph
graph_of es n = record { edges = es; next = n }

graph_push : (g : Graph) (xs : List Edge) (e : Edge) → with_new (with_new g xs) (e ∷ []) ≡ with_new g (xs ++ e ∷ [])
graph_push g xs e =
    let es : (g.edges ++ numbered g.next xs) ++ (record { 0 = g.next + length xs }, e) ∷ [] ≡ g.edges ++ numbered g.next (xs ++ e ∷ []) =
    append_assoc g.edges (numbered g.next xs) ((record { 0 = g.next + length xs }, e) ∷ []) ∙ ap (λ (z : Edges). g.edges ++ z) (sym (numbered_push g.next xs e)) in
    let long = long_push xs e in
    let next : (g.next + length xs) + 1 ≡ g.next + length (xs ++ e ∷ []) = omega arith in
    made es next
  where
    made : {es fs : Edges} {m n : ℕ} → es ≡ fs → m ≡ n → graph_of es m ≡ graph_of fs n
    made p q = rw (p, q) refl

map_push : {X Y : Type 0} (m : X → Y) (xs : List X) (x : X) → map m (xs ++ x ∷ []) ≡ map m xs ++ m x ∷ []
map_push m [] x = refl
map_push {Y = Y} m (y ∷ xs) x = ap (λ (z : List Y). m y ∷ z) (map_push m xs x)

pub edges_next : (m : EdgeId × Edge → Edge) (begin fresh new : State) (es : Edges) (i : ℕ) (x : EdgeId × Edge) (edge : Edge) → i < length es → fresh ≡ with_edges begin (map m (take i es)) → edge ≡ m x → x ≡ get_or es i x
    → new ≡ with_edges fresh (edge ∷ []) → new ≡ with_edges begin (map m (take (i + 1) es))
edges_next m begin fresh new es i x edge l h e item is =
    is
    ∙ (ap (λ (z : State). with_edges z (edge ∷ [])) h
    ∙ (ap (λ (z : Graph). record begin { graph = z }) (graph_push begin.graph (map m (take i es)) edge)
    ∙ (ap (λ (z : Edge). with_edges begin (map m (take i es) ++ z ∷ [])) e
    ∙ ap (λ (z : List Edge). with_edges begin z) (sym (map_push m (take i es) x) ∙ ap (λ (z : Edges). map m z) (ap (λ (z : EdgeId × Edge). take i es ++ z ∷ []) item ∙ sym (take_more es i x l))))))

-- ---- the flag

pub whole_still : (s : State) → s.whole ≡ true → s ≡ record s { whole = true }
whole_still s e = ap (λ (z : Bool). record s { whole = z }) e
