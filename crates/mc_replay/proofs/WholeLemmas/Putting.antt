-- Nodes, variables and edges that are put into the result one after the other.
use Rattle.std.proofs.Common.{◌≡◌, ◌<◌, ◌≤◌, ◌+◌, ◌++◌, ℕ, zero, suc, List, [], ◌∷◌, true, false, Option, Some, None, drop, get_or, length, take, refl, sym, ap, ap₂, subst, ◌∙◌, arith}
use Rattle.std.specs.Prelude.{◌==◌, filter, option_map, option_to_list, slice_set}
use Rattle.std.specs.List.{AllByRecursion}
use Rattle.std.proofs.lemmas.Bool.{ne_eqb}
use Rattle.std.proofs.lemmas.List.{drop_more, length-replicate}
use Rattle.mc_base.specs.declared.ids.EdgeId.{EdgeId}
use Rattle.mc_base.specs.declared.ids.NodeId.{NodeId}
use Rattle.mc_base.specs.declared.plain.Kind.{Kind}
use Rattle.mc_pure.specs.Pure.{Kinds, IsNode}
use Rattle.mc_pure_ops.specs.Join.Joint.{Pairs}
use Rattle.mc_state.specs.declared.graph.edge.Edge.{Edge}
use Rattle.mc_state.specs.Fits.{AreNodes}
use Rattle.mc_state.specs.Graph.Edges.{known_nodes, nodes_of}
use Rattle.mc_state.specs.Graph.Graph.{Edges, IdsAscend, numbered}
use Rattle.mc_state.specs.Named.{others, is_among}
use Rattle.mc_state.specs.State.{State, unknown, with_edges, with_var}
use Rattle.mc_cover.specs.Search.Setting.{is_unused}
use Rattle.mc_cover.proofs.SearchLemmas.Left.{others_are}
use Rattle.mc_joins.specs.Joinings.{Joining, Pair}
use Rattle.mc_joins.specs.Steps.{known_for}
use Rattle.mc_joins.specs.Whole.{kind_of_pair, kinds_from, kinds_of_pairs}
use Rattle.mc_replay.specs.Whole.{HasPairKind, MayBeMade, with_pair_nodes, bare_result}
use Rattle.mc_replay.proofs.Finding.{drop_none}

shift : {X : Type 0} (xs : List X) (x : X) (ys : List X) → xs ++ (x ∷ ys) ≡ (xs ++ x ∷ []) ++ ys
shift [] x ys = refl
shift {X = X} (z ∷ xs) x ys = ap (λ (r : List X). z ∷ r) (shift xs x ys)

none_after : {X : Type 0} (xs : List X) → xs ++ [] ≡ xs
none_after [] = refl
none_after {X = X} (x ∷ xs) = ap (λ (r : List X). x ∷ r) (none_after xs)

-- ---- nodes

module _ (j : Joining) where
  abbrev grown : State → Kinds → ℕ → State
  grown s ks n = record s { kinds = ks; next = n }

  -- a node for a pair of a kind
  step_kinds : (n : ℕ) (p : Pair) (ps : Pairs) (kind : Kind) → kind_of_pair j p ≡ Some kind → kinds_from j n (p ∷ ps) ≡ (record { 0 = n }, kind) ∷ kinds_from j (suc n) ps
  step_kinds n p ps kind e =
      ap (λ (o : Option Kind). option_to_list (option_map (λ (k : Kind). let x : NodeId × Kind = (record { 0 = n }, k) in x) o) ++ kinds_from j (suc n) ps) e

  -- one pair after the other
  one_more : (s : State) (p : Pair) (ps : Pairs) → HasPairKind j p → with_pair_nodes j s (p ∷ ps) ≡ with_pair_nodes j (with_pair_nodes j s (p ∷ [])) ps
  one_more s p ps (kind, e) =
      let here : NodeId × Kind = (record { 0 = s.next }, kind) in
      let first : kinds_from j s.next (p ∷ ps) ≡ here ∷ kinds_from j (suc s.next) ps = step_kinds s.next p ps kind e in
      let alone : kinds_from j s.next (p ∷ []) ≡ here ∷ [] = step_kinds s.next p [] kind e in
      let later : suc s.next ≡ s.next + 1 = omega arith in
      let next : s.next + suc (length ps) ≡ (s.next + 1) + length ps = omega arith in
      let kinds : s.kinds ++ kinds_from j s.next (p ∷ ps) ≡ (s.kinds ++ kinds_from j s.next (p ∷ [])) ++ kinds_from j (s.next + 1) ps =
      ap (λ (ks : Kinds). s.kinds ++ ks) first
      ∙ (shift s.kinds here (kinds_from j (suc s.next) ps)
      ∙ (ap (λ (n : ℕ). (s.kinds ++ here ∷ []) ++ kinds_from j n ps) later
      ∙ ap (λ (ks : Kinds). (s.kinds ++ ks) ++ kinds_from j (s.next + 1) ps) (sym alone))) in
      ap₂ (λ (ks : Kinds) (n : ℕ). grown s ks n) kinds next

  none_more : (s : State) → with_pair_nodes j s [] ≡ s
  none_more s = let next : s.next + 0 ≡ s.next = omega arith in ap₂ (λ (ks : Kinds) (n : ℕ). grown s ks n) (none_after s.kinds) next

  pub nodes_more : (begin s new : State) (ps all : Pairs) (i : ℕ) (d : Pair) → i < length ps → HasPairKind j (get_or ps i d) → new ≡ with_pair_nodes j s (get_or ps i d ∷ [])
      → with_pair_nodes j s (drop i ps) ≡ with_pair_nodes j begin all → with_pair_nodes j new (drop (i + 1) ps) ≡ with_pair_nodes j begin all
  nodes_more begin s new ps all i d l has is h =
      ap (λ (z : State). with_pair_nodes j z (drop (i + 1) ps)) is
      ∙ (sym (one_more s (get_or ps i d) (drop (i + 1) ps) has) ∙ (ap (λ (z : Pairs). with_pair_nodes j s z) (sym (drop_more ps i d l)) ∙ h))

  pub nodes_end : (begin s : State) (ps all : Pairs) (i : ℕ) → length ps ≤ i → with_pair_nodes j s (drop i ps) ≡ with_pair_nodes j begin all → s ≡ with_pair_nodes j begin all
  nodes_end begin s ps all i l h = sym (none_more s) ∙ (ap (λ (z : Pairs). with_pair_nodes j s z) (sym (drop_none ps i l)) ∙ h)

pub all_at : {X : Type 0} (P : X → Type 0) (xs : List X) (i : ℕ) (d : X) → i < length xs → AllByRecursion P xs → P (get_or xs i d)
all_at P [] i d l a = absurd (omega arith)
all_at P (x ∷ xs) zero d l a = a.0
all_at P (x ∷ xs) (suc i) d l a = all_at P xs i d (omega arith) a.1

-- the pairs but the first
pub other_at : (j : Joining) (ps : Pairs) (i : ℕ) (d : Pair) → 1 ≤ i → i < length ps → AllByRecursion (HasPairKind j) (drop 1 ps) → HasPairKind j (get_or ps i d)
other_at j [] i d m l a = absurd (omega arith)
other_at j (p ∷ ps) zero d m l a = absurd (omega arith)
other_at j (p ∷ ps) (suc i) d m l a = all_at (HasPairKind j) ps i d (omega arith) a

-- ---- variables

module _ (begin : State) (env : List (Option NodeId)) where
  abbrev vars_at : ℕ → List (Option NodeId)
  vars_at i = take i env ++ drop i begin.env

  set_at : (xs old : List (Option NodeId)) (i : ℕ) (d : Option NodeId) → i < length xs → length old ≡ length xs
      → slice_set (take i xs ++ drop i old) i (get_or xs i d) ≡ take (suc i) xs ++ drop (suc i) old
  set_at [] old i d l e = absurd (omega arith)
  set_at (x ∷ xs) [] i d l e = absurd (omega arith)
  set_at (x ∷ xs) (y ∷ old) zero d l e = refl
  set_at (x ∷ xs) (y ∷ old) (suc i) d l e = ap (λ (z : List (Option NodeId)). x ∷ z) (set_at xs old i d (omega arith) (omega arith))

  all_set : (xs old : List (Option NodeId)) (i : ℕ) → length xs ≤ i → length old ≡ length xs → take i xs ++ drop i old ≡ xs
  all_set [] [] zero l e = refl
  all_set [] [] (suc i) l e = refl
  all_set [] (y ∷ old) i l e = absurd (omega arith)
  all_set (x ∷ xs) [] i l e = absurd (omega arith)
  all_set (x ∷ xs) (y ∷ old) zero l e = absurd (omega arith)
  all_set (x ∷ xs) (y ∷ old) (suc i) l e = ap (λ (z : List (Option NodeId)). x ∷ z) (all_set xs old i (omega arith) (omega arith))

  pub vars_next : (s new : State) (i : ℕ) (d v : Option NodeId) → i < length env → length begin.env ≡ length env → s ≡ record begin { env = vars_at i } → v ≡ get_or env i d
      → new ≡ with_var s (record { 0 = i }) v → new ≡ record begin { env = vars_at (i + 1) }
  vars_next s new i d v l long h e is =
      let one : suc i ≡ i + 1 = omega arith in
      is
      ∙ (ap (λ (z : State). with_var z (record { 0 = i }) v) h
      ∙ ap (λ (z : List (Option NodeId)). record begin { env = z }) (ap (λ (z : Option NodeId). slice_set (vars_at i) i z) e ∙ (set_at env begin.env i d l long ∙ ap vars_at one)))

  pub vars_last : (s : State) (i : ℕ) → length env ≤ i → length begin.env ≡ length env → s ≡ record begin { env = vars_at i } → s ≡ record begin { env = env }
  vars_last s i l long h = h ∙ ap (λ (z : List (Option NodeId)). record begin { env = z }) (all_set env begin.env i l long)

pub known_at : (kinds : Kinds) (env : List (Option NodeId)) (i : ℕ) (d : Option NodeId) → i < length env → AreNodes kinds (known_nodes env) → (n : NodeId) → get_or env i d ≡ Some n → IsNode kinds n
known_at kinds [] i d l h n e = absurd (omega arith)
known_at kinds (None ∷ env) zero d l h n e = cc
known_at kinds (Some m ∷ env) zero d l h n e = let same : m ≡ n = cc in subst (IsNode kinds) same h.0
known_at kinds (None ∷ env) (suc i) d l h n e = known_at kinds env i d (omega arith) h n e
known_at kinds (Some m ∷ env) (suc i) d l h n e = known_at kinds env i d (omega arith) h.1 n e

-- ---- edges

-- what holds of numbered edges holds of the edges
pub not_numbered : (P : Edge → Type 0) (n : ℕ) (es : List Edge) → AllByRecursion (λ (e : EdgeId × Edge). P e.1) (numbered n es) → AllByRecursion P es
not_numbered P n [] a = tt
not_numbered P n (e ∷ es) a = (a.0, not_numbered P (suc n) es a.1)

-- ---- all of it

kinds_first : (j : Joining) (ps : Pairs) → 0 < length ps → kinds_from j 1 (drop 1 ps) ≡ kinds_of_pairs j ps
kinds_first j [] l = absurd (omega arith)
kinds_first j (p ∷ ps) l = refl

long_first : (ps : Pairs) → 0 < length ps → 1 + length (drop 1 ps) ≡ length ps
long_first [] l = absurd (omega arith)
long_first (p ∷ ps) l = omega arith

pub kinds_put : (j : Joining) (s new : State) (vars : ℕ) → 0 < length j.pairs → s ≡ unknown vars → new ≡ with_pair_nodes j s (drop 1 j.pairs)
    → new ≡ record (unknown vars) { kinds = kinds_of_pairs j j.pairs; next = length j.pairs }
kinds_put j s new vars l e is =
    is
    ∙ (ap (λ (z : State). with_pair_nodes j z (drop 1 j.pairs)) e
    ∙ ap₂ (λ (ks : Kinds) (n : ℕ). record (unknown vars) { kinds = ks; next = n }) (kinds_first j j.pairs l) (long_first j.pairs l))

-- what a join gives without atoms is put together
module _ (left right : State) (j : Joining) (ready : MayBeMade left right j) (env : List (Option NodeId)) (s nodes : State) (known : env ≡ known_for j.pairs left.env right.env) (begin : s ≡ unknown (length env))
    (put : nodes ≡ with_pair_nodes j s (drop 1 j.pairs)) where
  placed : nodes ≡ record (unknown (length env)) { kinds = kinds_of_pairs j j.pairs; next = length j.pairs }
  placed = kinds_put j s nodes (length env) ready.first begin put

  kinds_are : nodes.kinds ≡ kinds_of_pairs j j.pairs
  kinds_are = ap (λ (z : State). z.kinds) placed

  pub env_long : length nodes.env ≡ length env
  env_long = ap (λ (z : State). length z.env) placed ∙ length-replicate (length env) None

  pub vars_there : AreNodes nodes.kinds (known_nodes env)
  vars_there =
      subst (λ (ks : Kinds). AreNodes ks (known_nodes env)) (sym kinds_are)
      (subst (λ (xs : List (Option NodeId)). AreNodes (kinds_of_pairs j j.pairs) (known_nodes xs)) (sym known) ready.bounded.vars)

  pub edges_there : (vars : State) → vars ≡ record nodes { env = env } → AllByRecursion (λ (e : Edge). AreNodes vars.kinds (nodes_of e)) j.edges
  edges_there vars v =
      subst (λ (ks : Kinds). AllByRecursion (λ (e : Edge). AreNodes ks (nodes_of e)) j.edges) (sym (ap (λ (z : State). z.kinds) v ∙ kinds_are))
      (not_numbered (λ (e : Edge). AreNodes (kinds_of_pairs j j.pairs) (nodes_of e)) 0 j.edges ready.bounded.edges)

  pub bare_put : (vars edges : State) → vars ≡ record nodes { env = env } → edges ≡ with_edges vars j.edges → edges ≡ bare_result left right j
  bare_put vars edges v is =
      let all : vars ≡ record (unknown (length env)) { env = env; kinds = kinds_of_pairs j j.pairs; next = length j.pairs } = v ∙ ap (λ (z : State). record z { env = env }) placed in
      let long : 0 + length j.edges ≡ length j.edges = omega arith in
      is
      ∙ (ap (λ (z : State). with_edges z j.edges) all
      ∙ ap₂ (λ (xs : List (Option NodeId)) (m : ℕ). record (bare_result left right j) { env = xs; graph = record { edges = numbered 0 j.edges; next = m } }) known long)

-- ---- edges that are left out

module _ (used : List EdgeId) where
  left_out : (e : EdgeId × Edge) (es : Edges) → is_among e.0 used ≡ false → filter (is_unused used) (e ∷ es) ≡ e ∷ filter (is_unused used) es
  left_out e es is = rw is refl

  not_left_out : (e : EdgeId × Edge) (es : Edges) → is_among e.0 used ≡ true → filter (is_unused used) (e ∷ es) ≡ filter (is_unused used) es
  not_left_out e es is = rw is refl

  pub used_more : (es : Edges) (i : ℕ) (e : EdgeId × Edge) → i < length es → e ≡ get_or es i e → is_among e.0 used ≡ true
      → filter (is_unused used) es ≡ filter (is_unused used) (drop i es) → filter (is_unused used) es ≡ filter (is_unused used) (drop (i + 1) es)
  used_more es i e l item is h =
      h ∙ (ap (λ (z : Edges). filter (is_unused used) z) (drop_more es i e l ∙ ap (λ (z : EdgeId × Edge). z ∷ drop (i + 1) es) (sym item)) ∙ not_left_out e (drop (i + 1) es) is)

  none_zero : (n : ℕ) → false ≡ (suc n == 0)
  none_zero n = sym (ne_eqb (suc n) 0 (let differ : suc n ≡ 0 → ⊥ = λ q. omega arith in differ))

  pub one_left_out : (es : Edges) (high i : ℕ) (e : EdgeId × Edge) → IdsAscend 0 es high → i < length es → e ≡ get_or es i e → is_among e.0 used ≡ false
      → filter (is_unused used) es ≡ filter (is_unused used) (drop i es) → false ≡ (length (others es used) == 0)
  one_left_out es high i e a l item is h =
      let some : others es used ≡ e ∷ filter (is_unused used) (drop (i + 1) es) =
      others_are es high used a
      ∙ (h ∙ (ap (λ (z : Edges). filter (is_unused used) z) (drop_more es i e l ∙ ap (λ (z : EdgeId × Edge). z ∷ drop (i + 1) es) (sym item)) ∙ left_out e (drop (i + 1) es) is)) in
      none_zero (length (filter (is_unused used) (drop (i + 1) es))) ∙ ap (λ (z : Edges). length z == 0) (sym some)

  pub all_are_used : (es : Edges) (high i : ℕ) → IdsAscend 0 es high → length es ≤ i → filter (is_unused used) es ≡ filter (is_unused used) (drop i es) → true ≡ (length (others es used) == 0)
  all_are_used es high i a l h =
      let none : others es used ≡ [] = others_are es high used a ∙ (h ∙ ap (λ (z : Edges). filter (is_unused used) z) (drop_none es i l)) in
      ap (λ (z : Edges). length z == 0) (sym none)

-- the same of equal lists
pub known_same : (slice env : List (Option NodeId)) (ps qs : Pairs) (ls ms rs ns : List (Option NodeId)) → slice ≡ env → ps ≡ qs → ls ≡ ms → rs ≡ ns → env ≡ known_for ps ls rs → slice ≡ known_for qs ms ns
known_same slice env ps qs ls ms rs ns e p l r is =
    e ∙ (is ∙ (ap (λ (z : Pairs). known_for z ls rs) p ∙ ap₂ (λ (x y : List (Option NodeId)). known_for qs x y) l r))
