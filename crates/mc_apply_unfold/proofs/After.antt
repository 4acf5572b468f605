-- Edges one after the other are edges at once, and calls part by part.
use Rattle.std.proofs.Common.{◌≡◌, ◌+◌, ℕ, zero, suc, Some, None, List, [], ◌∷◌, ◌++◌, map, take, drop, remove, length, slice_get, refl, ap, arith, sym, ◌∙◌}
use Rattle.std.specs.List.{AllByRecursion}
use Rattle.std.proofs.lemmas.List.{append_assoc, length-append}
use Rattle.mc_base.specs.declared.ids.NodeId.{NodeId}
use Rattle.mc_base.specs.declared.ids.PredId.{PredId}
use Rattle.mc_base.specs.declared.plain.Atom.{Atom}
use Rattle.mc_flow.specs.declared.defs.rules.Call.{Call}
use Rattle.mc_flow.specs.Defs.Instances.{node_of}
use Rattle.mc_state.specs.declared.graph.edge.Edge.{Edge}
use Rattle.mc_state.specs.declared.graph.edge.Edge.TheVariants.{Seg}
use Rattle.mc_state.specs.Graph.Edges.{nodes_of}
use Rattle.mc_state.specs.Graph.Graph.{numbered}
use Rattle.mc_pure.specs.Pure.{Kinds, IsNode}
use Rattle.mc_state.specs.Bodies.{call_edge, call_segment, calls_to}
use Rattle.mc_state.specs.Fits.{AreNodes}
use Rattle.mc_state.specs.State.{State, with_atoms, with_edges}
use Rattle.mc_rules_logic.specs.Unfold.RuleLaws.{NameIsThere}
use Rattle.mc_apply_unfold.proofs.Items.{images_join}

numbered_behind : (n : ℕ) (es fs : List Edge) → numbered n (es ++ fs) ≡ numbered n es ++ numbered (n + length es) fs
numbered_behind n [] fs = let same : n ≡ n + 0 = omega arith in ap (λ m. numbered m fs) same
numbered_behind n (e ∷ es) fs =
    let count : suc n + length es ≡ n + length (e ∷ es) = omega arith in
    ap (λ l. (record { 0 = n }, e) ∷ l) (numbered_behind (suc n) es fs ∙ ap (λ m. numbered (suc n) es ++ numbered m fs) count)

-- edges, and others after them
pub after_edges : (s : State) (es fs : List Edge) → with_edges (with_edges s es) fs ≡ with_edges s (es ++ fs)
after_edges s es fs =
    let n = s.graph.next in
    let all : s.graph.edges ++ numbered n es ++ numbered (n + length es) fs ≡ s.graph.edges ++ numbered n (es ++ fs) =
    append_assoc s.graph.edges (numbered n es) (numbered (n + length es) fs) ∙ ap (λ l. s.graph.edges ++ l) (sym (numbered_behind n es fs)) in
    let counts : length (es ++ fs) ≡ length es + length fs = length-append es fs in
    let count : n + length es + length fs ≡ n + length (es ++ fs) = omega arith in
    ap (λ edges. record s { graph = record { edges = edges; next = n + length es + length fs } }) all
    ∙ ap (λ next. record s { graph = record { edges = s.graph.edges ++ numbered n (es ++ fs); next = next } }) count

-- an edge, and others after it
pub after_edge : (s : State) (e : Edge) (es : List Edge) → with_edges (with_edges s (e ∷ [])) es ≡ with_edges s (e ∷ es)
after_edge s e es = after_edges s (e ∷ []) es

module _ (nodes : List NodeId) (stop : NodeId) (ends : List NodeId) where
  -- at a place that is none, no call goes on
  pub calls_past : (place : ℕ) (calls : List Call) → slice_get calls place ≡ None → map (call_edge nodes) calls ≡ calls_to nodes stop ends place calls
  calls_past place [] e = refl
  calls_past zero (c ∷ calls) e = absurd (cc e)
  calls_past (suc place) (c ∷ calls) e = ap (λ l. call_edge nodes c ∷ l) (calls_past place calls e)

  -- at its place a call goes on, between those before it and those after it
  pub calls_around : (place : ℕ) (calls : List Call) (call : Call) → slice_get calls place ≡ Some call
      → map (call_edge nodes) (take place calls) ++ (call_segment nodes stop ends call ∷ map (call_edge nodes) (drop (suc place) calls)) ≡ calls_to nodes stop ends place calls
  calls_around place [] call e = absurd (cc e)
  calls_around zero (c ∷ calls) call e =
      let same : call ≡ c = cc e in
      ap (λ c. call_segment nodes stop ends c ∷ map (call_edge nodes) calls) same
  calls_around (suc place) (c ∷ calls) call e = ap (λ l. call_edge nodes c ∷ l) (calls_around place calls call e)

-- edges before a call, the call as a segment, and edges after it
pub around_edges : (s t u w : State) (nodes : List NodeId) (stop : NodeId) (ends : List NodeId) (place : ℕ) (calls : List Call) (call : Call) (e : Edge)
    → slice_get calls place ≡ Some call → t ≡ with_edges s (map (call_edge nodes) (take place calls)) → e ≡ call_segment nodes stop ends call
    → u ≡ with_edges t (e ∷ []) → w ≡ with_edges u (map (call_edge nodes) (drop (place + 1) calls)) → w ≡ with_edges s (calls_to nodes stop ends place calls)
around_edges s t u w nodes stop ends place calls call e there before is one behind =
    let front = map (call_edge nodes) (take place calls) in
    let rest = map (call_edge nodes) (drop (place + 1) calls) in
    let segment = call_segment nodes stop ends call in
    let count : place + 1 ≡ suc place = omega arith in
    behind
    ∙ ap (λ x. with_edges x rest) (one ∙ ap (λ y. with_edges t (y ∷ [])) is ∙ ap (λ x. with_edges x (segment ∷ [])) before)
    ∙ after_edge (with_edges s front) segment rest
    ∙ after_edges s front (segment ∷ rest)
    ∙ ap (λ n. with_edges s (front ++ (segment ∷ map (call_edge nodes) (drop n calls)))) count
    ∙ ap (with_edges s) (calls_around nodes stop ends place calls call there)

-- edges of the calls before a place and of those after it are those of the calls without the one there
pub without_call : (s t u : State) (nodes : List NodeId) (calls : List Call) (place : ℕ)
    → t ≡ with_edges s (map (call_edge nodes) (take place calls)) → u ≡ with_edges t (map (call_edge nodes) (drop (place + 1) calls))
    → u ≡ with_edges s (map (call_edge nodes) (remove calls place))
without_call s t u nodes calls place before behind =
    let count : place + 1 ≡ suc place = omega arith in
    let front = map (call_edge nodes) (take place calls) in
    let rest = map (call_edge nodes) (drop (place + 1) calls) in
    behind
    ∙ ap (λ x. with_edges x rest) before
    ∙ after_edges s front rest
    ∙ ap (λ n. with_edges s (front ++ map (call_edge nodes) (drop n calls))) count
    ∙ ap (with_edges s) (sym (images_join (call_edge nodes) (take place calls) (drop (suc place) calls)))

-- an edge, edges, and others after them
pub three_edges : (s t u w : State) (e : Edge) (es fs : List Edge)
    → t ≡ with_edges s (e ∷ []) → u ≡ with_edges t es → w ≡ with_edges u fs → w ≡ with_edges s (e ∷ (es ++ fs))
three_edges s t u w e es fs one some others =
    others
    ∙ ap (λ x. with_edges x fs) (some ∙ ap (λ x. with_edges x es) one)
    ∙ after_edges (with_edges s (e ∷ [])) es fs
    ∙ after_edge s e (es ++ fs)

-- edges, atoms, and others after them
pub behind_atoms : (s t u w : State) (es : List Edge) (as' bs : List Atom)
    → t ≡ with_edges s es → u ≡ with_atoms t as' → w ≡ with_atoms u bs → w ≡ with_atoms (with_edges s es) (as' ++ bs)
behind_atoms s t u w es as' bs one some others =
    let base = with_edges s es in
    others
    ∙ ap (λ x. with_atoms x bs) (some ∙ ap (λ x. with_atoms x as') one)
    ∙ ap (λ atoms. record base { atoms = atoms }) (append_assoc base.atoms as' bs)

-- ---- what holds of all
module _ {X : Type 0} (P : X → Type 0) where
  all_take : (n : ℕ) (xs : List X) → AllByRecursion P xs → AllByRecursion P (take n xs)
  all_take zero xs a = tt
  all_take (suc n) [] a = tt
  all_take (suc n) (x ∷ xs) a = (a.0, all_take n xs a.1)

  all_drop : (n : ℕ) (xs : List X) → AllByRecursion P xs → AllByRecursion P (drop n xs)
  all_drop zero xs a = a
  all_drop (suc n) [] a = tt
  all_drop (suc n) (x ∷ xs) a = all_drop n xs a.1

  all_append : (xs ys : List X) → AllByRecursion P xs → AllByRecursion P ys → AllByRecursion P (xs ++ ys)
  all_append [] ys a b = b
  all_append (x ∷ xs) ys a b = (a.0, all_append xs ys a.1 b)

-- ---- nodes that are there
module _ (name_there : NameIsThere) (kinds : Kinds) (nodes : List NodeId) (there : AreNodes kinds nodes) where
  names_there : (names : List ℕ) (others : List NodeId) → AreNodes kinds others → AreNodes kinds (map (node_of nodes) names ++ others)
  names_there [] others far = far
  names_there (name ∷ names) others far = (name_there kinds nodes name there, names_there names others far)

  -- the nodes of a call that goes on to an end
  pub segment_there : (stop : NodeId) (ends : List NodeId) (call : Call) → AreNodes kinds (stop ∷ ends) → AreNodes kinds (nodes_of (call_segment nodes stop ends call))
  segment_there stop ends call far = (name_there kinds nodes call.at there, names_there call.args (stop ∷ ends) far)

  -- the nodes of a segment to the first one and some after it
  pub front_there : (at : NodeId) (args : List NodeId) (pred : PredId) (n : ℕ) → AreNodes kinds (at ∷ args)
      → AreNodes kinds (nodes_of (Seg at args pred (node_of nodes 0) (take n (drop 1 nodes))))
  front_there at args pred n far = (
    far.0,
    all_append (IsNode kinds) args (node_of nodes 0 ∷ take n (drop 1 nodes)) far.1
        (name_there kinds nodes 0 there, all_take (IsNode kinds) n (drop 1 nodes) (all_drop (IsNode kinds) 1 nodes there)),
  )
