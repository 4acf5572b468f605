-- Each node that a whole join makes stands in a variable or in an edge.
use Rattle.std.proofs.Common.{◌≡◌, ◌⊎◌, inl, inr, ◌+◌, ℕ, zero, suc, List, [], ◌∷◌, ◌++◌, Bool, true, false, Option, Some, None, length, slice_get, refl, ap, sym, ◌∙◌, subst, arith, eqb-true}
use Rattle.std.specs.Prelude.{◌==◌, Contains, option_map, option_to_list, zip, if◌then◌else◌}
use Rattle.std.specs.List.{list_any}
use Rattle.mc_base.specs.declared.ids.EdgeId.{EdgeId}
use Rattle.mc_base.specs.declared.ids.NodeId.{NodeId}
use Rattle.mc_base.specs.declared.plain.Kind.{Kind}
use Rattle.mc_base.specs.declared.plain.VarInfo.{VarInfo}
use Rattle.mc_base.specs.Nodes.{null}
use Rattle.mc_flow.specs.declared.defs.rules.Def.{Def}
use Rattle.mc_flow.specs.declared.defs.shapes.StructInfo.{StructInfo}
use Rattle.mc_state.specs.declared.graph.edge.Edge.{Edge}
use Rattle.mc_state.specs.declared.graph.edge.Edge.TheVariants.{Block, Ind, Seg}
use Rattle.mc_state.specs.Graph.Edges.{known_nodes, nodes_of}
use Rattle.mc_state.specs.Graph.Graph.{numbered}
use Rattle.mc_pure_ops.specs.Join.Joint.{Pairs}
use Rattle.mc_pure.specs.Pure.{Kinds, kind_of}
use Rattle.mc_state.specs.Known.{Test}
use Rattle.mc_state.specs.Told.{KindIsTold}
use Rattle.mc_state.specs.declared.line.JoinStep.{JoinStep}
use Rattle.mc_state.specs.Laws.{NewNodesHaveKinds}
use Rattle.mc_state.specs.State.{State}
use Rattle.mc_rules_logic.specs.Fold.JudgedLaws.{SpareIsJudged}
use Rattle.mc_rules_logic.specs.Fold.MadeLaws.{SpareStaysMade}
use Rattle.mc_joins.specs.Alike.Named.{AllNamed}
use Rattle.mc_joins.specs.Joinings.{Joining, Pair, same_pair, with_pair, with_pairs, known_both, begun}
use Rattle.mc_joins.specs.Laws.{KnowsMade, JoinsNameAll}
use Rattle.mc_joins.specs.Parts.{Basis, Part}
use Rattle.mc_joins.specs.Steps.{pairs_of, node_for, nodes_for, known_for, edge_for, joined, after_step, after_steps}
use Rattle.mc_joins.specs.Whole.{kind_of_pair, kinds_from, kinds_of_pairs}
use Rattle.mc_joins.proofs.JoinMade.{Inv, has_listed, has_place, begun_inv, step_inv, taken}
use Rattle.mc_joins.proofs.JointKinds.{Listed}
use Rattle.mc_joins.proofs.JointStands.{node_place}
use Rattle.mc_joins.proofs.Members.{Has, has_left, has_right, has_map}
use Rattle.mc_joins.proofs.Keeping.{bind_some, map_some}

abbrev numbered_node : ℕ → NodeId
numbered_node n = record { 0 = n }

-- ---- no pair stands at two places

abbrev StandsOnce : Pairs → Type 0
StandsOnce ps = (i k : ℕ) (p : Pair) → slice_get ps i ≡ Some p → slice_get ps k ≡ Some p → i ≡ k

-- a place of a list with one item more
last_place : (ps : Pairs) (q : Pair) (i : ℕ) (p : Pair) → slice_get (ps ++ q ∷ []) i ≡ Some p → (slice_get ps i ≡ Some p) ⊎ ((i ≡ length ps) × (p ≡ q))
last_place [] q zero p e = let same : q ≡ p = cc e in inr (refl, sym same)
last_place [] q (suc i) p e = absurd (cc e)
last_place (x ∷ ps) q zero p e = inl e
last_place (x ∷ ps) q (suc i) p e = elim (last_place ps q i p e) [ inl h ↦ inl h | inr h ↦ inr (ap suc h.0, h.1) ]

once_one : (ps : Pairs) (q : Pair) → StandsOnce ps → StandsOnce (with_pair ps q)
once_one ps q once = at (list_any (same_pair q) ps) refl
  where
    not_there : list_any (same_pair q) ps ≡ false → (i : ℕ) (p : Pair) → slice_get ps i ≡ Some p → p ≡ q → ⊥
    not_there is i p e same = let there : Listed ps q = has_listed ps q (subst (λ (x : Pair). Has ps x) same (has_place ps i p e)) in cc (there, is)

    at : (b : Bool) → list_any (same_pair q) ps ≡ b → StandsOnce (if b then ps else ps ++ q ∷ [])
    at true is = once
    at false is = λ i k p e f. elim (last_place ps q i p e) [
      | inl x ↦ elim (last_place ps q k p f) [
        | inl y ↦ once i k p x y
        | inr y ↦ absurd (not_there is i p x y.1)
      ]
      | inr x ↦ elim (last_place ps q k p f) [
        | inl y ↦ absurd (not_there is k p y x.1)
        | inr y ↦ x.0 ∙ sym y.0
      ]
    ]

once_all : (new ps : Pairs) → StandsOnce ps → StandsOnce (with_pairs ps new)
once_all [] ps once = once
once_all (q ∷ new) ps once = once_all new (with_pair ps q) (once_one ps q once)

-- each pair that is listed was or is new
from_one : (ps : Pairs) (q : Pair) (i : ℕ) (p : Pair) → slice_get (with_pair ps q) i ≡ Some p → (slice_get ps i ≡ Some p) ⊎ (p ≡ q)
from_one ps q i p e = at (list_any (same_pair q) ps) e
  where
    at : (b : Bool) → slice_get (if b then ps else ps ++ q ∷ []) i ≡ Some p → (slice_get ps i ≡ Some p) ⊎ (p ≡ q)
    at true e = inl e
    at false e = elim (last_place ps q i p e) [ inl h ↦ inl h | inr h ↦ inr h.1 ]

from_all : (new ps : Pairs) (i : ℕ) (p : Pair) → slice_get (with_pairs ps new) i ≡ Some p → (slice_get ps i ≡ Some p) ⊎ Has new p
from_all [] ps i p e = inl e
from_all (q ∷ new) ps i p e = elim (from_all new (with_pair ps q) i p e) [
  | inl h ↦ (elim (from_one ps q i p h) [ inl x ↦ inl x | inr same ↦ inr (inl same) ])
  | inr h ↦ inr (inr h)
]

-- the node for a pair is its place
node_is : (ps : Pairs) → StandsOnce ps → (i : ℕ) (p : Pair) → slice_get ps i ≡ Some p → node_for ps p.0 p.1 ≡ numbered_node i
node_is ps once i p e =
    let there = node_place ps p.0 p.1 (has_listed ps p (has_place ps i p e)) in
    ap numbered_node (once (node_for ps p.0 p.1).0 i p there e)

-- ---- nodes of edges

has_parts : {X : Type 0} (xs ys : List X) (x : X) → Has (xs ++ ys) x → Has xs x ⊎ Has ys x
has_parts [] ys x h = inr h
has_parts (y ∷ xs) ys x (inl same) = inl (inl same)
has_parts (y ∷ xs) ys x (inr h) = elim (has_parts xs ys x h) [ inl a ↦ inl (inr a) | inr b ↦ inr b ]

module _ (ps : Pairs) where
  abbrev by_pair : Pair → NodeId
  by_pair p = node_for ps p.0 p.1

  known_has : (xs ys : List (Option NodeId)) (p : Pair) → Has (known_both xs ys) p → Has (known_nodes (known_for ps xs ys)) (by_pair p)
  known_has [] ys p h = absurd h
  known_has (x ∷ xs) [] p h = absurd (no_both x xs p h)
    where
      no_both : (x : Option NodeId) (xs : List (Option NodeId)) (p : Pair) → Has (known_both (x ∷ xs) []) p → ⊥
      no_both None xs p h = h
      no_both (Some l) xs p h = h
  known_has (None ∷ xs) (y ∷ ys) p h = known_has xs ys p h
  known_has (Some l ∷ xs) (None ∷ ys) p h = known_has xs ys p h
  known_has (Some l ∷ xs) (Some r ∷ ys) p (inl same) = inl (ap by_pair same)
  known_has (Some l ∷ xs) (Some r ∷ ys) p (inr h) = inr (known_has xs ys p h)

  known_place : (xs ys : List (Option NodeId)) (p : Pair) → Has (known_both xs ys) p → (place : ℕ) × (slice_get (known_for ps xs ys) place ≡ Some (Some (by_pair p)))
  known_place [] ys p h = absurd h
  known_place (x ∷ xs) [] p h = absurd (no_both x xs p h)
    where
      no_both : (x : Option NodeId) (xs : List (Option NodeId)) (p : Pair) → Has (known_both (x ∷ xs) []) p → ⊥
      no_both None xs p h = h
      no_both (Some l) xs p h = h
  known_place (None ∷ xs) (y ∷ ys) p h = let rest = known_place xs ys p h in (suc rest.0, rest.1)
  known_place (Some l ∷ xs) (None ∷ ys) p h = let rest = known_place xs ys p h in (suc rest.0, rest.1)
  known_place (Some l ∷ xs) (Some r ∷ ys) p (inl same) = (0, ap (λ (x : Pair). Some (Some (by_pair x))) (sym same))
  known_place (Some l ∷ xs) (Some r ∷ ys) p (inr h) = let rest = known_place xs ys p h in (suc rest.0, rest.1)

  zip_has : (xs ys : List NodeId) (p : Pair) → Has (zip xs ys) p → Has (nodes_for ps xs ys) (by_pair p)
  zip_has xs ys p h = has_map by_pair (zip xs ys) p h

  -- a pair of two edges has its node in the edge that they make
  edge_has : (e f new : Edge) (p : Pair) → edge_for ps e f ≡ Some new → Has (pairs_of e f) p → Has (nodes_of new) (by_pair p)
  edge_has (Block a shape fields) (Block b own others) new p is h =
      let same : Block (node_for ps a b) shape (known_for ps fields others) ≡ new = cc is in
      subst (λ (x : Edge). Has (nodes_of x) (by_pair p)) same (inr (known_has fields others p h))
  edge_has (Block a shape fields) (Ind b own others) new p is h = absurd h
  edge_has (Block a shape fields) (Seg b others own stop stops) new p is h = absurd h
  edge_has (Ind a pred args) (Block b own others) new p is h = absurd h
  edge_has (Ind a pred args) (Ind b own others) new p is h =
      let same : Ind (node_for ps a b) pred (nodes_for ps args others) ≡ new = cc is in
      subst (λ (x : Edge). Has (nodes_of x) (by_pair p)) same (inr (zip_has args others p h))
  edge_has (Ind a pred args) (Seg b others own stop stops) new p is h = absurd h
  edge_has (Seg a args pred «end» ends) (Block b own others) new p is h = absurd h
  edge_has (Seg a args pred «end» ends) (Ind b own others) new p is h = absurd h
  edge_has (Seg a args pred «end» ends) (Seg b others own stop stops) new p is h =
      let same : Seg (node_for ps a b) (nodes_for ps args others) pred (node_for ps end stop) (nodes_for ps ends stops) ≡ new = cc is in
      subst (λ (x : Edge). Has (nodes_of x) (by_pair p)) same (inr (elim (has_parts (zip args others) ((end, stop) ∷ zip ends stops) p h) [
        | inl x ↦ has_left (nodes_for ps args others) (node_for ps end stop ∷ nodes_for ps ends stops) (by_pair p) (zip_has args others p x)
        | inr x ↦ has_right (nodes_for ps args others) (node_for ps end stop ∷ nodes_for ps ends stops) (by_pair p) (last_has x)
      ]))
    where
      last_has : Has ((end, stop) ∷ zip ends stops) p → Has (node_for ps end stop ∷ nodes_for ps ends stops) (by_pair p)
      last_has (inl q) = inl (ap by_pair q)
      last_has (inr q) = inr (zip_has ends stops p q)

-- ---- joins that have come some way

-- the node with a number is one of an edge
abbrev IsOfEdge : List Edge → ℕ → Type 0
IsOfEdge es i = (e : Edge) × Has es e × Has (nodes_of e) (numbered_node i)

-- no pair stands twice, and each but the first is that of a variable, or its node is one of an edge
record Names (left right : State) (j : Joining) : Type 0 where
  once : StandsOnce j.pairs
  named : (i : ℕ) (p : Pair) → slice_get j.pairs (suc i) ≡ Some p → Has (known_both left.env right.env) p ⊎ IsOfEdge j.edges (suc i)

begun_names : (left right : State) → Names left right (begun left right)
begun_names left right = record {
  once = once_all (known_both left.env right.env) ((null, null) ∷ []) first;
  named = λ i p e. elim (from_all (known_both left.env right.env) ((null, null) ∷ []) (suc i) p e) [ inl h ↦ absurd (cc h) | inr h ↦ inl h ];
}
  where
    first : StandsOnce ((null, null) ∷ [])
    first zero zero p e f = refl
    first zero (suc k) p e f = absurd (cc f)
    first (suc i) k p e f = absurd (cc e)

joined_names : (left right : State) (j : Joining) (l r : Part) (k : Joining) → joined j l r ≡ Some k → Names left right j → Names left right k
joined_names left right j l r k is n =
    let got = map_some _ (edge_for (with_pairs j.pairs (pairs_of l.edge r.edge)) l.edge r.edge) k is in
    subst (Names left right) got.2 (record {
      once = once_all (pairs_of l.edge r.edge) j.pairs n.once;
      named = λ i p e. elim (from_all (pairs_of l.edge r.edge) j.pairs (suc i) p e) [
        | inl h ↦ (elim (n.named i p h) [ inl x ↦ inl x | inr x ↦ inr (x.0, has_left j.edges (got.0 ∷ []) x.0 x.1, x.2) ])
        | inr h ↦
            let ps = with_pairs j.pairs (pairs_of l.edge r.edge) in
            let there = edge_has ps l.edge r.edge got.0 p got.1 h in
            let place = node_is ps (once_all (pairs_of l.edge r.edge) j.pairs n.once) (suc i) p e in
            inr (got.0, has_right j.edges (got.0 ∷ []) got.0 (inl refl), subst (Has (nodes_of got.0)) place there)
      ];
    })

module _ (defs : List Def) (vars : List VarInfo) (structs : List StructInfo) (left right : State) (judged : SpareIsJudged) (stays : SpareStaysMade) (new_kinds : NewNodesHaveKinds) (told : KindIsTold)
    (know : State → Test) (tells : KnowsMade defs vars structs know) where
  abbrev basis : Basis
  basis = record { know = know; defs = defs }

  step_names : (j : Joining) (i : Inv defs vars structs left right j) (step : JoinStep) (k : Joining) → after_step basis j step ≡ Some k → Names left right j → Names left right k
  step_names j i step k is n =
      let t = taken defs vars structs left right judged stays new_kinds told know tells j i step k is in
      let s = t.1 in
      let made = joined_names left right j s.left s.right s.made s.is n in
      elim s.after [
        | inl same ↦ subst (Names left right) same made
        | inr c ↦ subst (Names left right) c.2 (record { once = made.once; named = made.named })
      ]

  steps_names : (steps : List JoinStep) (j last : Joining) (i : Inv defs vars structs left right j) → after_steps basis j steps ≡ Some last → Names left right j → Names left right last
  steps_names [] j last i e n = let same : j ≡ last = cc e in subst (Names left right) same n
  steps_names (step ∷ steps) j last i e n =
      let next = bind_some (λ (next : Joining). after_steps basis next steps) (after_step basis j step) last e in
      steps_names steps next.0 last (step_inv defs vars structs left right judged stays new_kinds told know tells j i step next.0 next.1) next.2
      (step_names j i step next.0 next.1 n)

-- ---- what a whole join gives

-- a node with a kind is the place of a pair
place_with_kind : (j : Joining) (m : ℕ) (ps : Pairs) (n : NodeId) (kind : Kind) → kind_of (kinds_from j m ps) n ≡ Some kind → (i : ℕ) × ((p : Pair) × (slice_get ps i ≡ Some p) × (n.0 ≡ m + i))
place_with_kind j m [] n kind e = absurd (cc e)
place_with_kind j m (p ∷ ps) n kind e = at (kind_of_pair j p) (λ f. place_with_kind j (suc m) ps n kind f) e
  where
    later : (i : ℕ) × ((q : Pair) × (slice_get ps i ≡ Some q) × (n.0 ≡ suc m + i)) → (i : ℕ) × ((q : Pair) × (slice_get (p ∷ ps) i ≡ Some q) × (n.0 ≡ m + i))
    later h = let e = h.1.2 in (suc h.0, (h.1.0, h.1.1, omega arith))

    here : (own : Kind) (b : Bool) → (m == n.0) ≡ b → (kind_of (kinds_from j (suc m) ps) n ≡ Some kind → (i : ℕ) × ((q : Pair) × (slice_get ps i ≡ Some q) × (n.0 ≡ suc m + i)))
        → (if b then Some own else kind_of (kinds_from j (suc m) ps) n) ≡ Some kind → (i : ℕ) × ((q : Pair) × (slice_get (p ∷ ps) i ≡ Some q) × (n.0 ≡ m + i))
    here own true is rest e = let same : m ≡ n.0 = eqb-true m n.0 is in (0, (p, refl, omega arith))
    here own false is rest e = later (rest e)

    at : (o : Option Kind) → (kind_of (kinds_from j (suc m) ps) n ≡ Some kind → (i : ℕ) × ((q : Pair) × (slice_get ps i ≡ Some q) × (n.0 ≡ suc m + i)))
        → kind_of (option_to_list (option_map (λ (k : Kind). let x : NodeId × Kind = (record { 0 = m }, k) in x) o) ++ kinds_from j (suc m) ps) n ≡ Some kind
        → (i : ℕ) × ((q : Pair) × (slice_get (p ∷ ps) i ≡ Some q) × (n.0 ≡ m + i))
    at None rest e = later (rest e)
    at (Some own) rest e = here own (m == n.0) refl rest e

numbered_place : (m : ℕ) (es : List Edge) (e : Edge) → Has es e → (place : ℕ) × ((id : EdgeId) × (slice_get (numbered m es) place ≡ Some (id, e)))
numbered_place m [] e h = absurd h
numbered_place m (x ∷ es) e (inl same) = (0, (record { 0 = m }, ap (λ (z : Edge). let y : EdgeId × Edge = (record { 0 = m }, z) in Some y) (sym same)))
numbered_place m (x ∷ es) e (inr h) = let rest = numbered_place (suc m) es e h in (suc rest.0, (rest.1.0, rest.1.1))

has_contains : (ns : List NodeId) (n : NodeId) → Has ns n → Contains ns n
has_contains [] n h = absurd h
has_contains (m ∷ ns) n (inl same) = (0, omega arith, sym same)
has_contains (m ∷ ns) n (inr h) = let rest = has_contains ns n h in let less = rest.1 in (suc rest.0, omega arith, rest.2)

all_named : (left right : State) (last : Joining) (t : State) → t.env ≡ known_for last.pairs left.env right.env → t.kinds ≡ kinds_of_pairs last last.pairs → t.graph.edges ≡ numbered 0 last.edges
    → Names left right last → AllNamed t
all_named left right last t env kinds edges names n kind e unnamed = at last.pairs refl (ap (λ (ks : Kinds). kind_of ks n) (sym kinds) ∙ e)
  where
    by_place : (i : ℕ) (p : Pair) → slice_get last.pairs (suc i) ≡ Some p → n ≡ numbered_node (suc i) → ⊥
    by_place i p there is = elim (names.named i p there) [
      | inl h ↦
          let found = known_place last.pairs left.env right.env p h in
          let node = node_is last.pairs names.once (suc i) p there ∙ sym is in
          unnamed.vars found.0 (ap (λ (z : List (Option NodeId)). slice_get z found.0) env ∙ (found.1 ∙ ap (λ (z : NodeId). Some (Some z)) node))
      | inr h ↦
          let found = numbered_place 0 last.edges h.0 h.1 in
          unnamed.edges found.0 found.1.0 h.0 (ap (λ (z : List (EdgeId × Edge)). slice_get z found.0) edges ∙ found.1.1)
          (has_contains (nodes_of h.0) n (subst (Has (nodes_of h.0)) (sym is) h.2))
    ]

    at : (ps : Pairs) → last.pairs ≡ ps → kind_of (kinds_of_pairs last last.pairs) n ≡ Some kind → ⊥
    at [] is e = let none : kind_of [] n ≡ Some kind = ap (λ (z : Pairs). kind_of (kinds_of_pairs last z) n) (sym is) ∙ e in cc none
    at (p ∷ ps) is e =
        let found = place_with_kind last 1 ps n kind (ap (λ (z : Pairs). kind_of (kinds_of_pairs last z) n) (sym is) ∙ e) in
        let number = found.1.2 in
        let suc_is : n.0 ≡ suc found.0 = omega arith in
        by_place found.0 found.1.0 (ap (λ (z : Pairs). slice_get z (suc found.0)) is ∙ found.1.1) (ap numbered_node suc_is)

pub joins_name_all : SpareIsJudged → SpareStaysMade → NewNodesHaveKinds → KindIsTold → JoinsNameAll
joins_name_all judged stays new_kinds told defs vars structs know round thresholds left right steps t tells lm rm joins =
    let names = steps_names defs vars structs left right judged stays new_kinds told know tells steps (begun left right) joins.last (begun_inv defs vars structs left right lm rm) joins.reached (begun_names left right) in
    all_named left right joins.last t (ap (λ (s : State). s.env) joins.gives) (ap (λ (s : State). s.kinds) joins.gives) (ap (λ (s : State). s.graph.edges) joins.gives) names
