-- States that are numbered anew.
use Rattle.std.proofs.Common.{◌≡◌, ◌≢◌, ◌+◌, ◌<◌, ◌≤◌, ℕ, suc, List, [], ◌∷◌, length, map, Bool, true, false, Option, Some, None, refl, sym, ap, subst, ◌∙◌, inl, inr, arith, eqb-true, eq-eqb}
use Rattle.std.specs.Prelude.{◌==◌, if◌then◌else◌}
use Rattle.std.specs.List.{AllByRecursion}
use Rattle.std.proofs.lemmas.Bool.{ne_eqb}
use Rattle.mc_base.specs.declared.ids.EdgeId.{EdgeId}
use Rattle.mc_base.specs.declared.ids.NodeId.{NodeId}
use Rattle.mc_base.specs.declared.plain.Kind.{Kind}
use Rattle.mc_base.specs.Nodes.{Valuation, moved}
use Rattle.mc_flow.specs.Heap.Heap.{Region}
use Rattle.mc_flow.specs.Heap.Parts.{Star}
use Rattle.mc_flow.specs.declared.defs.rules.Def.{Def}
use Rattle.mc_state.specs.declared.graph.edge.Edge.{Edge}
use Rattle.mc_state.specs.Graph.Edges.{nodes_of}
use Rattle.mc_state.specs.Graph.Graph.{Edges, IdsAscend, numbered}
use Rattle.mc_pure.specs.Pure.{Kinds, IsNode, kind_of}
use Rattle.mc_state.specs.State.{State, renamed}
use Rattle.mc_state.specs.Fits.{IsBounded, NodesAscend, AreNodes}
use Rattle.mc_state.specs.Laws.{moved_kinds, IsInjective, RenamedStaysBounded, StandsRenamed}
use Rattle.mc_state.specs.Stands.{EdgesMeet, EdgeMeets}
use Rattle.mc_joins.specs.Same.Same.{place_from, place_in, numbered_graph, anew}
use Rattle.mc_joins.specs.Same.Laws.{AnewIsBounded, AnewStands}

-- the place of a node that is there, or of none
module _ (k : NodeId × Kind) (kinds : Kinds) (place n : ℕ) where
  pub place_here : k.0.0 ≡ n → place_from place (k ∷ kinds) n ≡ place
  place_here e = let same : (k.0.0 == n) ≡ true = eq-eqb k.0.0 n e in rw same refl

  pub place_later : k.0.0 ≢ n → place_from place (k ∷ kinds) n ≡ place_from (suc place) kinds n
  place_later e = let other : (k.0.0 == n) ≡ false = ne_eqb k.0.0 n e in rw other refl

-- no node below the least has a place
pub place_none : (place low : ℕ) (kinds : Kinds) (high n : ℕ) → NodesAscend low kinds high → n < low → place_from place kinds n ≡ 0
place_none place low [] high n a less = refl
place_none place low (k ∷ kinds) high n a less =
    let first = a.0 in
    let differ : k.0.0 ≢ n = omega arith in
    place_later k kinds place n differ ∙ place_none (suc place) (suc k.0.0) kinds high n a.2 (omega arith)

-- a node is there or it is none of them
pub data Placed (place : ℕ) (kinds : Kinds) (n : ℕ) : Type 0 where
  is_placed : place ≤ place_from place kinds n → place_from place kinds n < place + length kinds → Placed place kinds n

placed_later : (place n : ℕ) (k : NodeId × Kind) (kinds : Kinds) → k.0.0 ≢ n → Placed (suc place) kinds n → Placed place (k ∷ kinds) n
placed_later place n k kinds e (is_placed low high) =
    let same = place_later k kinds place n e in
    is_placed (omega arith) (omega arith)

kind_rest : (k : NodeId × Kind) (kinds : Kinds) (n : NodeId) (kind : Kind) → k.0.0 ≢ n.0 → kind_of (k ∷ kinds) n ≡ Some kind → kind_of kinds n ≡ Some kind
kind_rest k kinds n kind e is =
    let other : (k.0.0 == n.0) ≡ false = ne_eqb k.0.0 n.0 e in
    ap (λ (b : Bool). if b then Some k.1 else kind_of kinds n) (sym other) ∙ is

-- a node that is there has a place
pub placed : (place : ℕ) (kinds : Kinds) (n : NodeId) (kind : Kind) → kind_of kinds n ≡ Some kind → Placed place kinds n.0
placed place [] n kind e = absurd (cc e)
placed place (k ∷ kinds) n kind e = at (λ f. placed (suc place) kinds n kind f) (k.0.0 == n.0) refl
  where
    at : (kind_of kinds n ≡ Some kind → Placed (suc place) kinds n.0) → (b : Bool) → (k.0.0 == n.0) ≡ b → Placed place (k ∷ kinds) n.0
    at rest true is =
        let same = place_here k kinds place n.0 (eqb-true k.0.0 n.0 is) in
        is_placed (omega arith) (omega arith)
    at rest false is =
        let differ : k.0.0 ≢ n.0 = λ q. (let yes' : (k.0.0 == n.0) ≡ true = eq-eqb k.0.0 n.0 q in cc (yes', is)) in
        placed_later place n.0 k kinds differ (rest (kind_rest k kinds n kind differ e))

-- two nodes that are there have one place where they are one
pub one_place : (place : ℕ) (kinds : Kinds) (m n : NodeId) (kind other : Kind) → kind_of kinds m ≡ Some kind → kind_of kinds n ≡ Some other → place_from place kinds m.0 ≡ place_from place kinds n.0 → m.0 ≡ n.0
one_place place [] m n kind other e f same = absurd (cc e)
one_place place (k ∷ kinds) m n kind other e f same = at (λ d p q. one_place (suc place) kinds m n kind other d p q) (k.0.0 == m.0) (k.0.0 == n.0) refl refl
  where
    far : (j : ℕ) → Placed (suc place) kinds j → place ≡ place_from (suc place) kinds j → ⊥
    far j (is_placed low high) e2 = omega arith

    apart : (j : NodeId) → (k.0.0 == j.0) ≡ false → k.0.0 ≢ j.0
    apart j is = λ q. (let yes' : (k.0.0 == j.0) ≡ true = eq-eqb k.0.0 j.0 q in cc (yes', is))

    at : (kind_of kinds m ≡ Some kind → kind_of kinds n ≡ Some other → place_from (suc place) kinds m.0 ≡ place_from (suc place) kinds n.0 → m.0 ≡ n.0) → (b c : Bool) → (k.0.0 == m.0) ≡ b → (k.0.0 == n.0) ≡ c → m.0 ≡ n.0
    at rest true true is also = sym (eqb-true k.0.0 m.0 is) ∙ eqb-true k.0.0 n.0 also
    at rest true false is also =
        let differ = apart n also in
        absurd (far n.0 (placed (suc place) kinds n other (kind_rest k kinds n other differ f))
        (sym (place_here k kinds place m.0 (eqb-true k.0.0 m.0 is)) ∙ same ∙ place_later k kinds place n.0 differ))
    at rest false true is also =
        let differ = apart m is in
        absurd (far m.0 (placed (suc place) kinds m kind (kind_rest k kinds m kind differ e))
        (sym (place_here k kinds place n.0 (eqb-true k.0.0 n.0 also)) ∙ sym same ∙ place_later k kinds place m.0 differ))
    at rest false false is also =
        let differ = apart m is in
        let differs = apart n also in
        rest (kind_rest k kinds m kind differ e) (kind_rest k kinds n other differs f)
        (sym (place_later k kinds place m.0 differ) ∙ same ∙ place_later k kinds place n.0 differs)

-- each node of a list has the next place
abbrev AllPlaced : (ℕ → ℕ) → ℕ → Kinds → Type 0
AllPlaced f place [] = Unit {0}
AllPlaced f place (k ∷ kinds) = (f k.0.0 ≡ place) × AllPlaced f (suc place) kinds

placed_agree : (f g : ℕ → ℕ) (place : ℕ) (kinds : Kinds) → AllByRecursion (λ (k : NodeId × Kind). g k.0.0 ≡ f k.0.0) kinds → AllPlaced g place kinds → AllPlaced f place kinds
placed_agree f g place [] a p = tt
placed_agree f g place (k ∷ kinds) a p = (sym a.0 ∙ p.0, placed_agree f g (suc place) kinds a.1 p.1)

later_agree : (k : NodeId × Kind) (kinds : Kinds) (place low : ℕ) (rest : Kinds) (high : ℕ) → NodesAscend low rest high → k.0.0 < low → AllByRecursion (λ (j : NodeId × Kind). place_from (suc place) kinds j.0.0 ≡ place_from place (k ∷ kinds) j.0.0) rest
later_agree k kinds place low [] high a less = tt
later_agree k kinds place low (j ∷ rest) high a less =
    let first = a.0 in
    let differ : k.0.0 ≢ j.0.0 = omega arith in
    (sym (place_later k kinds place j.0.0 differ), later_agree k kinds place (suc j.0.0) rest high a.2 (omega arith))

-- the nodes of an ascending list have one place after the other
all_placed : (place low : ℕ) (kinds : Kinds) (high : ℕ) → NodesAscend low kinds high → AllPlaced (place_from place kinds) place kinds
all_placed place low [] high a = tt
all_placed place low (k ∷ kinds) high a = (
  place_here k kinds place k.0.0 refl,
  placed_agree (place_from place (k ∷ kinds)) (place_from (suc place) kinds) (suc place) kinds (later_agree k kinds place (suc k.0.0) kinds high a.2 (omega arith)) (all_placed (suc place) (suc k.0.0) kinds high a.2),
)

places_ascend : (f : ℕ → ℕ) (place high : ℕ) (kinds : Kinds) → AllPlaced f place kinds → place + length kinds ≤ high → NodesAscend place (moved_kinds f kinds) high
places_ascend f place high [] a less = tt
places_ascend f place high (k ∷ kinds) a less =
    let is = a.0 in
    let low : place < suc (f k.0.0) = omega arith in
    let below : f k.0.0 < high = omega arith in
    (low, below, subst (λ (n : ℕ). NodesAscend n (moved_kinds f kinds) high) (ap suc (sym is)) (places_ascend f (suc place) high kinds a.1 (omega arith)))

-- the image of a node that is there is there
image_there : (f : ℕ → ℕ) (kinds : Kinds) (n : NodeId) (kind : Kind) → kind_of kinds n ≡ Some kind → (other : Kind) × (kind_of (moved_kinds f kinds) (moved f n) ≡ Some other)
image_there f [] n kind e = absurd (cc e)
image_there f (k ∷ kinds) n kind e = at (λ g. image_there f kinds n kind g) (k.0.0 == n.0) refl
  where
    behind : (kind_of kinds n ≡ Some kind → (other : Kind) × (kind_of (moved_kinds f kinds) (moved f n) ≡ Some other)) → k.0.0 ≢ n.0 → (c : Bool) → (other : Kind) × ((if c then Some k.1 else kind_of (moved_kinds f kinds) (moved f n)) ≡ Some other)
    behind rest differ true = (k.1, refl)
    behind rest differ false = rest (kind_rest k kinds n kind differ e)

    at : (kind_of kinds n ≡ Some kind → (other : Kind) × (kind_of (moved_kinds f kinds) (moved f n) ≡ Some other)) → (b : Bool) → (k.0.0 == n.0) ≡ b → (other : Kind) × (kind_of (moved_kinds f (k ∷ kinds)) (moved f n) ≡ Some other)
    at rest true is =
        let one : (f k.0.0 == f n.0) ≡ true = eq-eqb (f k.0.0) (f n.0) (ap f (eqb-true k.0.0 n.0 is)) in
        (k.1, ap (λ (b : Bool). if b then Some k.1 else kind_of (moved_kinds f kinds) (moved f n)) one)
    at rest false is =
        let differ : k.0.0 ≢ n.0 = λ q. (let yes' : (k.0.0 == n.0) ≡ true = eq-eqb k.0.0 n.0 q in cc (yes', is)) in
        behind rest differ (f k.0.0 == f n.0)

-- ---- the whole state
abbrev numbered_node : ℕ → NodeId
numbered_node n = record { 0 = n }

module _ (s : State) (bounded : IsBounded s) where
  null_place : place_in s 0 ≡ 0
  null_place = place_none 1 1 s.kinds s.next 0 bounded.kinds (omega arith)

  images_there : (n : NodeId) → IsNode s.kinds n → IsNode (moved_kinds (place_in s) s.kinds) (moved (place_in s) n)
  images_there n there = elim there.1 [
    | inl e ↦ (there.0, inl (ap numbered_node (ap (λ (m : NodeId). place_in s m.0) e ∙ null_place)))
    | inr e ↦ let image = image_there (place_in s) s.kinds n there.0 e in (image.0, inr image.1)
  ]

  not_null : (n : NodeId) (kind : Kind) → kind_of s.kinds n ≡ Some kind → place_in s n.0 ≡ 0 → ⊥
  not_null n kind e none = far (placed 1 s.kinds n kind e)
    where
      far : Placed 1 s.kinds n.0 → ⊥
      far (is_placed low high) = let e2 = none in omega arith

  one_node : IsInjective (place_in s) s.kinds
  one_node m n first second same = elim first.1 [
    | inl e ↦ elim second.1 [
      | inl f ↦ e ∙ sym f
      | inr f ↦ absurd (not_null n second.0 f (sym same ∙ ap (λ (m : NodeId). place_in s m.0) e ∙ null_place))
    ]
    | inr e ↦ elim second.1 [
      | inl f ↦ absurd (not_null m first.0 e (same ∙ ap (λ (m : NodeId). place_in s m.0) f ∙ null_place))
      | inr f ↦ ap numbered_node (one_place 1 s.kinds m n first.0 second.0 e f same)
    ]
  ]

  kinds_ascend : NodesAscend 1 (moved_kinds (place_in s) s.kinds) (suc (length s.kinds))
  kinds_ascend = places_ascend (place_in s) 1 (suc (length s.kinds)) s.kinds (all_placed 1 1 s.kinds s.next bounded.kinds) (omega arith)

abbrev edges_of : Edges → List Edge
edges_of es = map (λ (e : EdgeId × Edge). e.1) es

ids_numbered : (n high : ℕ) (es : List Edge) → n + length es ≤ high → IdsAscend n (numbered n es) high
ids_numbered n high [] less = tt
ids_numbered n high (e ∷ es) less = (omega arith, omega arith, ids_numbered (suc n) high es (omega arith))

each_numbered : (P : Edge → Type 0) (n : ℕ) (es : Edges) → AllByRecursion (λ (e : EdgeId × Edge). P e.1) es → AllByRecursion (λ (e : EdgeId × Edge). P e.1) (numbered n (edges_of es))
each_numbered P n [] a = tt
each_numbered P n (e ∷ es) a = (a.0, each_numbered P (suc n) es a.1)

same_count : (es : Edges) → length (edges_of es) ≡ length es
same_count [] = refl
same_count (e ∷ es) = ap suc (same_count es)

pub anew_is_bounded : RenamedStaysBounded → AnewIsBounded
anew_is_bounded law s b =
    let r = law s (place_in s) (moved_kinds (place_in s) s.kinds) (suc (length s.kinds)) b (omega arith) (kinds_ascend s b) (images_there s b) in
    let es = (anew_edges s) in
    let count = same_count es in
    record {
      positive = r.positive;
      kinds = r.kinds;
      ids = ids_numbered 0 (length es) (edges_of es) (omega arith);
      vars = r.vars;
      edges = each_numbered (λ (e : Edge). AreNodes (moved_kinds (place_in s) s.kinds) (nodes_of e)) 0 es r.edges;
      atoms = r.atoms;
    }
  where
    anew_edges : State → Edges
    anew_edges s = (renamed (place_in s) (moved_kinds (place_in s) s.kinds) (suc (length s.kinds)) s).graph.edges

-- the parts of edges do not depend on their ids
parts_numbered : (defs : List Def) (v : Valuation) (n : ℕ) (es : Edges) (region : Region) → EdgesMeet defs v es region → EdgesMeet defs v (numbered n (edges_of es)) region
parts_numbered defs v n [] region star = star
parts_numbered defs v n (e ∷ es) region star = (star.0, star.1, star.2, star.3, parts_numbered defs v (suc n) es star.1 star.4)

pub anew_stands : StandsRenamed → AnewStands
anew_stands law defs values region s b stands =
    let moved_on = law defs values region s (place_in s) (suc (length s.kinds)) b (null_place s b) (one_node s b) stands in
    let v = moved_on.0 in
    let at = moved_on.1 in (
      v,
      record {
        null = at.null;
        kinds = at.kinds;
        atoms = at.atoms;
        vars = at.vars;
        parts = record {
          held = at.parts.held;
          rest = at.parts.rest;
          split = at.parts.split;
          each = parts_numbered defs v 0 (renamed (place_in s) (moved_kinds (place_in s) s.kinds) (suc (length s.kinds)) s).graph.edges at.parts.held at.parts.each;
          alone = at.parts.alone;
        };
      },
    )
