-- The edges that marks leave.
use Rattle.std.proofs.Common.{◌≡◌, ℕ, Bool, true, false, not, ◌||◌, Option, Some, None, List, [], ◌∷◌, ◌++◌, refl, ap, sym, ◌∙◌, eqb-true, eq-eqb, append-nil, append_assoc}
use Rattle.std.specs.Prelude.{◌==◌, option_map, option_to_list}
use Rattle.mc_base.specs.declared.ids.EdgeId.{EdgeId}
use Rattle.mc_state.specs.declared.graph.edge.Edge.{Edge}
use Rattle.mc_state.specs.Graph.Graph.{Edges, edge_with, without, IdsAscend}
use Rattle.mc_state.specs.Named.{others, is_among}
use Rattle.mc_state.proofs.Named.{kept_other, gone}
use Rattle.mc_state.proofs.Tests.{not_no}
use Rattle.mc_shape_search.specs.Search.Search.{uses, takes_this, is_unused, is_free}
use Rattle.mc_cover.specs.Goals.{Mark}
use Rattle.mc_cover.specs.Marks.{edge_of, takes}
use Rattle.mc_cover.specs.First.{taken}
use Rattle.mc_state.proofs.Ids.{ids_without}

pub or_parts : (a b : Bool) → (a || b) ≡ false → (a ≡ false) × (b ≡ false)
or_parts true b e = absurd (cc e)
or_parts false b e = (refl, e)

or_assoc : (a b c : Bool) → (a || (b || c)) ≡ ((a || b) || c)
or_assoc true b c = refl
or_assoc false b c = refl

pub turned : (a b : ℕ) → (a == b) ≡ false → (b == a) ≡ false
turned a b e = at (b == a) refl
  where
    at : (c : Bool) → (b == a) ≡ c → c ≡ false
    at true is = let same : (a == b) ≡ true = eq-eqb a b (sym (eqb-true b a is)) in cc (same, e)
    at false is = refl

-- one edge more
pub others_more : (es : Edges) (ids : List EdgeId) (id : EdgeId) → others es (ids ++ id ∷ []) ≡ without (others es ids) id
others_more es [] id = refl
others_more es (other ∷ ids) id = others_more (without es other) ids id

-- an edge that none of the ids names is still there
pub others_keep : (es : Edges) (ids : List EdgeId) (id : EdgeId) → is_among id ids ≡ false → edge_with (others es ids) id ≡ edge_with es id
others_keep es [] id e = refl
others_keep es (other ∷ ids) id e =
    let both = or_parts (other.0 == id.0) (is_among id ids) e in
    others_keep (without es other) ids id both.1 ∙ kept_other es other id (turned other.0 id.0 both.0)

same_edge : (a b : EdgeId) → (a.0 == b.0) ≡ true → a ≡ b
same_edge a b e = ap (λ n. record { 0 = n }) (eqb-true a.0 b.0 e)

-- an edge that is still there is named by none of the ids, and was there
pub others_there : (es : Edges) (ids : List EdgeId) (id : EdgeId) (high : ℕ) (e : Edge) → IdsAscend 0 es high → edge_with (others es ids) id ≡ Some e → (is_among id ids ≡ false) × (edge_with es id ≡ Some e)
others_there es [] id high e a h = (refl, h)
others_there es (other ∷ ids) id high e a h = at (others_there (without es other) ids id high e (ids_without 0 es high other a) h) (other.0 == id.0) refl
  where
    at : (is_among id ids ≡ false) × (edge_with (without es other) id ≡ Some e) → (here : Bool) → (other.0 == id.0) ≡ here → ((here || is_among id ids) ≡ false) × (edge_with es id ≡ Some e)
    at r true is =
        let none : edge_with (without es other) id ≡ None = ap (λ i. edge_with (without es other) i) (sym (same_edge other id is)) ∙ gone 0 es high other a in
        let both = sym none ∙ r.1 in
        absurd (cc both)
    at r false is = (r.0, sym (kept_other es other id (turned other.0 id.0 is)) ∙ r.1)

-- the marks have taken a number where its edge is among those taken
uses_one : (o : Option EdgeId) (id : EdgeId) (ids : List EdgeId) (b : Bool) → b ≡ is_among id ids → (takes_this (option_map (λ (i : EdgeId). i.0) o) id.0 || b) ≡ is_among id (option_to_list o ++ ids)
uses_one None id ids b e = e
uses_one (Some own) id ids b e = ap (λ b. own.0 == id.0 || b) e

pub uses_among : (log : List Mark) (id : EdgeId) → uses takes log id.0 ≡ is_among id (taken log)
uses_among [] id = refl
uses_among (m ∷ log) id = uses_one (edge_of m) id (taken log) (uses takes log id.0) (uses_among log id)

-- and those of one mark more
pub taken_more : (log : List Mark) (m : Mark) → taken (log ++ m ∷ []) ≡ taken log ++ option_to_list (edge_of m)
taken_more [] m = append-nil (option_to_list (edge_of m))
taken_more (x ∷ log) m = ap (λ l. option_to_list (edge_of x) ++ l) (taken_more log m) ∙ sym (append_assoc (option_to_list (edge_of x)) (taken log) (option_to_list (edge_of m)))

module _ (es : Edges) where
  -- the edges that marks leave
  abbrev pub left_by : List Mark → Edges
  left_by log = others es (taken log)

  pub left_same : (log : List Mark) (m : Mark) → edge_of m ≡ None → left_by (log ++ m ∷ []) ≡ left_by log
  left_same log m e = ap (others es) (taken_more log m ∙ (ap (λ o. taken log ++ option_to_list o) e ∙ append-nil (taken log)))

  pub left_less : (log : List Mark) (m : Mark) (id : EdgeId) → edge_of m ≡ Some id → left_by (log ++ m ∷ []) ≡ without (left_by log) id
  left_less log m id e = ap (others es) (taken_more log m ∙ ap (λ o. taken log ++ option_to_list o) e) ∙ others_more es (taken log) id

  -- the edge of a mark that is free is still there
  pub still_there : (log : List Mark) (m : Mark) (id : EdgeId) (e : Edge) → edge_of m ≡ Some id → is_free takes log m ≡ true → edge_with es id ≡ Some e → edge_with (left_by log) id ≡ Some e
  still_there log m id e by free is =
      let unused : not (uses takes log id.0) ≡ true = ap (λ (o : Option EdgeId). is_unused takes log (option_map (λ (i : EdgeId). i.0) o)) (sym by) ∙ free in
      others_keep es (taken log) id (sym (uses_among log id) ∙ not_no (uses takes log id.0) unused) ∙ is

  -- and where it is there still, the mark is free
  pub is_free_there : (log : List Mark) (m : Mark) (id : EdgeId) (high : ℕ) (e : Edge) → edge_of m ≡ Some id → IdsAscend 0 es high → edge_with (left_by log) id ≡ Some e → (is_free takes log m ≡ true) × (edge_with es id ≡ Some e)
  is_free_there log m id high e by ascend is =
      let r = others_there es (taken log) id high e ascend is in
      let unused : not (uses takes log id.0) ≡ true = ap not (uses_among log id ∙ r.0) in
      (ap (λ (o : Option EdgeId). is_unused takes log (option_map (λ (i : EdgeId). i.0) o)) by ∙ unused, r.1)

  pub is_free_none : (log : List Mark) (m : Mark) → edge_of m ≡ None → is_free takes log m ≡ true
  is_free_none log m by = ap (λ (o : Option EdgeId). is_unused takes log (option_map (λ (i : EdgeId). i.0) o)) by
