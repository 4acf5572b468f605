-- The edges that the first way takes are there, each once.
use Rattle.std.proofs.Common.{◌≡◌, ℕ, zero, suc, Bool, true, false, not, ◌&&◌, ◌||◌, Option, Some, None, List, [], ◌∷◌, ◌++◌, refl, ap, sym, subst, ◌∙◌, append-nil, eqb-true, eq-eqb}
use Rattle.std.specs.Prelude.{◌==◌, is_some, option_map, option_to_list}
use Rattle.mc_base.specs.declared.ids.EdgeId.{EdgeId}
use Rattle.mc_base.specs.declared.ids.NodeId.{NodeId}
use Rattle.mc_base.specs.declared.ids.StructId.{StructId}
use Rattle.mc_state.specs.Graph.Graph.{Edges, edge_with}
use Rattle.mc_state.specs.declared.terms.Term.{Term}
use Rattle.mc_state.specs.Lists.{on_some}
use Rattle.mc_state.specs.Named.{others, are_there, is_among, are_distinct}
use Rattle.mc_state.proofs.Tests.{and_both, and_yes, not_no}
use Rattle.mc_shape_search.specs.Search.Search.{uses, is_free, is_unused, first_try}
use Rattle.mc_shape_search.specs.Search.Met.{Leads}
use Rattle.mc_shape_search.proofs.SearchLemmas.Firsts.{first_leads}
use Rattle.mc_cover.specs.Goals.{Goal, Mark, AtEnd, ByInd, BySeg, ByRule, ByCall, Setting, is_ind, whole_block, contents_by}
use Rattle.mc_cover.specs.Marks.{has_call, rule_at, fits, calls_of, edge_of, takes, space}
use Rattle.mc_cover.specs.First.{taken, Choice, choice_of, limit, first_for}
use Rattle.mc_cover.specs.Laws.{FirstTakesEdges}
use Rattle.mc_cover.proofs.Left.{uses_among, taken_more}
use Rattle.mc_cover.proofs.Options.{there, then_some, same_some}
use Rattle.mc_cover.proofs.Parts.{ind_parts, seg_parts, rule_parts, named_there}

or_last : (b : Bool) → (b || false) ≡ b
or_last true = refl
or_last false = refl

and_last : (b : Bool) → b ≡ true → (b && true) ≡ true
and_last b e = ap (λ b. b && true) e

-- one id more
among_more : (x : EdgeId) (ids : List EdgeId) (id : EdgeId) → is_among x ids ≡ false → (id.0 == x.0) ≡ false → is_among x (ids ++ id ∷ []) ≡ false
among_more x [] id e f = or_last (id.0 == x.0) ∙ f
among_more x (y ∷ ids) id e f = at (λ e. among_more x ids id e f) (y.0 == x.0) refl e
  where
    at : (is_among x ids ≡ false → is_among x (ids ++ id ∷ []) ≡ false) → (b : Bool) → (y.0 == x.0) ≡ b → (b || is_among x ids) ≡ false → ((y.0 == x.0) || is_among x (ids ++ id ∷ [])) ≡ false
    at rest true is e = absurd (cc e)
    at rest false is e = ap (λ b. b || is_among x (ids ++ id ∷ [])) is ∙ rest e

turned : (a b : ℕ) → (a == b) ≡ false → (b == a) ≡ false
turned a b e = at (b == a) refl
  where
    at : (c : Bool) → (b == a) ≡ c → c ≡ false
    at true is = let same : (a == b) ≡ true = eq-eqb a b (sym (eqb-true b a is)) in absurd (cc (same, e))
    at false is = refl

distinct_more : (ids : List EdgeId) (id : EdgeId) → are_distinct ids ≡ true → is_among id ids ≡ false → are_distinct (ids ++ id ∷ []) ≡ true
distinct_more [] id d e = refl
distinct_more (x ∷ ids) id d e =
    let both = and_both (not (is_among x ids)) (are_distinct ids) d in
    let parts = or_parts (x.0 == id.0) (is_among id ids) e in
    and_yes (not (is_among x (ids ++ id ∷ []))) (are_distinct (ids ++ id ∷ [])) (ap not (among_more x ids id (not_no (is_among x ids) both.0) (turned x.0 id.0 parts.0))) (distinct_more ids id both.1 parts.1)
  where
    or_parts : (a b : Bool) → (a || b) ≡ false → (a ≡ false) × (b ≡ false)
    or_parts true b e = absurd (cc e)
    or_parts false b e = (refl, e)

there_more : (es : Edges) (ids : List EdgeId) (id : EdgeId) → are_there es ids ≡ true → is_some (edge_with es id) ≡ true → are_there es (ids ++ id ∷ []) ≡ true
there_more es [] id h e = and_last (is_some (edge_with es id)) e
there_more es (x ∷ ids) id h e =
    let both = and_both (is_some (edge_with es x)) (are_there es ids) h in
    and_yes (is_some (edge_with es x)) (are_there es (ids ++ id ∷ [])) both.0 (there_more es ids id both.1 e)

module _ (w : Setting) where
  -- a mark's edge is there
  block_there : (at : Term) (o : Option StructId) (block : Option EdgeId) (contents : List NodeId) (id : EdgeId) → contents_by w.know w.edges at o block ≡ Some contents → block ≡ Some id → is_some (edge_with w.edges id) ≡ true
  block_there at None None contents id c b = absurd (cc b)
  block_there at None (Some own) contents id c b = absurd (cc c)
  block_there at (Some shape) None contents id c b = absurd (cc b)
  block_there at (Some shape) (Some own) contents id c b =
      let e = then_some (whole_block w.know at shape) (edge_with w.edges own) contents c in
      ap (λ i. is_some (edge_with w.edges i)) (sym (same_some own id b)) ∙ ap is_some e.1

  edge_there : (g : Goal) (m : Mark) (id : EdgeId) → fits w g m ≡ true → edge_of m ≡ Some id → is_some (edge_with w.edges id) ≡ true
  edge_there g AtEnd id f e = absurd (cc e)
  edge_there g (ByInd own) id f e =
      let both = and_both (not (is_some g.stop)) (is_ind w.know g (edge_with w.edges own)) f in
      ap (λ i. is_some (edge_with w.edges i)) (sym (same_some own id e)) ∙ ap is_some (ind_parts w.know g (edge_with w.edges own) both.1).edge
  edge_there g (BySeg own) id f e = ap (λ i. is_some (edge_with w.edges i)) (sym (same_some own id e)) ∙ ap is_some (seg_parts w.know g (edge_with w.edges own) f).edge
  edge_there g (ByRule place block) id f e =
      let both = and_both (not (is_some g.stop)) (is_some (rule_at w g place block)) f in
      let by = there (rule_at w g place block) both.1 in
      let p = rule_parts w g place block by.0 by.1 in
      block_there g.at by.0.rule.block block p.contents id p.taken e
  edge_there g (ByCall place block call) id f e =
      let both = and_both (is_some g.stop) (on_some (has_call g.pred call) (rule_at w g place block)) f in
      let by = named_there (has_call g.pred call) (rule_at w g place block) both.1 in
      let p = rule_parts w g place block by.0 by.1 in
      block_there g.at by.0.rule.block block p.contents id p.taken e

  -- the edges of the log are there, each once
  abbrev AreTaken : List EdgeId → Type 0
  AreTaken ids = (are_distinct ids ≡ true) × (are_there w.edges ids ≡ true)

  one_more : (g : Goal) (log : List Mark) (m : Mark) (o : Option EdgeId) → edge_of m ≡ o → fits w g m ≡ true → is_unused takes log (option_map (λ (i : EdgeId). i.0) o) ≡ true → AreTaken (taken log) → AreTaken (taken log ++ option_to_list o)
  one_more g log m None e f u t = subst AreTaken (sym (append-nil (taken log))) t
  one_more g log m (Some id) e f u t =
      let new : is_among id (taken log) ≡ false = sym (uses_among log id) ∙ not_no (uses takes log id.0) u in
      (distinct_more (taken log) id t.0 new, there_more w.edges (taken log) id t.1 (edge_there g m id f e))

  all_taken : (n : ℕ) (gs : List Goal) (log after : List Mark) → Leads (space w) n gs log after → AreTaken (taken log) → AreTaken (taken after)
  all_taken zero [] log after h t = subst (λ l. AreTaken (taken l)) (sym h.0) t
  all_taken (suc n) [] log after h t = subst (λ l. AreTaken (taken l)) (sym h.0) t
  all_taken zero (g ∷ gs) log after h t = elim h [ ]
  all_taken (suc n) (g ∷ gs) log after (m, i, a, r) t =
      let both = and_both (fits w g m) (is_free takes log m) a in
      all_taken n (calls_of w g m ++ gs) (log ++ m ∷ []) after r (subst AreTaken (sym (taken_more log m)) (one_more g log m (edge_of m) refl both.0 both.1 t))

  pub first_takes : (g : Goal) (found : Choice) → first_for w g ≡ Some found → (are_distinct found.used ≡ true) × (are_there w.edges found.used ≡ true) × (found.left ≡ others w.edges found.used)
  first_takes g found e = from (first_try (space w) (limit w) g) refl e
    where
      from : (o : Option (List Mark)) → first_try (space w) (limit w) g ≡ o → option_map (choice_of w.edges) o ≡ Some found → (are_distinct found.used ≡ true) × (are_there w.edges found.used ≡ true) × (found.left ≡ others w.edges found.used)
      from None is e = absurd (cc e)
      from (Some log) is e =
          let t = all_taken (limit w) (g ∷ []) [] log (first_leads (space w) (limit w) g log is) (refl, refl) in
          subst (λ (c : Choice). (are_distinct c.used ≡ true) × (are_there w.edges c.used ≡ true) × (c.left ≡ others w.edges c.used)) (same_some (choice_of w.edges log) found e) (t.0, t.1, refl)

pub first_takes_edges : FirstTakesEdges
first_takes_edges = first_takes
