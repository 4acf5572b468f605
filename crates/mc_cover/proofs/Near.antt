-- Edges that start elsewhere than the goal meet nothing.
use Rattle.std.proofs.Common.{◌≡◌, ◌≤◌, ◌<◌, ℕ, suc, inl, inr, Bool, true, false, not, Option, Some, None, List, [], ◌∷◌, ◌++◌, length, map, refl, ap, sym, subst, ◌∙◌, arith, eqb-true, eq-eqb}
use Rattle.std.specs.Prelude.{◌==◌, ◌+◌, ◌*◌, is_some, if◌then◌else◌}
use Rattle.std.specs.List.{filter, flat_map}
use Rattle.std.proofs.lemmas.List.{length-map}
use Rattle.mc_base.specs.declared.ids.EdgeId.{EdgeId}
use Rattle.mc_base.specs.declared.ids.NodeId.{NodeId}
use Rattle.mc_base.specs.declared.ids.StructId.{StructId}
use Rattle.mc_flow.specs.declared.defs.rules.Rule.{Rule}
use Rattle.mc_flow.specs.Defs.Conditions.{numbers_from}
use Rattle.mc_state.specs.declared.graph.edge.Edge.{Edge}
use Rattle.mc_state.specs.declared.graph.edge.Edge.TheVariants.{Ind, Seg}
use Rattle.mc_state.specs.Graph.Edges.{start_of}
use Rattle.mc_state.specs.Graph.Graph.{Edges, edge_with, IdsAscend}
use Rattle.mc_state.specs.Terms.{plain}
use Rattle.mc_state.specs.Lists.{on_some}
use Rattle.mc_state.proofs.Tests.{and_both}
use Rattle.mc_shape_search.specs.Search.Search.{applies, is_free, options, first_try}
use Rattle.mc_shape_search.specs.Search.Met.{IsIn}
use Rattle.mc_shape_search.proofs.SearchLemmas.Members.{filter_yes, filter_no}
use Rattle.mc_cover.specs.First.{all_calls, limit}
use Rattle.mc_cover.specs.Goals.{Goal, Mark, AtEnd, ByInd, BySeg, ByRule, ByCall, Setting, is_ind, whole_block, contents_by}
use Rattle.mc_cover.specs.Marks.{def_at, rule_at, has_call, ids_of, blocks_for, marks_with, marks_of_rules, rules_of, fits, takes, space}
use Rattle.mc_cover.specs.Laws.{NearIsFirst}
use Rattle.mc_cover.specs.Near.{starts_at, near, near_space}
use Rattle.mc_cover.specs.Terms.{equal_terms}
use Rattle.mc_cover.proofs.Enough.{any_limit, same_first}
use Rattle.mc_cover.proofs.Listed.{all_few, numbers}
use Rattle.mc_cover.proofs.Options.{there, then_some}
use Rattle.mc_cover.proofs.Parts.{ind_parts, seg_parts, block_parts, rule_parts, named_there}
use Rattle.mc_cover.proofs.SearchLemmas.Left.{filter_append, no_yes, yes_or_no}

-- ---- filters
none_pass : {X : Type 0} (p : X → Bool) (xs : List X) → ((x : X) → p x ≡ false) → filter p xs ≡ []
none_pass p [] no' = refl
none_pass p (x ∷ xs) no' = filter_no p x xs (no' x) ∙ none_pass p xs no'

-- the marks that are made of edges, without edges of which no mark passes
module _ (p : Mark → Bool) (make : EdgeId → List Mark) (test : EdgeId × Edge → Bool) where
  abbrev made : Edges → List Mark
  made es = flat_map make (ids_of es)

  without_far : (es : Edges) → ((e : EdgeId × Edge) → IsIn e es → test e ≡ false → filter p (make e.0) ≡ []) → filter p (made (filter test es)) ≡ filter p (made es)
  without_far [] far = refl
  without_far (e ∷ es) far =
      elim (yes_or_no (test e)) [
        | inl t ↦ ap (λ l. filter p (made l)) (filter_yes test e es t) ∙ (filter_append p (make e.0) (made (filter test es)) ∙ (ap (λ l. filter p (make e.0) ++ l) (without_far es (λ x i. far x (inr i))) ∙ sym (filter_append p (make e.0) (made es))))
        | inr t ↦ ap (λ l. filter p (made l)) (filter_no test e es t) ∙ (without_far es (λ x i. far x (inr i)) ∙ (ap (λ l. l ++ filter p (made es)) (sym (far e (inl refl) t)) ∙ sym (filter_append p (make e.0) (made es))))
      ]

map_made : {X Y : Type 0} (f : X → Y) (xs : List X) → map f xs ≡ flat_map (λ x. f x ∷ []) xs
map_made f [] = refl
map_made f (x ∷ xs) = ap (λ l. f x ∷ l) (map_made f xs)

some_made : {X Y : Type 0} (f : Option X → List Y) (xs : List X) → flat_map f (map Some xs) ≡ flat_map (λ x. f (Some x)) xs
some_made f [] = refl
some_made f (x ∷ xs) = ap (λ l. f (Some x) ++ l) (some_made f xs)

one_out : {X : Type 0} (p : X → Bool) (x : X) → p x ≡ false → filter p (x ∷ []) ≡ []
one_out p x t = filter_no p x [] t

-- an edge of the list is the one with its id
in_there : (low : ℕ) (es : Edges) (high : ℕ) → IdsAscend low es high → (e : EdgeId × Edge) → IsIn e es → (edge_with es e.0 ≡ Some e.1) × (low ≤ e.0.0)
in_there low [] high a e i = elim i [ ]
in_there low (x ∷ es) high a e (inl same) =
    let here : (if e.0.0 == e.0.0 then Some e.1 else edge_with es e.0) ≡ Some e.1 = ap (λ b. if b then Some e.1 else edge_with es e.0) (eq-eqb e.0.0 e.0.0 refl) in
    let from : low < suc e.0.0 = subst (λ (y : EdgeId × Edge). low < suc y.0.0) (sym same) a.0 in
    (subst (λ (y : EdgeId × Edge). (if y.0.0 == e.0.0 then Some y.1 else edge_with es e.0) ≡ Some e.1) same here, omega arith)
in_there low (x ∷ es) high a e (inr i) =
    let r = in_there (suc x.0.0) es high a.2 e i in
    let above = r.1 in
    let from = a.0 in
    let apart : (x.0.0 == e.0.0) ≡ false = no_yes (x.0.0 == e.0.0) (λ t. let same = eqb-true x.0.0 e.0.0 t in omega arith) in
    (ap (λ b. if b then Some x.1 else edge_with es e.0) apart ∙ r.0, omega arith)

module _ (w : Setting) (high : ℕ) (ascend : IdsAscend 0 w.edges high) (g : Goal) where
  -- the edge with this id starts where the goal stands
  abbrev StartsThere : EdgeId → Type 0
  StartsThere id = (e : Edge) × (edge_with w.edges id ≡ Some e) × (equal_terms w.know g.at (plain (start_of e)) ≡ true)

  near_ind : (id : EdgeId) → fits w g (ByInd id) ≡ true → StartsThere id
  near_ind id f =
      let both = and_both (not (is_some g.stop)) (is_ind w.know g (edge_with w.edges id)) f in
      let p = ind_parts w.know g (edge_with w.edges id) both.1 in
      (Ind p.b g.pred p.args, p.edge, p.same_at)

  near_seg : (id : EdgeId) → fits w g (BySeg id) ≡ true → StartsThere id
  near_seg id f = let p = seg_parts w.know g (edge_with w.edges id) f in (Seg p.b p.args g.pred p.last p.lasts, p.edge, p.same_at)

  near_block : (o : Option StructId) (id : EdgeId) (contents : List NodeId) → contents_by w.know w.edges g.at o (Some id) ≡ Some contents → StartsThere id
  near_block None id contents c = absurd (cc c)
  near_block (Some shape) id contents c =
      let e = then_some (whole_block w.know g.at shape) (edge_with w.edges id) contents c in
      let p = block_parts w.know g.at shape e.0 contents e.2 in
      (e.0, e.1, subst (λ x. equal_terms w.know g.at (plain (start_of x)) ≡ true) (sym p.block) p.same_at)

  near_rule : (place : ℕ) (id : EdgeId) → fits w g (ByRule place (Some id)) ≡ true → StartsThere id
  near_rule place id f =
      let both = and_both (not (is_some g.stop)) (is_some (rule_at w g place (Some id))) f in
      let by = there (rule_at w g place (Some id)) both.1 in
      let p = rule_parts w g place (Some id) by.0 by.1 in
      near_block by.0.rule.block id p.contents p.taken

  near_call : (place call : ℕ) (id : EdgeId) → fits w g (ByCall place (Some id) call) ≡ true → StartsThere id
  near_call place call id f =
      let both = and_both (is_some g.stop) (on_some (has_call g.pred call) (rule_at w g place (Some id))) f in
      let by = named_there (has_call g.pred call) (rule_at w g place (Some id)) both.1 in
      let p = rule_parts w g place (Some id) by.0 by.1 in
      near_block by.0.rule.block id p.contents p.taken

  -- an edge that starts elsewhere has no mark that applies
  far_out : (log : List Mark) (m : Mark) (e : EdgeId × Edge) → IsIn e w.edges → starts_at w.know g.at e ≡ false → (fits w g m ≡ true → StartsThere e.0) → applies (space w) g log m ≡ false
  far_out log m e i far f =
      no_yes (applies (space w) g log m) (λ t.
      let r = f (and_both (fits w g m) (is_free takes log m) t).0 in
      let is : Some r.0 ≡ Some e.1 = sym r.1 ∙ (in_there 0 w.edges high ascend e i).0 in
      let same : r.0 ≡ e.1 = cc in
      let here : starts_at w.know g.at e ≡ true = subst (λ x. equal_terms w.know g.at (plain (start_of x)) ≡ true) same r.2 in
      let w' : true ≡ false = sym here ∙ far in cc w')

  module _ (log : List Mark) where
    abbrev passes : Mark → Bool
    passes = applies (space w) g log

    abbrev nearby : Edges
    nearby = near w.know g.at w.edges

    inds : filter passes (map ByInd (ids_of nearby)) ≡ filter passes (map ByInd (ids_of w.edges))
    inds =
        ap (filter passes) (map_made ByInd (ids_of nearby))
        ∙ (without_far passes (λ id. ByInd id ∷ []) (starts_at w.know g.at) w.edges (λ e i t. one_out passes (ByInd e.0) (far_out log (ByInd e.0) e i t (near_ind e.0)))
        ∙ ap (filter passes) (sym (map_made ByInd (ids_of w.edges))))

    segs : filter passes (map BySeg (ids_of nearby)) ≡ filter passes (map BySeg (ids_of w.edges))
    segs =
        ap (filter passes) (map_made BySeg (ids_of nearby))
        ∙ (without_far passes (λ id. BySeg id ∷ []) (starts_at w.know g.at) w.edges (λ e i t. one_out passes (BySeg e.0) (far_out log (BySeg e.0) e i t (near_seg e.0)))
        ∙ ap (filter passes) (sym (map_made BySeg (ids_of w.edges))))

    calls_out : (place : ℕ) (e : EdgeId × Edge) → IsIn e w.edges → starts_at w.know g.at e ≡ false → (calls : List ℕ) → filter passes (map (ByCall place (Some e.0)) calls) ≡ []
    calls_out place e i t [] = refl
    calls_out place e i t (call ∷ calls) =
        filter_no passes (ByCall place (Some e.0) call) (map (ByCall place (Some e.0)) calls) (far_out log (ByCall place (Some e.0) call) e i t (near_call place call e.0)) ∙ calls_out place e i t calls

    rule_out : (place : ℕ) (rule : Rule) (e : EdgeId × Edge) → IsIn e w.edges → starts_at w.know g.at e ≡ false → filter passes (marks_with place rule (Some e.0)) ≡ []
    rule_out place rule e i t =
        filter_no passes (ByRule place (Some e.0)) (map (ByCall place (Some e.0)) (numbers_from 0 (length rule.calls))) (far_out log (ByRule place (Some e.0)) e i t (near_rule place e.0))
        ∙ calls_out place e i t (numbers_from 0 (length rule.calls))

    blocks : (place : ℕ) (rule : Rule) (o : Option StructId) → filter passes (flat_map (marks_with place rule) (blocks_for (ids_of nearby) o)) ≡ filter passes (flat_map (marks_with place rule) (blocks_for (ids_of w.edges) o))
    blocks place rule None = refl
    blocks place rule (Some shape) =
        ap (filter passes) (some_made (marks_with place rule) (ids_of nearby))
        ∙ (without_far passes (λ id. marks_with place rule (Some id)) (starts_at w.know g.at) w.edges (λ e i t. rule_out place rule e i t)
        ∙ ap (filter passes) (sym (some_made (marks_with place rule) (ids_of w.edges))))

    both : (as' bs cs ds : List Mark) → filter passes as' ≡ filter passes bs → filter passes cs ≡ filter passes ds → filter passes (as' ++ cs) ≡ filter passes (bs ++ ds)
    both as' bs cs ds p q = filter_append passes as' cs ∙ (ap (λ l. l ++ filter passes cs) p ∙ (ap (λ l. filter passes bs ++ l) q ∙ sym (filter_append passes bs ds)))

    by_rules : (rules : List Rule) (place : ℕ) → filter passes (marks_of_rules (ids_of nearby) place rules) ≡ filter passes (marks_of_rules (ids_of w.edges) place rules)
    by_rules [] place = refl
    by_rules (rule ∷ rules) place =
        both (flat_map (marks_with place rule) (blocks_for (ids_of nearby) rule.block)) (flat_map (marks_with place rule) (blocks_for (ids_of w.edges) rule.block)) (marks_of_rules (ids_of nearby) (suc place) rules) (marks_of_rules (ids_of w.edges) (suc place) rules)
        (blocks place rule rule.block) (by_rules rules (suc place))

    pub near_options : options (near_space w) g log ≡ options (space w) g log
    unfolding options
    near_options =
        let rules = rules_of (def_at w g) in
        both (AtEnd ∷ []) (AtEnd ∷ []) (map ByInd (ids_of nearby) ++ (map BySeg (ids_of nearby) ++ marks_of_rules (ids_of nearby) 0 rules)) (map ByInd (ids_of w.edges) ++ (map BySeg (ids_of w.edges) ++ marks_of_rules (ids_of w.edges) 0 rules)) refl
        (both (map ByInd (ids_of nearby)) (map ByInd (ids_of w.edges)) (map BySeg (ids_of nearby) ++ marks_of_rules (ids_of nearby) 0 rules) (map BySeg (ids_of w.edges) ++ marks_of_rules (ids_of w.edges) 0 rules) inds
        (both (map BySeg (ids_of nearby)) (map BySeg (ids_of w.edges)) (marks_of_rules (ids_of nearby) 0 rules) (marks_of_rules (ids_of w.edges) 0 rules) segs (by_rules rules 0)))

-- what the near edges give first, with any limit that suffices, is what is first
pub near_first : NearIsFirst
near_first w g high n fit ascend room =
    same_first (near_space w) (space w) (λ g m. refl) (λ log. refl) (λ g log. near_options w high ascend g log) n g
    ∙ sym (within n room)
  where
    count : length (numbers w fit) ≡ length w.edges
    count = length-map (ids_of w.edges) (λ (i : EdgeId). i.0) ∙ length-map w.edges (λ e. e.0)

    is_limit : suc (suc (all_calls w.defs) * length (numbers w fit)) ≡ limit w
    is_limit = ap (λ k. suc (suc (all_calls w.defs) * k)) count

    within : (n : ℕ) → limit w ≤ n → first_try (space w) (limit w) g ≡ first_try (space w) n g
    within n l =
        subst (λ k. first_try (space w) k g ≡ first_try (space w) n g) is_limit
        (any_limit (space w) (suc (all_calls w.defs)) (numbers w fit) (all_few w fit) g n (subst (λ k. k ≤ n) (sym is_limit) l))
