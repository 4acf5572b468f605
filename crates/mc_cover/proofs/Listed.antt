-- A mark that fits is one of its goal's, and leaves few goals.
use Rattle.std.proofs.Common.{◌≡◌, ◌≤◌, ◌<◌, ◌+◌, ℕ, zero, suc, inl, inr, Bool, true, false, not, Option, Some, None, List, [], ◌∷◌, ◌++◌, length, map, slice_get, refl, ap, sym, subst, ◌∙◌, arith, eqb-true}
use Rattle.std.specs.Prelude.{◌==◌, is_some, option_map, if◌then◌else◌}
use Rattle.std.specs.List.{flat_map}
use Rattle.std.proofs.lemmas.List.{length-map}
use Rattle.mc_base.specs.declared.ids.EdgeId.{EdgeId}
use Rattle.mc_base.specs.declared.ids.NodeId.{NodeId}
use Rattle.mc_base.specs.declared.ids.StructId.{StructId}
use Rattle.mc_flow.specs.declared.defs.rules.Call.{Call}
use Rattle.mc_flow.specs.declared.defs.rules.Def.{Def}
use Rattle.mc_flow.specs.declared.defs.rules.Rule.{Rule}
use Rattle.mc_flow.specs.Defs.Conditions.{IsDefs, numbers_from}
use Rattle.mc_state.specs.declared.graph.edge.Edge.{Edge}
use Rattle.mc_state.specs.Graph.Graph.{Edges, edge_with}
use Rattle.mc_state.specs.declared.terms.Term.{Term}
use Rattle.mc_state.specs.Lists.{on_some}
use Rattle.mc_state.proofs.Tests.{and_both}
use Rattle.mc_shape_search.specs.Search.Met.{IsIn, LeavesFew, AllLeaveFew}
use Rattle.mc_shape_search.proofs.SearchLemmas.Members.{in_left, in_right, in_map, in_flat_map}
use Rattle.mc_cover.specs.Goals.{Stop, Goal, Mark, AtEnd, ByInd, BySeg, ByRule, ByCall, Setting, is_ind, behind_seg, whole_block, contents_by}
use Rattle.mc_cover.specs.Marks.{Named, def_at, rule_at, has_call, goal_of, goals_to, calls_of_rule, calls_of_rule_to, ids_of, blocks_for, marks_with, marks_of_rules, rules_of, marks, space}
use Rattle.mc_cover.specs.First.{calls_in, all_calls}
use Rattle.mc_cover.proofs.Options.{there, then_some, same_some}
use Rattle.mc_cover.proofs.Parts.{ind_parts, seg_parts, rule_parts, named_there}
use Rattle.mc_cover.proofs.Sound.{rule_fits}

-- an edge that is there has one of the ids
pub id_in : (es : Edges) (id : EdgeId) (e : Edge) → edge_with es id ≡ Some e → IsIn id (ids_of es)
id_in [] id e h = absurd (cc h)
id_in (x ∷ es) id e h = at (λ h. id_in es id e h) (x.0.0 == id.0) refl h
  where
    at : (edge_with es id ≡ Some e → IsIn id (ids_of es)) → (here : Bool) → (x.0.0 == id.0) ≡ here → (if here then Some x.1 else edge_with es id) ≡ Some e → IsIn id (ids_of (x ∷ es))
    at rest true is h = inl (ap (λ n. record { 0 = n }) (sym (eqb-true x.0.0 id.0 is)))
    at rest false is h = inr (rest h)

pub number_in : (es : Edges) (id : EdgeId) (e : Edge) → edge_with es id ≡ Some e → IsIn id.0 (map (λ (i : EdgeId). i.0) (ids_of es))
number_in es id e h = in_map (λ (i : EdgeId). i.0) id (ids_of es) (id_in es id e h)

in_numbers : (first count i j : ℕ) → j ≡ first + i → i < count → IsIn j (numbers_from first count)
in_numbers first zero i j e l = absurd (omega arith)
in_numbers first (suc count) zero j e l = inl (omega arith)
in_numbers first (suc count) (suc i) j e l = inr (in_numbers (suc first) count i j (omega arith) (omega arith))

-- the marks of a rule
pub whole_in : (place : ℕ) (rule : Rule) (block : Option EdgeId) → IsIn (ByRule place block) (marks_with place rule block)
whole_in place rule block = inl refl

pub call_in : (place : ℕ) (rule : Rule) (block : Option EdgeId) (call : ℕ) → call < length rule.calls → IsIn (ByCall place block call) (marks_with place rule block)
call_in place rule block call l = inr (in_map (ByCall place block) call (numbers_from 0 (length rule.calls)) (in_numbers 0 (length rule.calls) call call (omega arith) l))

in_rules : (ids : List EdgeId) (rules : List Rule) (start i j : ℕ) (rule : Rule) (m : Mark) → j ≡ start + i → slice_get rules i ≡ Some rule → IsIn m (flat_map (marks_with j rule) (blocks_for ids rule.block)) → IsIn m (marks_of_rules ids start rules)
in_rules ids [] start i j rule m e at h = absurd (cc at)
in_rules ids (x ∷ rules) start zero j rule m e at h =
    let same : x ≡ rule = same_some x rule at in
    let place : j ≡ start = omega arith in
    let here : IsIn m (flat_map (marks_with start rule) (blocks_for ids rule.block)) = subst (λ p. IsIn m (flat_map (marks_with p rule) (blocks_for ids rule.block))) place h in
    let own : IsIn m (flat_map (marks_with start x) (blocks_for ids x.block)) = subst (λ (r : Rule). IsIn m (flat_map (marks_with start r) (blocks_for ids r.block))) (sym same) here in
    in_left m (flat_map (marks_with start x) (blocks_for ids x.block)) (marks_of_rules ids (suc start) rules) own
in_rules ids (x ∷ rules) start (suc i) j rule m e at h =
    in_right m (flat_map (marks_with start x) (blocks_for ids x.block)) (marks_of_rules ids (suc start) rules) (in_rules ids rules (suc start) i j rule m (omega arith) at h)

block_in : (w : Setting) (at : Term) (o : Option StructId) (block : Option EdgeId) (contents : List NodeId) → contents_by w.know w.edges at o block ≡ Some contents → IsIn block (blocks_for (ids_of w.edges) o)
block_in w at None None contents c = inl refl
block_in w at None (Some id) contents c = absurd (cc c)
block_in w at (Some shape) None contents c = absurd (cc c)
block_in w at (Some shape) (Some id) contents c =
    let e = then_some (whole_block w.know at shape) (edge_with w.edges id) contents c in
    in_map Some id (ids_of w.edges) (id_in w.edges id e.0 e.1)

module _ (w : Setting) (g : Goal) where
  pub ind_listed : (id : EdgeId) (e : Edge) → edge_with w.edges id ≡ Some e → IsIn (ByInd id) (marks w g)
  ind_listed id e h =
      inr (in_left (ByInd id) (map ByInd (ids_of w.edges)) (map BySeg (ids_of w.edges) ++ marks_of_rules (ids_of w.edges) 0 (rules_of (def_at w g))) (in_map ByInd id (ids_of w.edges) (id_in w.edges id e h)))

  pub seg_listed : (id : EdgeId) (e : Edge) → edge_with w.edges id ≡ Some e → IsIn (BySeg id) (marks w g)
  seg_listed id e h =
      inr (in_right (BySeg id) (map ByInd (ids_of w.edges)) (map BySeg (ids_of w.edges) ++ marks_of_rules (ids_of w.edges) 0 (rules_of (def_at w g)))
      (in_left (BySeg id) (map BySeg (ids_of w.edges)) (marks_of_rules (ids_of w.edges) 0 (rules_of (def_at w g))) (in_map BySeg id (ids_of w.edges) (id_in w.edges id e h))))

  pub rule_listed : (def : Def) (place : ℕ) (rule : Rule) (block : Option EdgeId) (contents : List NodeId) (m : Mark) → slice_get w.defs g.pred.0 ≡ Some def → slice_get def.rules place ≡ Some rule
      → contents_by w.know w.edges g.at rule.block block ≡ Some contents → IsIn m (marks_with place rule block) → IsIn m (marks w g)
  rule_listed def place rule block contents m d l c i =
      let of_block = in_flat_map (marks_with place rule) block (blocks_for (ids_of w.edges) rule.block) m (block_in w g.at rule.block block contents c) i in
      let own : slice_get (rules_of (def_at w g)) place ≡ Some rule = ap (λ o. slice_get (rules_of o) place) d ∙ l in
      let of_rules = in_rules (ids_of w.edges) (rules_of (def_at w g)) 0 place place rule m (omega arith) own of_block in
      inr (in_right m (map ByInd (ids_of w.edges)) (map BySeg (ids_of w.edges) ++ marks_of_rules (ids_of w.edges) 0 (rules_of (def_at w g)))
      (in_right m (map BySeg (ids_of w.edges)) (marks_of_rules (ids_of w.edges) 0 (rules_of (def_at w g))) of_rules))

-- no rule has more calls than all together
rule_calls : (rules : List Rule) (place : ℕ) (rule : Rule) → slice_get rules place ≡ Some rule → length rule.calls ≤ calls_in rules
rule_calls [] place rule e = absurd (cc e)
rule_calls (x ∷ rules) zero rule e = let same : length x.calls ≡ length rule.calls = ap (λ (r : Rule). length r.calls) (same_some x rule e) in omega arith
rule_calls (x ∷ rules) (suc place) rule e = let r = rule_calls rules place rule e in omega arith

few_calls : (defs : List Def) (p : ℕ) (def : Def) (place : ℕ) (rule : Rule) → slice_get defs p ≡ Some def → slice_get def.rules place ≡ Some rule → length rule.calls ≤ all_calls defs
few_calls [] p def place rule d l = absurd (cc d)
few_calls (x ∷ defs) zero def place rule d l =
    let own : slice_get x.rules place ≡ Some rule = ap (λ (d : Def). slice_get d.rules place) (same_some x def d) ∙ l in
    let r = rule_calls x.rules place rule own in
    omega arith
few_calls (x ∷ defs) (suc p) def place rule d l = let r = few_calls defs p def place rule d l in omega arith

goals_count : (names : List Term) (stop : Option Stop) (call : ℕ) (calls : List Call) → length (goals_to names stop call calls) ≡ length calls
goals_count names stop call [] = refl
goals_count names stop zero (c ∷ calls) = ap suc (length-map calls (goal_of names None))
goals_count names stop (suc call) (c ∷ calls) = ap suc (goals_count names stop call calls)

no_goals : (names : List Term) (stop : Option Stop) (call : ℕ) (calls : List Call) → calls ≡ [] → goals_to names stop call calls ≡ []
no_goals names stop call calls e = ap (goals_to names stop call) e

module _ (w : Setting) (fit : IsDefs w.defs) where
  -- the numbers of the edges
  abbrev pub numbers : List ℕ
  numbers = map (λ (i : EdgeId). i.0) (ids_of w.edges)

  -- a rule's mark leaves few goals
  rule_few : (g : Goal) (place : ℕ) (block : Option EdgeId) (by : Named) (calls : List Goal) → rule_at w g place block ≡ Some by → (by.rule.calls ≡ [] → calls ≡ []) → length calls ≡ length by.rule.calls
      → LeavesFew (suc (all_calls w.defs)) numbers (option_map (λ (i : EdgeId). i.0) block) calls
  rule_few g place block by calls is none count =
      let p = rule_parts w g place block by is in
      at block p.contents p.taken (few_calls w.defs g.pred.0 p.def place by.rule p.defined p.listed) (rule_fits w.defs fit g.pred.0 p.def p.defined place by.rule p.listed).guarded
    where
      at_block : (o : Option StructId) (block : Option EdgeId) (contents : List NodeId) → contents_by w.know w.edges g.at o block ≡ Some contents → length by.rule.calls ≤ all_calls w.defs → (o ≡ None → by.rule.calls ≡ [])
          → LeavesFew (suc (all_calls w.defs)) numbers (option_map (λ (i : EdgeId). i.0) block) calls
      at_block None None contents c few guarded = none (guarded refl)
      at_block None (Some id) contents c few guarded = absurd (cc c)
      at_block (Some shape) None contents c few guarded = absurd (cc c)
      at_block (Some shape) (Some id) contents c few guarded =
          let e = then_some (whole_block w.know g.at shape) (edge_with w.edges id) contents c in
          (number_in w.edges id e.0 e.1, omega arith)

      at : (block : Option EdgeId) (contents : List NodeId) → contents_by w.know w.edges g.at by.rule.block block ≡ Some contents → length by.rule.calls ≤ all_calls w.defs → (by.rule.block ≡ None → by.rule.calls ≡ [])
          → LeavesFew (suc (all_calls w.defs)) numbers (option_map (λ (i : EdgeId). i.0) block) calls
      at block contents c few guarded = at_block by.rule.block block contents c few guarded

  -- each mark that fits leaves few goals
  pub all_few : AllLeaveFew (space w) (suc (all_calls w.defs)) numbers
  all_few g AtEnd f = refl
  all_few g (ByInd id) f =
      let both = and_both (not (is_some g.stop)) (is_ind w.know g (edge_with w.edges id)) f in
      let p = ind_parts w.know g (edge_with w.edges id) both.1 in
      (number_in w.edges id _ p.edge, omega arith)
  all_few g (BySeg id) f =
      let p = seg_parts w.know g (edge_with w.edges id) f in
      let one : length (behind_seg g (edge_with w.edges id)) ≡ 1 = ap (λ o. length (behind_seg g o)) p.edge in
      (number_in w.edges id _ p.edge, omega arith)
  all_few g (ByRule place block) f =
      let both = and_both (not (is_some g.stop)) (is_some (rule_at w g place block)) f in
      let by = there (rule_at w g place block) both.1 in
      subst (λ o. LeavesFew (suc (all_calls w.defs)) numbers (option_map (λ (i : EdgeId). i.0) block) (calls_of_rule o)) (sym by.1)
      (rule_few g place block by.0 (map (goal_of by.0.names None) by.0.rule.calls) by.1 (λ e. ap (map (goal_of by.0.names None)) e) (length-map by.0.rule.calls (goal_of by.0.names None)))
  all_few g (ByCall place block call) f =
      let both = and_both (is_some g.stop) (on_some (has_call g.pred call) (rule_at w g place block)) f in
      let by = named_there (has_call g.pred call) (rule_at w g place block) both.1 in
      subst (λ o. LeavesFew (suc (all_calls w.defs)) numbers (option_map (λ (i : EdgeId). i.0) block) (calls_of_rule_to g.stop call o)) (sym by.1)
      (rule_few g place block by.0 (goals_to by.0.names g.stop call by.0.rule.calls) by.1 (no_goals by.0.names g.stop call by.0.rule.calls) (goals_count by.0.names g.stop call by.0.rule.calls))
