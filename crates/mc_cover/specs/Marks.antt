-- The marks of a goal in their order, which of them fit, and what each leaves to be made.
use Rattle.std.specs.Prelude.{◌==◌, ◌&&◌, ◌++◌, not, ℕ, zero, suc, List, [], ◌∷◌, Bool, true, false, Option, Some, None, length, map, is_some, option_map, option_and_then, slice_get, if◌then◌else◌}
use Rattle.std.specs.List.{flat_map}
use Rattle.mc_base.specs.declared.ids.EdgeId.{EdgeId}
use Rattle.mc_base.specs.declared.ids.NodeId.{NodeId}
use Rattle.mc_base.specs.declared.ids.PredId.{PredId}
use Rattle.mc_base.specs.declared.ids.StructId.{StructId}
use Rattle.mc_flow.specs.declared.defs.rules.Call.{Call}
use Rattle.mc_flow.specs.declared.defs.rules.Def.{Def}
use Rattle.mc_flow.specs.declared.defs.rules.Rule.{Rule}
use Rattle.mc_flow.specs.Defs.Conditions.{numbers_from}
use Rattle.mc_state.specs.Graph.Graph.{Edges, edge_with}
use Rattle.mc_state.specs.declared.terms.Term.{Term}
use Rattle.mc_state.specs.Terms.{plain, term_of}
use Rattle.mc_state.specs.Known.{Test}
use Rattle.mc_state.specs.Lists.{on_some}
use Rattle.mc_shape_search.specs.Search.Search.{Space}
use Rattle.mc_cover.specs.Goals.{Stop, Goal, Mark, AtEnd, ByInd, BySeg, ByRule, ByCall, Setting, is_ind, is_seg, behind_seg, contents_by}
use Rattle.mc_cover.specs.Terms.{equal_terms, all_equal_terms, all_lie_in, atoms_known, with_fixed}

-- the segment ends where it begins: the stop is equal, and the arguments lie in the ranges of their kinds
abbrev pub ends_here : Test → Option Def → Goal → Option Stop → Bool
ends_here know None g stop = false
ends_here know (Some def) g None = false
ends_here know (Some def) g (Some stop) =
    equal_terms know g.at stop.0 && (all_equal_terms know g.args stop.1 && all_lie_in know def.params g.args)

-- a rule, and a term for each of its names
pub record Named : Type 0 where
  pub rule : Rule
  pub names : List Term

-- the terms of a rule's names at a goal, with these contents
abbrev pub names_at : Goal → Rule → List NodeId → List Term
names_at g rule contents = with_fixed (g.at ∷ (g.args ++ map plain contents)) rule.atoms

-- the numbers of arguments and contents are right, each name's term lies in its kind's range, and the atoms are known
abbrev pub names_fit : Test → Goal → Def → Rule → List NodeId → List Term → Bool
names_fit know g def rule contents names =
    length g.args == length def.params
    && (length contents == length rule.contents
    && (all_lie_in know rule.names names && atoms_known know names rule.atoms))

-- the rule with terms for its names, where they fit
abbrev pub named_with : Test → Goal → Def → Rule → List NodeId → Option Named
named_with know g def rule contents =
    if names_fit know g def rule contents (names_at g rule contents)
    then Some (record { rule = rule; names = names_at g rule contents })
    else None

-- the same with the nodes of a block, where the rule has one
abbrev pub named_by : Setting → Goal → Option EdgeId → Def → Rule → Option Named
named_by w g block def rule =
    option_and_then (named_with w.know g def rule) (contents_by w.know w.edges g.at rule.block block)

-- the goal's predicate
abbrev pub def_at : Setting → Goal → Option Def
def_at w g = slice_get w.defs g.pred.0

-- the rule of the goal's predicate at a place, with terms for its names
abbrev pub rule_at : Setting → Goal → ℕ → Option EdgeId → Option Named
rule_at w g place block =
    option_and_then (λ def. option_and_then (named_by w g block def) (slice_get def.rules place)) (def_at w g)

-- the rule has a call of the predicate at a place
abbrev pub has_call : PredId → ℕ → Named → Bool
has_call pred call by = on_some (λ (c : Call). c.pred.0 == pred.0) (slice_get by.rule.calls call)

-- whether a mark fits a goal, apart from what was taken before
abbrev pub fits : Setting → Goal → Mark → Bool
fits w g AtEnd = ends_here w.know (def_at w g) g g.stop
fits w g (ByInd id) = not (is_some g.stop) && is_ind w.know g (edge_with w.edges id)
fits w g (BySeg id) = is_seg w.know g (edge_with w.edges id)
fits w g (ByRule place block) = not (is_some g.stop) && is_some (rule_at w g place block)
fits w g (ByCall place block call) = is_some g.stop && on_some (has_call g.pred call) (rule_at w g place block)

-- what a call asks for, with a stop or none
abbrev pub goal_of : List Term → Option Stop → Call → Goal
goal_of names stop call =
    record { pred = call.pred; at = term_of names call.at; args = map (term_of names) call.args; stop = stop }

-- what calls ask for, where the one at a place goes on to the stop
abbrev pub goals_to : List Term → Option Stop → ℕ → List Call → List Goal
goals_to names stop call [] = []
goals_to names stop zero (c ∷ cs) = goal_of names stop c ∷ map (goal_of names None) cs
goals_to names stop (suc call) (c ∷ cs) = goal_of names None c ∷ goals_to names stop call cs

-- the goals of a rule's calls
abbrev pub calls_of_rule : Option Named → List Goal
calls_of_rule None = []
calls_of_rule (Some by) = map (goal_of by.names None) by.rule.calls

-- the same where the call at a place goes on to the stop
abbrev pub calls_of_rule_to : Option Stop → ℕ → Option Named → List Goal
calls_of_rule_to stop call None = []
calls_of_rule_to stop call (Some by) = goals_to by.names stop call by.rule.calls

-- what a mark leaves to be made
abbrev pub calls_of : Setting → Goal → Mark → List Goal
calls_of w g AtEnd = []
calls_of w g (ByInd id) = []
calls_of w g (BySeg id) = behind_seg g (edge_with w.edges id)
calls_of w g (ByRule place block) = calls_of_rule (rule_at w g place block)
calls_of w g (ByCall place block call) = calls_of_rule_to g.stop call (rule_at w g place block)

-- the edge that a mark takes, if it takes one
abbrev pub edge_of : Mark → Option EdgeId
edge_of AtEnd = None
edge_of (ByInd id) = Some id
edge_of (BySeg id) = Some id
edge_of (ByRule place block) = block
edge_of (ByCall place block call) = block

-- and its number
abbrev pub takes : Mark → Option ℕ
takes m = option_map (λ (id : EdgeId). id.0) (edge_of m)

-- the ids of edges
abbrev pub ids_of : Edges → List EdgeId
ids_of es = map (λ e. e.0) es

-- the blocks with which a rule is tried
abbrev pub blocks_for : List EdgeId → Option StructId → List (Option EdgeId)
blocks_for ids None = None ∷ []
blocks_for ids (Some shape) = map Some ids

-- a rule with a block: whole, and then with each choice of the call that goes on to the stop
abbrev pub marks_with : ℕ → Rule → Option EdgeId → List Mark
marks_with place rule block = ByRule place block ∷ map (ByCall place block) (numbers_from 0 (length rule.calls))

-- rules from a place on, in order
abbrev pub marks_of_rules : List EdgeId → ℕ → List Rule → List Mark
marks_of_rules ids place [] = []
marks_of_rules ids place (rule ∷ rules) =
    flat_map (marks_with place rule) (blocks_for ids rule.block) ++ marks_of_rules ids (suc place) rules

-- the rules of a predicate
abbrev pub rules_of : Option Def → List Rule
rules_of None = []
rules_of (Some def) = def.rules

-- the marks of a goal with edges of these ids, in order: the end of a segment, each edge as an Ind, each as a Seg, and the
-- rules of the predicate
abbrev pub marks_on : List EdgeId → Option Def → List Mark
marks_on ids def = AtEnd ∷ (map ByInd ids ++ (map BySeg ids ++ marks_of_rules ids 0 (rules_of def)))

-- all marks of a goal
abbrev pub marks : Setting → Goal → List Mark
marks w g = marks_on (ids_of w.edges) (def_at w g)

-- how goals are met; a search may end with any marks, since edges may be left
abbrev pub space : Setting → Space Goal Mark
space w = record { marks = marks w; fits = fits w; calls = calls_of w; takes = takes; ends = λ log. true }
