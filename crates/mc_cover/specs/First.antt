-- The first cover and the first segment cover.
use Rattle.std.specs.Prelude.{◌+◌, ◌*◌, ℕ, suc, List, [], ◌∷◌, Option, Some, None, length, option_map, option_to_list}
use Rattle.std.specs.List.{flat_map}
use Rattle.mc_base.specs.declared.ids.EdgeId.{EdgeId}
use Rattle.mc_base.specs.declared.ids.PredId.{PredId}
use Rattle.mc_flow.specs.declared.defs.rules.Def.{Def}
use Rattle.mc_flow.specs.declared.defs.rules.Rule.{Rule}
use Rattle.mc_state.specs.Graph.Graph.{Edges}
use Rattle.mc_state.specs.declared.terms.Term.{Term}
use Rattle.mc_state.specs.Known.{Test}
use Rattle.mc_state.specs.Named.{others}
use Rattle.mc_shape_search.specs.Search.Search.{first_try}
use Rattle.mc_cover.specs.Goals.{Goal, Mark, Setting}
use Rattle.mc_cover.specs.Marks.{edge_of, space}

-- how many calls the rules have together
abbrev pub calls_in : List Rule → ℕ
calls_in [] = 0
calls_in (rule ∷ rules) = length rule.calls + calls_in rules

-- and those of the definitions
abbrev pub all_calls : List Def → ℕ
all_calls [] = 0
all_calls (def ∷ defs) = calls_in def.rules + all_calls defs

-- so many marks suffice: one, and for each edge more than any rule has calls
abbrev pub limit : Setting → ℕ
limit w = suc (suc (all_calls w.defs) * length w.edges)

-- the edges that marks take, in the order of the marks
abbrev pub taken : List Mark → List EdgeId
taken log = flat_map (λ m. option_to_list (edge_of m)) log

-- edges that were taken, in the order of use, and those that are left
pub record Choice : Type 0 where
  pub used : List EdgeId
  pub left : Edges

-- what marks take of edges
abbrev pub choice_of : Edges → List Mark → Choice
choice_of es log = record { used = taken log; left = others es (taken log) }

-- the marks of the first way to meet a goal
abbrev pub first_marks : Setting → Goal → Option (List Mark)
first_marks w g = first_try (space w) (limit w) g

-- the first way to meet a goal
abbrev pub first_for : Setting → Goal → Option Choice
first_for w g = option_map (choice_of w.edges) (first_marks w g)

-- the first cover of a predicate at a term with arguments, from these edges
abbrev pub first_cover : Test → List Def → PredId → Term → List Term → Edges → Option Choice
first_cover know defs pred at args es =
    first_for (record { know = know; defs = defs; edges = es })
    (record { pred = pred; at = at; args = args; stop = None })

-- the first segment cover, from a term with arguments to another with others
abbrev pub first_seg_cover : Test → List Def → PredId → Term → List Term → Term → List Term → Edges → Option Choice
first_seg_cover know defs pred at args «end» ends es =
    first_for (record { know = know; defs = defs; edges = es })
    (record { pred = pred; at = at; args = args; stop = Some (end, ends) })
