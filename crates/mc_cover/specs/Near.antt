-- A search that looks only at edges that start where the goal stands.
use Rattle.std.specs.List.{filter}
use Rattle.mc_state.specs.declared.graph.edge.Edge.{Edge}
use Rattle.mc_state.specs.Graph.Edges.{start_of}
use Rattle.mc_state.specs.Graph.Graph.{Edges}
use Rattle.std.specs.Prelude.{List, Bool, true}
use Rattle.mc_base.specs.declared.ids.EdgeId.{EdgeId}
use Rattle.mc_state.specs.declared.terms.Term.{Term}
use Rattle.mc_state.specs.Terms.{plain}
use Rattle.mc_state.specs.Known.{Test}
use Rattle.mc_shape_search.specs.Search.Search.{Space}
use Rattle.mc_cover.specs.Goals.{Goal, Mark, Setting}
use Rattle.mc_cover.specs.Marks.{def_at, ids_of, marks_on, fits, calls_of, takes}
use Rattle.mc_cover.specs.Terms.{equal_terms}

-- the edge starts at a node that equals the term
abbrev pub starts_at : Test → Term → EdgeId × Edge → Bool
starts_at know at e = equal_terms know at (plain (start_of e.1))

-- the edges that start there
abbrev pub near : Test → Term → Edges → Edges
near know at es = filter (starts_at know at) es

-- the marks of a goal with edges that start where it stands
abbrev pub near_marks : Setting → Goal → List Mark
near_marks w g = marks_on (ids_of (near w.know g.at w.edges)) (def_at w g)

-- how goals are met with those marks alone
abbrev pub near_space : Setting → Space Goal Mark
near_space w = record { marks = near_marks w; fits = fits w; calls = calls_of w; takes = takes; ends = λ log. true }
