use Rattle.std.proofs.Common.{◌≡◌, drop}
use Rattle.std.specs.List.{list_all}
use Rattle.mc_base.specs.Nodes.{null}
use Rattle.mc_state.specs.Graph.Edges.{start_of}
use Rattle.mc_state.specs.Known.{Test, Tells, equal}
use Rattle.mc_gaps.proofs.unmet.searches.all_at_null.Given as goal

abbrev pub invariant-loop-edge : goal.invariant-loop-edge
invariant-loop-edge l =
    (know : Test) → Tells know l.s
    → list_all (λ e. equal know (start_of e.1) null) (drop l.edge-index l.s.graph.edges)
    ≡ list_all (λ e. equal know (start_of e.1) null) l.s.graph.edges
