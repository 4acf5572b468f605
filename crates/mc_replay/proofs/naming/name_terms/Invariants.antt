use Rattle.std.proofs.Common.{◌≡◌, drop, length}
use Rattle.std.specs.Prelude.{option_map}
use Rattle.mc_joins.specs.Parts.{Basis, behind, nodes_of_terms}
use Rattle.mc_replay.specs.Named.{IsGood, TellsFrom}
use Rattle.mc_replay.proofs.naming.name_terms.Given as goal

abbrev pub invariant-loop-i : goal.invariant-loop-i
invariant-loop-i l = record {
  lengths : length l.kinds ≡ length l.terms;
  good : IsGood l.state;
  graph : l.state.graph ≡ l.initial.state.graph;
  tells : (w : Basis) → TellsFrom w l.initial.state → TellsFrom w l.state;
  named : (w : Basis) → TellsFrom w l.initial.state
      → nodes_of_terms w l.initial.state l.kinds l.terms ≡ option_map (behind l.nodes.items) (nodes_of_terms w l.state (drop l.i l.kinds) (drop l.i l.terms));
}
