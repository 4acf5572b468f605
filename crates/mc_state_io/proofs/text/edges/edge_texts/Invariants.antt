use Rattle.std.proofs.Common.{◌≡◌, ◌++◌, map, drop}
use Rattle.mc_state_io.specs.Text.Text.{edge_text}
use Rattle.mc_state_io.proofs.text.edges.edge_texts.Given as goal

abbrev pub invariant-loop-edge : goal.invariant-loop-edge
invariant-loop-edge l = l.texts.items ++ map (λ e. edge_text l.defs l.structs e.1) (drop l.edge-index l.edges) ≡ map (λ e. edge_text l.defs l.structs e.1) l.edges
