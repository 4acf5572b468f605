use Rattle.std.proofs.Common.{◌≡◌, ◌++◌, drop}
use Rattle.mc_state_io.specs.Text.Text.{field_texts}
use Rattle.mc_state_io.proofs.text.edges.field_texts.Given as goal

abbrev pub invariant-loop-i : goal.invariant-loop-i
invariant-loop-i l = l.texts.items ++ field_texts (drop l.i l.fields) (drop l.i l.nodes) ≡ field_texts l.fields l.nodes
