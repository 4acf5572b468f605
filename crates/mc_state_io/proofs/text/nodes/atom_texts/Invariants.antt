use Rattle.std.proofs.Common.{◌≡◌, ◌++◌, map, drop}
use Rattle.mc_state_io.specs.Text.Text.{atom_text}
use Rattle.mc_state_io.proofs.text.nodes.atom_texts.Given as goal

abbrev pub invariant-loop-atom : goal.invariant-loop-atom
invariant-loop-atom l = l.texts.items ++ map atom_text (drop l.atom-index l.atoms) ≡ map atom_text l.atoms
