use Rattle.std.proofs.Common.{◌≡◌, ◌++◌, drop}
use Rattle.mc_state_io.specs.Text.Text.{var_texts}
use Rattle.mc_state_io.proofs.text.names.var_texts.Given as goal

abbrev pub invariant-loop-x : goal.invariant-loop-x
invariant-loop-x l = l.texts.items ++ var_texts l.vars l.x (drop l.x l.env) ≡ var_texts l.vars 0 l.env
