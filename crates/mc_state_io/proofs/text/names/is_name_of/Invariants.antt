use Rattle.std.proofs.Common.{◌≡◌, drop}
use Rattle.mc_state_io.specs.Text.Text.{is_name_of}
use Rattle.mc_state_io.proofs.text.names.is_name_of.Given as goal

abbrev pub invariant-loop-var : goal.invariant-loop-var
invariant-loop-var l = is_name_of l.vars l.name ≡ is_name_of (drop l.var-index l.vars) l.name
