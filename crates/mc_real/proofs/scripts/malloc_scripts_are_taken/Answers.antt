use Rattle.mc_real.proofs.ScriptLines.{scripts_taken}
use Rattle.mc_real.proofs.scripts.malloc_scripts_are_taken.Goals as goal

pub returns : goal.returns
returns c = scripts_taken
