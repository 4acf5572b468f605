use Rattle.serde_json.specs.View.{view}
use Rattle.mc_run_values.proofs.ScriptLemmas.Forms.{no_block}
use Rattle.mc_run_values.proofs.script.read.NamedBlockEntry.read.Goals as goal

pub returns-in-None : goal.returns-in-None
returns-in-None c = λ b fits. no_block (view c.args.value.now) c.in-None.ensures b
