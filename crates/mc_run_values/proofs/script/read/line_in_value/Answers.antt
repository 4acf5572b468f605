use Rattle.serde_json.specs.View.{view}
use Rattle.mc_run_values.proofs.ScriptLemmas.Forms.{no_line}
use Rattle.mc_run_values.proofs.script.read.line_in_value.Goals as goal

pub returns-in-None : goal.returns-in-None
returns-in-None c = λ l fits. no_line (view c.args.value.now) c.in-None.ensures l
