use Rattle.serde_json.specs.View.{view}
use Rattle.mc_lines.proofs.CertLemmas.PartForms.{no_step}
use Rattle.mc_lines.proofs.cert.parts.JoinStepEntry.read.Goals as goal

pub returns-in-None : goal.returns-in-None
returns-in-None c = λ y fits. no_step (view c.args.value.now) c.in-None.ensures y
