use Rattle.serde_json.specs.View.{view}
use Rattle.mc_lines.proofs.CertLemmas.PartForms.{no_edge}
use Rattle.mc_lines.proofs.cert.parts.EdgeEntry.read.Goals as goal

pub returns-in-None : goal.returns-in-None
returns-in-None c = λ y fits. no_edge (view c.args.value.now) c.in-None.ensures y
