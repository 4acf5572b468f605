use Rattle.std.proofs.Common.{[], ◌∷◌}
use Rattle.std.specs.Prelude.{codes}
use Rattle.serde_json.specs.View.{view}
use Rattle.mc_lines.specs.Cert.Entries.{form_data}
use Rattle.mc_lines.proofs.CertLemmas.Forms.{no_line}
use Rattle.mc_lines.proofs.cert.read.line_in_value.Goals as goal

pub returns-in-None : goal.returns-in-None
returns-in-None c = (λ l f. no_line (view c.args.value.now) c.in-None.ensures l, λ v. c.in-None.ensures (codes "memcad") (v.0 ∷ form_data v.1 ∷ []) v.4)
