use Rattle.mc_lines.proofs.CertLemmas.Once.{spelled_once}
use Rattle.mc_lines.proofs.cert.line_is_spelled_once.Goals as goal

pub returns : goal.returns
returns c = spelled_once
