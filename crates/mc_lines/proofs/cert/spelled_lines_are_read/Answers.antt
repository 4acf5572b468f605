use Rattle.mc_lines.proofs.CertLemmas.Once.{read_back}
use Rattle.mc_lines.proofs.cert.spelled_lines_are_read.Goals as goal

pub returns : goal.returns
returns c = read_back
