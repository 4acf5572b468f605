use Rattle.mc_kernel.proofs.ReadingLemmas.Closed.{ended_is_closed, lines_are_added}
use Rattle.mc_kernel.proofs.reading.documents_go_on.Goals as goal

pub returns : goal.returns
returns c = record { added = lines_are_added; closed = ended_is_closed }
