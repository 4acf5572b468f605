use Rattle.std.proofs.Common.{sym}
use Rattle.mc_document.proofs.ProofLemmas.Last.{heads_last}
use Rattle.mc_document.proofs.proof.places.stands_behind.Goals as goal

pub returns-in-Some : goal.returns-in-Some
returns-in-Some c = heads_last c.args.heads.now c.args.point c.in-Some.last.now (sym c.in-Some.ensures.value)
