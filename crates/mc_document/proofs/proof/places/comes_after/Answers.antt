use Rattle.std.proofs.Common.{sym}
use Rattle.mc_document.proofs.ProofLemmas.Last.{cuts_last}
use Rattle.mc_document.proofs.proof.places.comes_after.Goals as goal

pub returns-in-Some : goal.returns-in-Some
returns-in-Some c = cuts_last c.args.cuts.now c.args.point c.in-Some.last.now (sym c.in-Some.ensures.value)
