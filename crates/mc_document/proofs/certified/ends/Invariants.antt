use Rattle.std.proofs.Common.{drop}
use Rattle.mc_document.proofs.CertifiedLemmas.Reading.{AreRead}
use Rattle.mc_document.proofs.certified.ends.Given as goal

abbrev pub invariant-loop-line : goal.invariant-loop-line
invariant-loop-line l = AreRead l.flow l.defs l.lines (drop l.line-index l.lines) l.proof
