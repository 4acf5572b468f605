use Rattle.std.proofs.Common.{◌≡◌, take}
use Rattle.std.specs.List.{AllByRecursion}
use Rattle.mc_lines.specs.Written.Written.{document_text}
use Rattle.mc_lines.proofs.WrittenLemmas.Written.{IsSpelled}
use Rattle.mc_lines.proofs.written.document.Given as goal

abbrev pub invariant-loop-line : goal.invariant-loop-line
invariant-loop-line l = (l.text.items ≡ document_text (take l.line-index l.lines)) × AllByRecursion IsSpelled (take l.line-index l.lines)
