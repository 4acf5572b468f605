use Rattle.std.proofs.Common.{◌≡◌, ◌++◌, ◌∷◌, length}
use Rattle.std.specs.List.{filter}
use Rattle.std.specs.Vec.Iter.{into_iter_items, into_iter_len}
use Rattle.mc_lines.specs.declared.cert.line.Line.TheVariants.{Header}
use Rattle.mc_state.specs.declared.line.Form.TheVariants.{Certificate}
use Rattle.mc_state.specs.declared.line.Version.TheVariants.{One}
use Rattle.mc_find.specs.Analysis.Findings.{stays}
use Rattle.mc_find.proofs.analysis.finding.certified.Given as goal

abbrev pub invariant-loop-line : goal.invariant-loop-line
invariant-loop-line l =
    (l.list.items ++ filter stays (into_iter_items l.line-iterator) ≡ Header One Certificate ∷ filter stays (into_iter_items l.initial.line-iterator))
    × (into_iter_len l.line-iterator ≡ length (into_iter_items l.line-iterator))
