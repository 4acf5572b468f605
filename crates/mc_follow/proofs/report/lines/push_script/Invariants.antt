use Rattle.std.proofs.Common.{◌≡◌, ◌++◌, drop, flat_map}
use Rattle.std.specs.Prelude.{codes}
use Rattle.mc_exact.specs.Scripts.{malloc_line}
use Rattle.mc_follow.proofs.report.lines.push_script.Given as goal

abbrev pub invariant-loop-answer : goal.invariant-loop-answer
invariant-loop-answer l =
    l.out.items ++ flat_map (λ k. codes " " ++ malloc_line k) (drop l.answer-index l.answers)
    ≡ l.fn.out.items ++ flat_map (λ k. codes " " ++ malloc_line k) l.answers
