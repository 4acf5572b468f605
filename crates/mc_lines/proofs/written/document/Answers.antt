use Rattle.std.proofs.Common.{◌∙◌, ◌≤◌, ap, arith, length, subst}
use Rattle.std.proofs.lemmas.Bool.Decides.{nat_tests}
use Rattle.std.proofs.lemmas.List.{take_all}
use Rattle.std.specs.List.{AllByRecursion}
use Rattle.mc_lines.specs.Cert.Lines.{lines_of}
use Rattle.mc_lines.specs.Written.Written.{document_text}
use Rattle.mc_lines.proofs.WrittenLemmas.Written.{IsSpelled, lines_written}
use Rattle.mc_lines.proofs.written.document.Goals as goal

pub returns : goal.returns
returns c =
    let past : length c.args.lines.now ≤ c.loop-line.line-index = let test = c.loop-line-test.false in grind (arith, nat_tests, test) in
    let all = take_all c.loop-line.line-index c.args.lines.now past in
    let text = c.loop-line.invariant.0 ∙ ap document_text all in
    record {
      is_its = text;
      lines_are = ap lines_of text ∙ lines_written c.args.lines.now;
      spelled = subst (λ lines. AllByRecursion IsSpelled lines) all c.loop-line.invariant.1;
    }
