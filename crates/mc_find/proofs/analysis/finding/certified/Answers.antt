use Rattle.std.proofs.Common.{◌≡◌, ◌++◌, ◌∙◌, List, [], ap, rules, sym}
use Rattle.std.proofs.lemmas.List.{append-nil, nil_from_length}
use Rattle.std.specs.List.{filter}
use Rattle.std.specs.Vec.Iter.{into_iter_items}
use Rattle.mc_lines.specs.declared.cert.line.Line.{Line}
use Rattle.mc_find.specs.Analysis.Findings.{stays, under_header}
use Rattle.mc_find.proofs.analysis.finding.certified.Goals as goal

pub returns : goal.returns
returns c =
    let lines = c.args.lines.items in
    let list = c.loop-line.list.items in
    let left = into_iter_items c.loop-line.line-iterator in
    let through : left ≡ [] = nil_from_length left (sym c.loop-line.invariant.1 ∙ c.in-None.ensures.steps.0) in
    let all : into_iter_items c.into_iter-line-iterator.result ≡ lines = search rules in
    sym (append-nil list)
    ∙ sym (ap (λ (ls : List Line). list ++ filter stays ls) through)
    ∙ c.loop-line.invariant.0
    ∙ ap (λ (ls : List Line). under_header ls) all
