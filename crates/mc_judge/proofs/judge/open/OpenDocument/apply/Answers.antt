use Rattle.std.proofs.Common.{sym, subst}
use Rattle.mc_judge.specs.declared.judge.open.OpenDocument.{OpenDocument}
use Rattle.mc_judge.specs.declared.judge.open.OpenDocument.TheVariants as opened
use Rattle.mc_judge.specs.Documents.{Takes}
use Rattle.mc_judge.proofs.JudgeLemmas.Opened.{certificate_takes, chain_takes}
use Rattle.mc_judge.proofs.judge.open.OpenDocument.apply.Goals as goal

pub returns-in-Certificate : goal.returns-in-Certificate
returns-in-Certificate c =
    subst (λ (old : OpenDocument). Takes c.args.line.now old (opened.Certificate c.apply.new.self) c.apply.result) (sym c.in-Certificate.is)
    (certificate_takes c.lines_are_read.ensures.kept c.args.line.now c.in-Certificate.proof c.apply.new.self c.is_held.ensures.valid
    c.apply.result c.apply.ensures.applies)

pub returns-in-Chain : goal.returns-in-Chain
returns-in-Chain c =
    subst (λ (old : OpenDocument). Takes c.args.line.now old (opened.Chain c.apply-in-Chain.new.self) c.apply-in-Chain.result) (sym c.in-Chain.is)
    (chain_takes c.lines_are_read-2.ensures.kept c.args.line.now c.in-Chain.passes c.apply-in-Chain.new.self c.is_held-in-Chain.ensures
    c.apply-in-Chain.result c.apply-in-Chain.ensures.applies)
