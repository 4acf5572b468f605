use Rattle.std.proofs.Common.{◌≡◌, ◌∙◌, ap, sym, true}
use Rattle.mc_kernel.specs.Readings.{is_ruling}
use Rattle.mc_document.specs.Proof.Lines.{is_ready_at}
use Rattle.mc_document.specs.Proof.Positions.{Position}
use Rattle.mc_document.specs.Proof.Stacks.{stage_of}
use Rattle.mc_document.proofs.ProofLemmas.Stages.{begins}
use Rattle.mc_document.proofs.proof.proof.Proof.rule.Goals as goal

pub returns-else-is_ruling : goal.returns-else-is_ruling
returns-else-is_ruling c = λ k all.
    let s : stage_of c.self.inside.stage ≡ c.args.self.now.stage = ap (λ (q : Position). q.stage) c.self.view_is in
    let e : is_ready_at c.args.self.now c.args.self.now.stage ≡ true = sym c.is_ready.ensures ∙ c.if-not-is_ready.false in
    begins c.args.self.now k c.args.line.now c.args.self.now c.begin.new.self c.begin.result
    e (sym (ap is_ruling s) ∙ (sym c.is_ruling.ensures ∙ c.if-is_ruling.false)) (c.begin.ensures k all)
