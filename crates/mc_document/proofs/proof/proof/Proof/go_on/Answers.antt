use Rattle.std.proofs.Common.{refl, subst}
use Rattle.std.specs.Prelude.{Err}
use Rattle.mc_kernel.specs.Judges.{Knowledge}
use Rattle.mc_document.specs.Proof.Held.{seen}
use Rattle.mc_document.specs.Proof.Lines.{AnswersAll, ComesTo, ruling_at}
use Rattle.mc_document.specs.Proof.Positions.{Position}
use Rattle.mc_document.proofs.ProofLemmas.Ruling.{settle, stays}
use Rattle.mc_document.proofs.proof.proof.Proof.go_on.Goals as goal

pub returns-in-Err : goal.returns-in-Err
returns-in-Err c =
    let inside = c.self.inside in
    let told = settle inside.flow.now inside.defs.now inside.form c.args.line.now c.advance.new.stack (Err c.in-Err.fault)
    c.as_slice.result.now inside.cuts.items c.as_slice-2.result.now inside.heads.items inside.branches inside.branches
    c.as_slice.ensures.value c.as_slice-2.ensures.value refl c.in-Err.ensures.comes in
    subst (λ (q : Position). (k : Knowledge) → AnswersAll k q.flow q.defs
    → ComesTo (ruling_at k c.args.line.now q) q (seen (record c.self.inside { branches = c.advance.new.stack })) (Err c.in-Err.fault)) c.self.view_is
    (λ k all. stays k c.args.line.now (seen c.self.inside) c.advance.new.stack c.in-Err.fault (told k all))
