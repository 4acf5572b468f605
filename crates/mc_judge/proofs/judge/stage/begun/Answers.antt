use Rattle.std.proofs.Common.{[], refl, subst}
use Rattle.mc_lines.specs.declared.cert.line.Line.{Line}
use Rattle.mc_lines.specs.declared.cert.line.Line.TheVariants.{Header}
use Rattle.mc_lines.specs.Cert.Document.{Spells}
use Rattle.mc_state.specs.declared.line.Version.TheVariants.{One}
use Rattle.mc_judge.proofs.JudgeLemmas.Documents.{refused_end}
use Rattle.mc_judge.proofs.JudgeLemmas.Standing.{begun_at}
use Rattle.mc_judge.proofs.judge.stage.begun.Goals as goal

pub returns-in-Some : goal.returns-in-Some
returns-in-Some c = λ k right nothing.
    let one : Spells c.args.bytes.now (Header One c.in-Some.form) =
    subst (λ (l : Line). Spells c.args.bytes.now l) c.in-Some.ensures c.in-Ok.ensures.reads in
    begun_at k c.args.flow.now c.args.defs.now c.args.bytes.now c.in-Some.form c.begin.result one (c.begin.ensures k right)

pub returns-in-Ok : goal.returns-in-Ok
returns-in-Ok c = λ k right nothing.
    refused_end k c.args.flow.now c.args.defs.now [] c.args.bytes.now _
    (refl, (c.in-Ok.line, c.in-Ok.ensures.reads, c.name_of.ensures, (c.in-None.ensures, refl)))

pub returns : goal.returns
returns c = λ k right nothing.
    c.no_line.ensures k c.args.flow.now c.args.defs.now [] c.args.bytes.now refl tt c.in-Err.ensures.reads
