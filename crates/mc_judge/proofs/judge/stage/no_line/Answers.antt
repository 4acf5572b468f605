use Rattle.std.proofs.Common.{subst}
use Rattle.std.specs.Prelude.{Err}
use Rattle.mc_lines.specs.declared.cert.fault.LineFault.{LineFault}
use Rattle.mc_lines.specs.Cert.Document.{ReadsAs}
use Rattle.mc_judge.proofs.JudgeLemmas.Documents.{refused_end}
use Rattle.mc_judge.proofs.judge.stage.no_line.Goals as goal

pub returns-in-NotJson : goal.returns-in-NotJson
returns-in-NotJson c = λ k flow defs before bytes number goes reads.
    refused_end k flow defs before bytes _ (number, goes, subst (λ (f : LineFault). ReadsAs bytes (Err f)) c.in-NotJson.is reads, λ e. cc e)

pub returns-in-Form : goal.returns-in-Form
returns-in-Form c = λ k flow defs before bytes number goes reads.
    refused_end k flow defs before bytes _ (number, goes, subst (λ (f : LineFault). ReadsAs bytes (Err f)) c.in-Form.is reads, λ e. cc e)

pub returns-in-Version : goal.returns-in-Version
returns-in-Version c = λ k flow defs before bytes number goes reads.
    refused_end k flow defs before bytes _ (number, goes, subst (λ (f : LineFault). ReadsAs bytes (Err f)) c.in-Version.is reads, λ e. cc e)
