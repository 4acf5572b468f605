-- What a document is for a flow graph, and what a judge has read of it.
use Rattle.std.specs.Prelude.{◌≡◌, ℕ, List, length}
use Rattle.mc_lines.specs.declared.cert.line.Line.{Line}
use Rattle.mc_lines.specs.Cert.Lines.{lines_of}
use Rattle.mc_flow.specs.declared.defs.rules.Def.{Def}
use Rattle.mc_flow.specs.declared.graph.Flow.{Flow}
use Rattle.mc_state.specs.Known.{Test}
use Rattle.mc_state.specs.State.{State}
use Rattle.mc_kernel.specs.Branches.{Path}
use Rattle.mc_kernel.specs.Certificates.{FaultsOnlyStuck}
use Rattle.mc_document.specs.Spelled.{SpellAll}
use Rattle.mc_joins.specs.Chains.Chains.{IsFinal, IsLegalChain, KnowsStates}
use Rattle.mc_joins.specs.Chains.Judges.{Lore}
use Rattle.mc_joins.specs.Chains.Laws.{IsRight}
use Rattle.mc_judge.specs.declared.judge.judge.Judge.{Judge}
use Rattle.mc_judge.specs.declared.judge.verdict.Verdict.{Verdict}
use Rattle.mc_judge.specs.declared.judge.verdict.Verdict.TheVariants.{Alarms}
use Rattle.mc_judge.specs.Judge.Stages.{HasHeard}
use Rattle.mc_judge.specs.Judge.Verdicts.{IsVerdict, Tells}

-- ---- verdicts

-- by whatever judges rightly, this is the verdict on the document
abbrev pub IsRightVerdict : Flow → List Def → List ℕ → Verdict → Type 0
IsRightVerdict flow defs document verdict =
    (k : Lore) → IsRight k flow defs → IsVerdict k flow defs (lines_of document) verdict

-- this is the verdict on the document, also without a judge
abbrev pub IsVerdictOn : Flow → List Def → List ℕ → Verdict → Type 0
IsVerdictOn flow defs document verdict = Tells flow defs document verdict × IsRightVerdict flow defs document verdict

-- ---- chains

-- the lines are a final legal chain with these blocked branches, by what is entailed in states
pub record AreFinalChain (know : State → Test) (flow : Flow) (defs : List Def) (lines : List Line) (stuck : List Path) : Type 0 where
  pub chain : IsLegalChain know flow defs lines
  pub final : IsFinal chain.passes
  pub stuck_are : chain.stuck ≡ stuck

-- the document spells one, by whatever tells what is entailed, and there is what does
pub record IsFinalChain (flow : Flow) (defs : List Def) (document : List ℕ) (stuck : List Path) : Type 0 where
  pub lines : List Line
  pub spelled : SpellAll (lines_of document) lines
  pub known : (know : State → Test) × KnowsStates flow defs know
  pub final : (know : State → Test) → KnowsStates flow defs know → AreFinalChain know flow defs lines stuck

-- so many alarms are said of a final legal chain with so many blocked branches, by one of which every run of the flow graph that has
-- a fault comes
abbrev pub AlarmsAreFound : Flow → List Def → List ℕ → Verdict → Type 0
AlarmsAreFound flow defs document verdict = (count : ℕ) → verdict ≡ Alarms count
    → (stuck : List Path) × IsFinalChain flow defs document stuck × (count ≡ length stuck) × FaultsOnlyStuck flow defs stuck

-- ---- judges

-- the judge has read the text, by whatever judges rightly
abbrev pub IsHeard : List ℕ → Judge → Type 0
IsHeard text judge = (k : Lore) → IsRight k judge.flow.now judge.defs.now → HasHeard k text judge
