-- Why a check of a document comes to what it does, and what it means where all is well.
use Rattle.std.specs.Prelude.{◌≡◌, ◌≤◌, ℕ, List, Some, length}
use Rattle.mc_c_syntax.specs.Ast.Trees.{FunctionTree, UnitTree}
use Rattle.mc_c_types.specs.Tables.{called_function, tables_of}
use Rattle.mc_flow.specs.declared.defs.rules.Def.{Def}
use Rattle.mc_flow.specs.declared.graph.Flow.{Flow}
use Rattle.mc_flow.specs.Valid.{IsValid}
use Rattle.mc_load.specs.Inputs.Inputs.{Holds}
use Rattle.mc_load.specs.declared.inputs.reading.Sources.{Sources}
use Rattle.mc_load.specs.Inputs.Texts.{AreDefinitions, IsProgramHere}
use Rattle.mc_judge.specs.declared.judge.verdict.Verdict.{Verdict}
use Rattle.mc_judge.specs.declared.judge.verdict.Verdict.TheVariants.{Safe, Alarms, Refused}
use Rattle.mc_kernel.specs.Branches.{Path}
use Rattle.mc_load.specs.Lowered.Graphs.{IsGraphOf, IsLong}
use Rattle.mc_semantics.specs.Steps.{IsSafeProgram, program_of}
use Rattle.mc_outside.specs.Outside.{WhereTold}
use Rattle.mc_app.specs.declared.words.words.Check.{Check}
use Rattle.mc_app.specs.declared.checking.Checked.{Checked}
use Rattle.mc_app.specs.declared.checking.Checked.TheVariants.{TooLong, Judged}
use Rattle.mc_app.specs.Blocked.{FaultsComeBy}
use Rattle.mc_app.specs.Documents.{IsFinalChain, IsVerdictOn}

-- ---- safety

-- no run of the program from its entry, with its definitions, has a fault
abbrev pub IsSafeUnit : (start : List ℕ) → UnitTree → List Def → Type 0
IsSafeUnit start unit defs =
    (f : FunctionTree) × (called_function (tables_of unit) start ≡ Some f) × IsSafeProgram (program_of unit defs) f

-- the texts are a program and its definitions, with which no run of the program has a fault
abbrev pub IsSafe : (start text definitions : List ℕ) → Type 0
IsSafe start text definitions =
    (unit : UnitTree) × IsProgramHere start text unit
    × ((defs : List Def) × AreDefinitions unit defs definitions × IsSafeUnit start unit defs)

-- where the program and its definitions are known, no run of the program has a fault
abbrev pub IsSafeWhereTold : Holds → Sources → Type 0
IsSafeWhereTold holds s =
    WhereTold (holds s.program.now) (λ text. WhereTold (holds s.definitions.now) (λ definitions. IsSafe s.start.now text definitions))

-- ---- causes

-- what a verdict on a document of this flow graph of the program means for its runs: none has a fault; or each that has one comes
-- by one of so many blocked branches of the document, a final legal chain
abbrev pub MeansForRuns : (start : List ℕ) → UnitTree → List Def → Flow → (document : List ℕ) → Verdict → Type 0
MeansForRuns start unit defs flow document Safe = IsSafeUnit start unit defs
MeansForRuns start unit defs flow document (Alarms count) =
    (stuck : List Path) × IsFinalChain flow defs document stuck × (count ≡ length stuck) × FaultsComeBy start unit defs flow stuck
MeansForRuns start unit defs flow document (Refused cause) = Unit {0}

-- this is the verdict on the document for a flow graph of the program with its definitions, and what it means
pub record IsJudged (holds : Holds) (c : Check) (unit : UnitTree) (defs : List Def) (v : Verdict) : Type 0 where
  pub flow : Flow
  pub graph : IsGraphOf c.start.now unit defs flow
  pub valid : IsValid flow defs
  pub short : length flow.points ≤ 10000
  pub told : WhereTold (holds c.document.now)
      (λ document. IsVerdictOn flow defs document v × MeansForRuns c.start.now unit defs flow document v)

-- why the check of a document of this program with these definitions comes to this
abbrev pub IsWhyChecked : Holds → Check → UnitTree → List Def → Checked → Type 0
IsWhyChecked holds c unit defs TooLong = IsLong c.start.now unit defs
IsWhyChecked holds c unit defs (Judged v) = IsJudged holds c unit defs v
