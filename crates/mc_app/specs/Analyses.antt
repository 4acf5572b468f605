-- Why the analysis of a program comes to what it does, and where its document goes.
use Rattle.std.specs.Prelude.{◌≡◌, ◌≤◌, ℕ, Bool, List, Some, length, option_map}
use Rattle.mc_c_syntax.specs.Ast.Trees.{UnitTree}
use Rattle.mc_find.specs.Analysis.Findings.{IsAnalysis}
use Rattle.mc_find.specs.declared.analysis.analysis.Analysis.{Analysis}
use Rattle.mc_find.specs.declared.analysis.analysis.Analysis.TheVariants.{Safe, Alarms, Paths, Unknown}
use Rattle.mc_flow.specs.declared.defs.rules.Def.{Def}
use Rattle.mc_flow.specs.declared.graph.Flow.{Flow}
use Rattle.mc_app.specs.Blocked.{FaultsComeBy}
use Rattle.mc_app.specs.Checks.{IsSafeUnit}
use Rattle.mc_app.specs.Real.{AreReal}
use Rattle.mc_app.specs.Tried.{AreShown}
use Rattle.mc_lines.specs.Cert.Lines.{lines_of}
use Rattle.mc_app.specs.declared.words.words.Analyse.{Analyse}
use Rattle.mc_app.specs.Words.Words.{AsksAnalyse}
use Rattle.mc_load.specs.Lowered.Graphs.{IsGraphOf, IsLong}
use Rattle.mc_app.specs.declared.analysing.Analysed.{Analysed}
use Rattle.mc_app.specs.declared.analysing.Analysed.TheVariants.{TooLong, Found, Tried}

-- what is found of this flow graph of the program means for its runs: with a certificate none has a fault; each that has one comes
-- by one of the blocked branches of the chain that is reported, and the alarms with answers of malloc are real
abbrev pub MeansForRuns : (start : List ℕ) (unit : UnitTree) (defs : List Def) (flow : Flow) (merge : Bool) (found : Analysis)
    → IsAnalysis flow defs merge found → Type 0
MeansForRuns start unit defs flow merge (Safe f) proved = IsSafeUnit start unit defs
MeansForRuns start unit defs flow merge (Alarms f count) alarming =
    FaultsComeBy start unit defs flow alarming.stuck × AreReal start unit defs flow merge alarming.alarms
MeansForRuns start unit defs flow merge (Paths document) crowded = Unit {0}
MeansForRuns start unit defs flow merge Unknown searched = Unit {0}

-- the flow graph of the program has no more than 10,000 points, and this is found of it, and what it means; where that one has
-- loops, or states are merged, a search may give up
abbrev pub IsWhyFound : Analyse → UnitTree → List Def → Analysis → Type 0
IsWhyFound a unit defs found =
    (flow : Flow) × IsGraphOf a.start.now unit defs flow × (length flow.points ≤ 10000)
    × ((is : IsAnalysis flow defs a.merge found) × MeansForRuns a.start.now unit defs flow a.merge found is)

-- the flow graph has more points; or this is found of it; or alarms are, in whose report some carry scripts
abbrev pub IsWhyAnalysed : Analyse → UnitTree → List Def → Analysed → Type 0
IsWhyAnalysed a unit defs TooLong = IsLong a.start.now unit defs
IsWhyAnalysed a unit defs (Found found) = IsWhyFound a unit defs found
IsWhyAnalysed a unit defs (Tried f count text) =
    IsWhyFound a unit defs (Alarms f count) × AreShown a.start.now unit defs (lines_of f.report.items) text.items

-- the words ask for an analysis whose document goes into the file of this name
abbrev pub IsTarget : List (List ℕ) → List ℕ → Type 0
IsTarget words name = (a : Analyse) × AsksAnalyse words a × (option_map (λ s. s.now) a.document ≡ Some name)
