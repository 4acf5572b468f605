-- What is seen of a program that was made.
use Rattle.std.specs.Prelude.{◌≡◌, ◌≤◌, ◌⊎◌, ℕ, false, List, codes, length}
use Rattle.mc_c_syntax.specs.Ast.Trees.{UnitTree}
use Rattle.mc_judge.specs.declared.judge.verdict.Verdict.TheVariants as verdict
use Rattle.mc_find.specs.Analysis.Findings.{HasAlarms, HasTooManyPaths, IsAnalysis, IsProved}
use Rattle.mc_find.specs.declared.analysis.analysis.Analysis.TheVariants as analysis
use Rattle.mc_find.specs.declared.analysis.analysis.Findings.{Findings}
use Rattle.mc_flow.specs.declared.defs.rules.Def.{Def}
use Rattle.mc_flow.specs.declared.graph.Flow.{Flow}
use Rattle.mc_gen.specs.Texts.{definitions_text}
use Rattle.mc_load.specs.Inputs.Pairs.{ArePair, AreRefused}
use Rattle.mc_load.specs.Lowered.Graphs.{IsGraphOf, IsLong}
use Rattle.mc_load.specs.declared.inputs.refusal.Refusal.{Refusal}
use Rattle.mc_app.specs.Documents.{IsVerdictOn}
use Rattle.mc_app.specs.declared.demo.seen.Seen.{Seen}
use Rattle.mc_app.specs.declared.demo.seen.Seen.TheVariants.{Unread, NotYet, Paths, Judged}

-- the function that runs of these programs begin with
abbrev pub start : List ℕ
start = codes "main"

-- ---- flow graphs

-- what is seen of a flow graph, whose states are not merged: that its analysis gave up, or came to its limit; or the verdict on the
-- document that it wrote, which is a certificate or a chain with alarms, and is never refused
abbrev pub IsSeenOf : Flow → List Def → Seen → Type 0
IsSeenOf flow defs Unread = ⊥
IsSeenOf flow defs NotYet = IsAnalysis flow defs false analysis.Unknown
IsSeenOf flow defs Paths = (document : List ℕ) × HasTooManyPaths flow defs document
IsSeenOf flow defs (Judged verdict.Safe) =
    (f : Findings) × IsProved flow defs false f × IsVerdictOn flow defs f.document.items verdict.Safe
IsSeenOf flow defs (Judged (verdict.Alarms count)) =
    (f : Findings) × HasAlarms flow defs false f count × IsVerdictOn flow defs f.document.items (verdict.Alarms count)
IsSeenOf flow defs (Judged (verdict.Refused cause)) = ⊥

-- what is seen of a program with its definitions: that its flow graph has more than 10,000 points, or what is seen of that
abbrev pub IsSeenWith : UnitTree → List Def → Seen → Type 0
IsSeenWith unit defs seen =
    ((seen ≡ Unread) × IsLong start unit defs)
    ⊎ ((flow : Flow) × IsGraphOf start unit defs flow × (length flow.points ≤ 10000) × IsSeenOf flow defs seen)

-- ---- texts

-- what is seen of a text: that it is refused with the definitions of all programs that are made, or what is seen of what both are
abbrev pub IsSeen : (text : List ℕ) → Seen → Type 0
IsSeen text seen =
    ((seen ≡ Unread) × ((cause : Refusal) × AreRefused start text definitions_text cause))
    ⊎ ((unit : UnitTree) × (defs : List Def) × ArePair start text definitions_text unit defs × IsSeenWith unit defs seen)
