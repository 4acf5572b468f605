-- What verdicts and findings mean for the runs of a program.
use Rattle.std.proofs.Common.{◌≡◌, ℕ, Bool, List, refl, subst}
use Rattle.mc_c_syntax.specs.Ast.Trees.{UnitTree}
use Rattle.mc_judge.specs.declared.judge.verdict.Verdict.{Verdict}
use Rattle.mc_judge.specs.declared.judge.verdict.Verdict.TheVariants as verdict
use Rattle.mc_find.specs.Analysis.Findings.{HasAlarms, IsAnalysis}
use Rattle.mc_find.specs.declared.analysis.analysis.Analysis.{Analysis}
use Rattle.mc_find.specs.declared.analysis.analysis.Analysis.TheVariants.{Safe, Alarms, Paths, Unknown}
use Rattle.mc_find.specs.declared.analysis.analysis.Findings.{Findings}
use Rattle.mc_flow.specs.declared.defs.rules.Def.{Def}
use Rattle.mc_flow.specs.declared.graph.Flow.{Flow}
use Rattle.mc_flow.specs.Valid.{IsValid}
use Rattle.mc_kernel.specs.Branches.{Path}
use Rattle.mc_kernel.specs.Certificates.{FaultsOnlyStuck, LastPassFindsFaults, states_of}
use Rattle.mc_app.specs.Analyses as analyses
use Rattle.mc_app.specs.Blocked.{FaultsComeBy}
use Rattle.mc_app.specs.Checks as checks
use Rattle.mc_app.specs.Checks.{IsSafeUnit}
use Rattle.mc_app.specs.Documents.{AlarmsAreFound}
use Rattle.mc_app.specs.Real.{AreReal}

module _ (start : List ℕ) (unit : UnitTree) (defs : List Def) (flow : Flow) (comes : (stuck : List Path) → FaultsOnlyStuck flow defs stuck → FaultsComeBy start unit defs flow stuck) where
  pub verdict_means : (document : List ℕ) (v : Verdict) → (v ≡ verdict.Safe → IsSafeUnit start unit defs) → AlarmsAreFound flow defs document v → checks.MeansForRuns start unit defs flow document v
  verdict_means document verdict.Safe safe found = safe refl
  verdict_means document (verdict.Alarms count) safe found =
      let chain = found count refl in
      (chain.0, chain.1, chain.2, comes chain.0 chain.3)
  verdict_means document (verdict.Refused cause) safe found = tt

  pub found_means : LastPassFindsFaults → IsValid flow defs → (merge : Bool) → ((f : Findings) (count : ℕ) → (alarming : HasAlarms flow defs merge f count) → AreReal start unit defs flow merge alarming.alarms) → (found : Analysis) → ((f : Findings) → found ≡ Safe f → IsSafeUnit start unit defs) → (is : IsAnalysis flow defs merge found)
      → analyses.MeansForRuns start unit defs flow merge found is
  found_means faults valid merge real (Safe f) safe is = safe f refl
  found_means faults valid merge real (Alarms f count) safe is =
      let chain = is.chain in
      (comes is.stuck (faults flow defs chain.cuts (states_of chain.heads) chain.rules is.stuck valid chain.pass), real f count is)
  found_means faults valid merge real (Paths document) safe is = tt
  found_means faults valid merge real Unknown safe is = tt

-- what is found, in the words of the command
pub found_here : (flow : Flow) (defs ds : List Def) (merge m : Bool) (found : Analysis) → ds ≡ defs → m ≡ merge → IsAnalysis flow ds m found → IsAnalysis flow defs merge found
found_here flow defs ds merge m found same also is =
    subst (λ (x : Bool). IsAnalysis flow defs x found) also (subst (λ (x : List Def). IsAnalysis flow x m found) same is)
