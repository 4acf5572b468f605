-- Chains of one pass, and final legal chains of several.
use Rattle.std.proofs.Common.{◌≡◌, ◌∙◌, ℕ, Bool, List, sym, ap, length}
use Rattle.mc_flow.specs.declared.defs.rules.Def.{Def}
use Rattle.mc_flow.specs.declared.graph.Flow.{Flow}
use Rattle.mc_flow.specs.Valid.{IsValid}
use Rattle.mc_state.specs.Known.{Test}
use Rattle.mc_state.specs.State.{State}
use Rattle.mc_kernel.specs.Branches.{Path}
use Rattle.mc_find.specs.Analysis.Findings.{HasAlarms}
use Rattle.mc_find.specs.declared.analysis.analysis.Findings.{Findings}
use Rattle.mc_joins.specs.Chains.Chains.{KnowsStates}
use Rattle.mc_joins.specs.Chains.Judges.{Reading}
use Rattle.mc_joins.specs.Chains.Laws.{FinalChainFindsFaults}
use Rattle.mc_joins.specs.Chains.ReadLaws.{LegalChainsAreOne, ShortChainsAreLegal}
use Rattle.mc_judge.specs.declared.judge.verdict.Verdict.{Verdict}
use Rattle.mc_judge.specs.declared.judge.verdict.Verdict.TheVariants.{Alarms}
use Rattle.mc_judge.specs.Judge.Verdicts.{Tells}
use Rattle.mc_app.specs.Documents.{AlarmsAreFound}

module _ (flow : Flow) (defs : List Def) (know : State → Test) (knows : KnowsStates flow defs know) where
  -- the alarms that are said of a final legal chain are found
  pub alarms_found : FinalChainFindsFaults → LegalChainsAreOne → IsValid flow defs → (text : List ℕ) (v : Verdict) → Tells flow defs text v → AlarmsAreFound flow defs text v
  alarms_found faults one valid text v told count e =
      let said = (told.alarms know count knows).0 e in
      let lines = said.lines in
      let c = said.holds.0 in (
        c.stuck,
        record {
          lines = lines;
          spelled = said.spelled;
          known = (know, knows);
          final = λ other knows_too.
              let d = one know other flow defs lines valid knows knows_too c in
              record {
                chain = d.0;
                final = ap (λ (r : Reading). r.changed) d.1 ∙ said.holds.1;
                stuck_are = ap (λ (r : Reading). r.stuck) d.1;
              };
        },
        sym said.holds.2,
        faults know flow defs lines c valid knows said.holds.1,
      )

  -- and those that an analysis has found are said of its document
  pub alarms_said : ShortChainsAreLegal → (merge : Bool) (f : Findings) (count : ℕ) (v : Verdict) → HasAlarms flow defs merge f count → Tells flow defs f.document.items v → v ≡ Alarms count
  alarms_said legal merge f count v found told =
      let short = (legal know flow defs found.lines found.stuck).0 found.chain in
      (told.alarms know count knows).1 (record {
        lines = found.lines;
        spelled = found.spelled;
        holds = (short.chain, short.final, ap (λ (l : List Path). length l) short.stuck_are ∙ sym found.counted, found.some);
      })
