-- Alarms that carry answers of malloc are real.
use Rattle.std.proofs.Common.{◌≤◌, ◌<◌, ◌^◌, ℕ, List, [], ◌∷◌, sym, subst, arith}
use Rattle.std.specs.List.{AllByRecursion}
use Rattle.mc_flow.specs.Valid.{IsValid}
use Rattle.mc_flow.specs.declared.defs.rules.Def.{Def}
use Rattle.mc_flow.specs.declared.graph.Flow.{Flow}
use Rattle.mc_c_types.specs.Tables.{struct_infos}
use Rattle.mc_state.specs.Known.{Test, Tells}
use Rattle.mc_kernel.specs.Branches.{Path}
use Rattle.mc_kernel.specs.Oracle.Judges.{JudgesAreThere}
use Rattle.mc_exact.specs.Exact.{Picks}
use Rattle.mc_exact.specs.Made.{ExactStatesAreWellMade}
use Rattle.mc_exact.specs.Real.{answered}
use Rattle.mc_exact.specs.Scripts.{malloc_lines}
use Rattle.mc_exact.specs.Tracks.{IsExactTrack}
use Rattle.mc_run.specs.Interpret.Faults.{FaultsAreAnswered}
use Rattle.mc_real.specs.Marked.{MarkedAlarmsAreReal}
use Rattle.mc_real.specs.Real.{ExactAlarmsAreReached, FaultsInRun, IsRealGap}
use Rattle.mc_real.specs.Scripts.{MallocScriptsAreTaken}

-- something tells what is known at the end of an exact branch
known : JudgesAreThere → ExactStatesAreWellMade → (flow : Flow) (defs : List Def) (b : Path) (picks : Picks) → IsValid flow defs → IsExactTrack flow (b, picks) → (know : Test) × Tells know b.state
known judges made flow defs b picks valid exact =
    let judge = judges flow defs valid in
    (judge.0.know b.state, (judge.2.asked b (made flow defs (b, picks) valid exact)).given.tells)

-- small answers have 64 bits
all_small : (answers : List ℕ) → AllByRecursion (λ n. n ≤ 30000) answers → AllByRecursion (λ n. n < 2 ^ 64) answers
all_small [] small = tt
all_small (n ∷ answers) small = (let le = small.0 in omega arith, all_small answers small.1)

pub marked_alarms : JudgesAreThere → ExactStatesAreWellMade → ExactAlarmsAreReached → MallocScriptsAreTaken → FaultsAreAnswered → MarkedAlarmsAreReal
marked_alarms judges made reached taken interpreted entry unit defs g b answers is mark =
    let k = known judges made g.flow defs b mark.picks is.valid mark.track in
    let at : IsRealGap g.flow defs b mark.picks k.0 = record { exact = mark.track; known = k.1; gap = mark.gap; lacks = mark.unmet; no_shape = λ pred n e. mark.other (pred, n, e) } in
    let run = subst (λ (l : List ℕ). FaultsInRun unit entry defs g.flow b.point l) (sym (mark.answers_are k.0 k.1)) (reached unit entry defs g b mark.picks k.0 is at) in
    let soon = run.6 in
    record {
      point = run.1;
      is_its = run.5;
      kind = run.2;
      f = run.0;
      called = run.4;
      steps = run.3;
      faults = run.7;
      answered = λ fuel ending enough runs. interpreted unit entry defs run.0 answers (malloc_lines answers) run.3 fuel run.2 run.1.place ending is.typed run.4 run.7 (omega arith)
          (taken (struct_infos unit) answers (all_small answers mark.small)) runs;
    }
