-- Runs of a program and of its flow graph match.
use Rattle.std.proofs.Common.{◌<◌, ◌≤◌, ◌≡◌, ℕ, zero, suc, List, [], ◌∷◌, Option, None, length, refl, sym, ap, ◌∙◌, subst, arith}
use Rattle.std.specs.Prelude.{◌↔◌, slice_index_or, replicate}
use Rattle.mc_flow.specs.Runs.{next, Reaches}
use Rattle.mc_flow.specs.Steps as flow
use Rattle.mc_semantics.specs.Resolved.Configs.{held}
use Rattle.mc_semantics.specs.Resolved.Programs.{Function, Local}
use Rattle.mc_semantics.specs.Resolved.Steps as resolved
use Rattle.mc_semantics.specs.Resolved.Steps.{passed}
use Rattle.mc_lower_spec.specs.Graphs.{Graph, plain, Stage, stage, nowhere, IsPoint, appends, creates}
use Rattle.mc_lower_spec.specs.Lowering.{in_body, LowersAll, Answers, answers_none, answers, Falls, falls_in_main, falls, Makes, makes, IsLowering}
use Rattle.mc_lower_spec.specs.Runs.{ComesTo, FaultsMatch, FlowStep, RunsMatch}
use Rattle.mc_lower_spec.specs.Scopes.{IsScoped, AreScoped}
use Rattle.mc_lower_spec.proofs.Faulting.{faults_match}
use Rattle.mc_lower_spec.proofs.Simulating.{alike, longer, left_of_one}
use Rattle.mc_lower_spec.proofs.SourceOnce.{source_once}
use Rattle.mc_lower_spec.proofs.FlowOnce.{flow_once}
use Rattle.mc_lower_spec.proofs.Stepping.{Vars, at}
use Rattle.mc_lower_spec.proofs.Stages.{goal_of, points_of}
use Rattle.mc_lower_spec.proofs.Holding.{Held}
use Rattle.mc_lower_spec.proofs.Growing.{appended}
use Rattle.mc_lower_spec.proofs.Following.{Match, match, over, frame_of, follows_in_a_row, no_late, weight}
use Rattle.mc_lower_spec.proofs.Pairing.{skip_step}
use Rattle.mc_lower_spec.proofs.Forms.{pairs}

-- ---- where both begin
nothing_passed : (locals : List Local) (x : ℕ) → held (passed 0 locals []) x ≡ None
nothing_passed [] x = refl
nothing_passed (l ∷ locals) zero = refl
nothing_passed (l ∷ locals) (suc x) = nothing_passed locals x

length_passed : (locals : List Local) → length (passed 0 locals []) ≡ length locals
length_passed [] = refl
length_passed (l ∷ locals) = ap suc (length_passed locals)

abbrev undefined_vars : ℕ → Vars
undefined_vars n = replicate n None

undefined_all : (n v : ℕ) → slice_index_or (undefined_vars n) v None ≡ None
undefined_all zero v = refl
undefined_all (suc n) zero = refl
undefined_all (suc n) (suc v) = undefined_all n v

length_all : (n : ℕ) → length (undefined_vars n) ≡ n
length_all zero = refl
length_all (suc n) = ap suc (length_all n)

begins_held : (g : Graph) (f : Function) (out k : ℕ) (scope : List ℕ) → length g.flow.vars ≡ length g.owners
    → Held g (frame_of (in_body f out) scope [] k (passed 0 f.locals []) ∷ []) (replicate (length g.flow.vars) None)
begins_held g f out k scope same = record {
  all = (
    record {
      agree = record { same = λ x v owned. nothing_passed f.locals x ∙ sym (undefined_all (length g.flow.vars) v) };
      long = length_passed f.locals;
      scoped = λ x absent. nothing_passed f.locals x;
      late = (no_late g out (passed 0 f.locals []) k, tt);
      quiet = λ kind is v owned. undefined_all (length g.flow.vars) v;
    },
    tt,
  );
  nested = (tt, tt);
  clear = λ v o x owned none. undefined_all (length g.flow.vars) v;
  clean = λ v j kind owned. undefined_all (length g.flow.vars) v.0;
  long = length_all (length g.flow.vars) ∙ same;
}

-- ---- the body of the entry
falls_bound : {g : Graph} {f : Function} {out : ℕ} {s u : Stage} → Falls g f out s u → points_of s ≤ points_of u
falls_bound (falls_in_main main made is) = (appended is).points
falls_bound (falls no_main) = omega arith

answers_goal : {g : Graph} {out : ℕ} {kind : Option Rattle.mc_base.specs.declared.plain.Kind.Kind} {s u : Stage} → Answers g out kind s u → goal_of s ≡ goal_of u
answers_goal answers_none = refl
answers_goal (answers (creates owned info)) = refl

body_match : {g : Graph} {entry : Function} {out k : ℕ} {m n : Stage} → length g.flow.vars ≡ length g.owners → (scoped : IsScoped entry)
    → LowersAll g (in_body entry out) entry.body m n → Falls g entry out n (stage out out k) → IsPoint g out plain nowhere Rattle.mc_flow.specs.declared.instr.Instr.TheVariants.End
    → Match g (resolved.start entry) (at (goal_of m) (replicate (length g.flow.vars) None) Rattle.std.specs.FinMap.empty)
body_match {g} {entry} {out} {n = n} same scoped body fall ends =
    match (follows_in_a_row entry.body 0 body scoped.body (falls_bound fall) tt (omega arith) (over fall refl ends)) (begins_held g entry out 0 scoped.own same)

made_match : {g : Graph} {entry : Function} {out count : ℕ} → length g.flow.vars ≡ length g.owners → Rattle.mc_lower_spec.proofs.Holding.AreOnce g → AreScoped g.program → IsScoped entry → Makes g entry out count → RunsMatch g entry
made_match {g} {entry} same once all_scoped scoped (makes {out = out} (appends {b = b} begin) result body fall ends) choices final =
    let start : flow.Config = at b (replicate (length g.flow.vars) None) Rattle.std.specs.FinMap.empty in
    let step : FlowStep g (flow.start g.flow) choices (next start choices) = skip_step g 0 b plain nowhere (replicate (length g.flow.vars) None) Rattle.std.specs.FinMap.empty choices begin tt in
    let there : Match g (resolved.start entry) start =
    subst (λ z. Match g (resolved.start entry) (at z (replicate (length g.flow.vars) None) Rattle.std.specs.FinMap.empty)) (sym (answers_goal result)) (body_match same scoped body fall ends) in
    let both : ComesTo (resolved.Step g.program) (resolved.start entry) choices final ↔ ComesTo (FlowStep g) start choices final =
    alike (resolved.Step g.program) (FlowStep g) (Match g) (λ c. weight g c.tasks) (source_once g.program) (flow_once g) (pairs g once all_scoped) (resolved.start entry) start choices final there in (
      λ run. longer (FlowStep g) final step (both.0 run),
      λ run.
          let left : (m : ℕ) × (m < run.0) × Reaches (FlowStep g) m start choices final = left_of_one (FlowStep g) (flow_once g) (flow.start g.flow) choices (next start choices) run.0 final step run.1 in
          both.1 (left.0, left.2),
    )

pub runs_match : (g : Graph) (entry : Function) (out count : ℕ) → IsLowering g entry out count → AreScoped g.program → RunsMatch g entry
runs_match g entry out count l all_scoped = made_match (l.variables ∙ sym l.owners) l.once all_scoped (all_scoped g.program.entry entry l.there) l.made

-- a fault of the program is one of its flow graph
pub lowered_faults : (g : Graph) (entry : Function) (out count : ℕ) → IsLowering g entry out count → AreScoped g.program → FaultsMatch g entry
lowered_faults g entry out count l all_scoped = faults_match g entry (runs_match g entry out count l all_scoped)
