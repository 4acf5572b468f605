-- Simple statements and declarators, with calls or without, go on together with their points.
use Rattle.std.proofs.Common.{◌≤◌, ◌+◌, ◌≡◌, ℕ, suc, List, [], ◌∷◌, Some, None, length, refl, sym, subst, arith}
use Rattle.mc_base.specs.declared.ids.VarId.{VarId}
use Rattle.mc_flow.specs.Runs.{next}
use Rattle.mc_base.specs.declared.text.place.Place.{Place}
use Rattle.mc_flow.specs.Heap.Heap.{Heap}
use Rattle.mc_flow.specs.Heap.Choices.{Choice}
use Rattle.mc_flow.specs.Values.{with_value}
use Rattle.mc_flow.specs.declared.instr.Instr.TheVariants.{Undef}
use Rattle.mc_semantics.specs.Resolved.Programs.{Action, assign, Initial, declaration}
use Rattle.mc_semantics.specs.Resolved.Configs as source
use Rattle.mc_semantics.specs.Resolved.Configs.{Values, with_variable, perform, Tasks, task, Result}
use Rattle.mc_semantics.specs.Resolved.Steps.{Step, Performs as SourcePerforms}
use Rattle.mc_lower_spec.specs.Graphs.{Graph, Stage, point, var, appends, Creates, creates}
use Rattle.mc_lower_spec.specs.Lowering.{Around, Performs, performs_assign, performs_result, performs_add, performs_subtract, performs_call, Declares, declares_none, declares_undefined, declares_value, declarations}
use Rattle.mc_lower_spec.specs.Scopes.{WritesIn, DeclareIn, AreScoped}
use Rattle.mc_lower_spec.proofs.Simulating.{one, both_go}
use Rattle.mc_lower_spec.proofs.Stepping.{Vars, at, step_at}
use Rattle.mc_lower_spec.proofs.Stages.{goal_of, points_of, variables_of}
use Rattle.mc_lower_spec.proofs.Performing.{one_set}
use Rattle.mc_lower_spec.proofs.Holding.{AreOnce, Limit, Frame, Held}
use Rattle.mc_lower_spec.proofs.Growing.{declared, undefined, performed as grown}
use Rattle.mc_lower_spec.proofs.Following.{takes_stored, wants_nothing, wants, IsWithin, within_less, frame_of, Follows, performs, match, held_raised, action_weight, calls_at, weight, deep, call_heavy}
use Rattle.mc_lower_spec.proofs.Pairing.{config, PairOf, here_of, does_step, step_does, source_moved}
use Rattle.mc_lower_spec.proofs.Acting.{changes_held, performed_by, assign_performed, add_performed, subtract_performed}
use Rattle.mc_lower_spec.proofs.Beginning.{call_pair}

pub simple_pair : {g : Graph} {c : Around} {scope : List ℕ} {late : List Limit} {callers : List Frame} {k : ℕ} {place : Place} {action : Action} {rest : Tasks} {s u : Stage} (tasks : Tasks) (values : Values) (vars : Vars) (heap : Heap) (choices : List Choice)
    → AreOnce g → AreScoped g.program → Performs g c.out place action s u → WritesIn (length c.function.locals) scope action
    → action_weight (calls_at g rest) action + weight g rest ≤ weight g tasks
    → ((r : Result) → SourcePerforms g.program (here_of values heap) action place rest choices r → Step g.program (config tasks values heap) choices r)
    → ((r : Result) → Step g.program (config tasks values heap) choices r → SourcePerforms g.program (here_of values heap) action place rest choices r)
    → points_of u ≤ c.out → IsWithin (variables_of u) late → k ≤ variables_of u → Follows g c scope late callers (variables_of u) rest (goal_of u) → Held g (frame_of c scope late k values ∷ callers) vars
    → PairOf g (config tasks values heap) (goal_of s) vars heap choices
simple_pair {g} {c} {scope} {rest = rest} {u = u} tasks values vars heap choices once all_scoped (performs_assign {right = right} is) is_in heavy into out bound within low later h =
    performed_by tasks values vars heap choices once into out
    (assign_performed c right scope (here_of values heap) rest (variables_of u) vars choices is is_in (grown (performs_assign is)).variables h.clean h.long h.all.0.agree) within low later h
simple_pair {g} {c} {scope} {rest = rest} {u = u} tasks values vars heap choices once all_scoped (performs_result inner puts undone) is_in heavy into out bound within low later h =
    let ends = undefined undone in
    let stores = Rattle.mc_lower_spec.proofs.Growing.put puts in
    call_pair tasks values vars heap choices once all_scoped (λ e. absurd (cc)) inner into out (wants (takes_stored puts undone is_in ends.variables)) (omega (arith, bound, ends.points, stores.points)) low within later h
simple_pair {g} {c} {scope} {rest = rest} {u = u} tasks values vars heap choices once all_scoped (performs_add changes) is_in heavy into out bound within low later h =
    performed_by tasks values vars heap choices once into out
    (add_performed c scope (here_of values heap) rest (variables_of u) vars choices changes is_in (omega arith) h.clean h.long h.all.0.agree) within low later h
simple_pair {g} {c} {scope} {rest = rest} {u = u} tasks values vars heap choices once all_scoped (performs_subtract changes) is_in heavy into out bound within low later h =
    performed_by tasks values vars heap choices once into out
    (subtract_performed c scope (here_of values heap) rest (variables_of u) vars choices changes is_in (omega arith) h.clean h.long h.all.0.agree) within low later h
simple_pair {g} {c} {rest = rest} tasks values vars heap choices once all_scoped (performs_call {c = d} inner) is_in heavy into out bound within low later h =
    call_pair tasks values vars heap choices once all_scoped
    (λ e f is. let there = deep later in let more_than = call_heavy g f d.function values source.nowhere rest is (omega (arith, there)) in omega (arith, heavy, more_than)) inner into out wants_nothing bound low within later h

-- ---- declarators
pub declare_pair : {g : Graph} {c : Around} {scope : List ℕ} {late : List Limit} {callers : List Frame} {k : ℕ} {place : Place} {items : List Initial} {rest : Tasks} {s u : Stage} (values : Values) (vars : Vars) (heap : Heap) (choices : List Choice)
    → AreOnce g → AreScoped g.program → Declares g c.function c.out place items s u → DeclareIn (length c.function.locals) scope items → points_of u ≤ c.out → IsWithin (variables_of u) late → k ≤ variables_of s
    → Follows g c scope late callers (variables_of u) rest (goal_of u) → Held g (frame_of c scope late k values ∷ callers) vars
    → PairOf g (config (task (perform (declaration place items)) rest) values heap) (goal_of s) vars heap choices
declare_pair {g} {c} {scope} {late} {callers} {k} {place} {rest = rest} {s = s} values vars heap choices once all_scoped declares_none scoped bound within low follows h =
    source_moved (task (perform (declaration place [])) rest) rest values values choices refl (match follows (held_raised g c scope late callers k (variables_of s) values vars low h)) (omega arith)
declare_pair {g} {c} {scope} {late} {callers} {k} {place} {rest = rest} {u = u} values vars heap choices once all_scoped (declares_undefined {x = x} {items = items} is (creates {n = m} {k = i} owned info) (appends {n = n} {b = b} point_is) more) scoped bound within low follows h =
    let v : VarId = var i in
    let tasks : Tasks = task (perform (declaration place (record { variable = x; value = None } ∷ items))) rest in
    let later : Tasks = task (perform (declaration place items)) rest in
    let grew = declared more in
    let near : IsWithin (suc i) late = within_less (suc i) (variables_of u) late grew.variables within in
    both_go (does_step g tasks values heap choices (next (config later (with_variable values x None) heap) choices) refl refl)
    (one (step_at g n place (Undef (v ∷ []) (point b)) vars heap choices (next (at b (with_value vars v None) heap) choices) point_is refl))
    (match (performs (declarations more) scoped.1 bound within (omega arith) follows)
    (changes_held g c scope late callers k (suc i) values (with_variable values x None) vars (with_value vars v None) once near (omega (arith, low)) (one_set x v None (owned, scoped.0, omega arith)) h))
declare_pair {g} {c} {scope} {late} {callers} {k} {place} {rest = rest} {u = u} values vars heap choices once all_scoped (declares_value {x = x} {right = right} {items = items} {n = n} is makes does more) scoped bound within low follows h =
    let tasks : Tasks = task (perform (declaration place (record { variable = x; value = Some right } ∷ items))) rest in
    let later : Tasks = task (perform (declaration place items)) rest in
    let near : IsWithin (variables_of n) late = within_less (variables_of n) (variables_of u) late (declared more).variables within in
    subst (λ a. PairOf g (config tasks values heap) a vars heap choices) (sym (same_goal makes))
    (simple_pair {action = assign (record { variable = x; fields = [] }) right} {rest = later} tasks values vars heap choices once all_scoped does scoped.0 (omega arith) (λ r d. does_step g tasks values heap choices r refl d) (λ r d. step_does g tasks values heap choices r refl d)
    (omega (arith, bound, (declared more).points)) near (omega (arith, low, more_variables makes, (grown does).variables)) (performs (declarations more) scoped.1 bound within (omega arith) follows) h)
  where
    same_goal : {owner : Rattle.mc_lower_spec.specs.Graphs.Owner} {info : Rattle.mc_base.specs.declared.plain.VarInfo.VarInfo} {i j : Stage} {v : VarId} → Creates g owner info i v j → goal_of i ≡ goal_of j
    same_goal (creates owned info) = refl

    more_variables : {owner : Rattle.mc_lower_spec.specs.Graphs.Owner} {info : Rattle.mc_base.specs.declared.plain.VarInfo.VarInfo} {i j : Stage} {v : VarId} → Creates g owner info i v j → variables_of i ≤ variables_of j
    more_variables (creates owned info) = omega arith
