-- Simple statements, declarators and shape commands go on together with their points.
use Rattle.std.proofs.Common.{◌<◌, ◌≤◌, ◌≡◌, inl, inr, ℕ, ℤ, ◌+ℤ◌, ◌-ℤ◌, List, [], ◌∷◌, Option, Some, None, length, refl, sym, subst, arith}
use Rattle.std.specs.Prelude.{slice_get, map}
use Rattle.mc_base.specs.declared.ids.PredId.{PredId}
use Rattle.mc_base.specs.declared.ids.VarId.{VarId}
use Rattle.mc_base.specs.declared.plain.FaultKind.{FaultKind}
use Rattle.mc_base.specs.declared.plain.FaultKind.TheVariants.{Shape, NotEmpty}
use Rattle.mc_flow.specs.Runs.{next, last as finished_run, fault}
use Rattle.mc_base.specs.declared.text.place.Place.{Place}
use Rattle.mc_flow.specs.Heap.Heap.{Heap, region_of}
use Rattle.mc_flow.specs.Heap.Adding.{with_blocks}
use Rattle.mc_flow.specs.Heap.Parts.{IsEmpty}
use Rattle.mc_flow.specs.Heap.Choices.{Choice, input as choose_input, malloc as choose_malloc, shape as choose_shape}
use Rattle.mc_flow.specs.Defs.Meaning.{HoldsSomewhere}
use Rattle.mc_flow.specs.Values.{value_of as operand_value, values_of, with_value, all_there}
use Rattle.mc_flow.specs.declared.instr.Operand.{Operand}
use Rattle.mc_flow.specs.declared.instr.Instr.TheVariants.{AssumeShape, AssertShape, AssertEmpty}
use Rattle.mc_flow.specs.Steps as flow
use Rattle.mc_semantics.specs.Resolved.Programs.{Left, Expr, Call, Right, expression, result_of, allocation, Argument, assume_shape, assert_shape, assert_empty}
use Rattle.mc_semantics.specs.Resolved.Configs.{Values, with_variable, perform, Tasks, task, Result}
use Rattle.mc_semantics.specs.Resolved.Steps.{Here, Step, Assigns as SourceAssigns, Combines, AddsShape, Assumes, Demands, Asserts, argument_value}
use Rattle.mc_lower_spec.specs.Graphs.{Graph, local, plain, Stage, point, IsPoint, IsMade, is_made}
use Rattle.mc_lower_spec.specs.Lowering.{Around, Assigns, assigns_variable, Changes as Combined, changes_variable, changes_field, IsArgument, AreArguments}
use Rattle.mc_lower_spec.specs.Values.{a_sum, a_difference}
use Rattle.mc_lower_spec.specs.Runs.{FlowStep}
use Rattle.mc_lower_spec.specs.Scopes.{IsIn}
use Rattle.mc_lower_spec.proofs.Simulating.{one, Alike, alike_next, alike_last, both_go, both_end, both_wait, both_choose}
use Rattle.mc_lower_spec.proofs.Stepping.{Vars, at, never_from, step_at, step_from}
use Rattle.mc_lower_spec.proofs.Stages.{goal_of, variables_of}
use Rattle.mc_lower_spec.proofs.Evaluating.{Agree}
use Rattle.mc_lower_spec.proofs.Changing.{IsClean}
use Rattle.mc_lower_spec.proofs.Performing.{Settable, Changes, nothing_set, one_set, IsPerformed, performed_waits, performed_faults, performed, assigning}
use Rattle.mc_lower_spec.proofs.Allocating.{allocating}
use Rattle.mc_lower_spec.proofs.Freeing.{adding, subtracting}
use Rattle.mc_lower_spec.proofs.Combining.{adding_field, subtracting_field}
use Rattle.mc_lower_spec.proofs.Arguing.{same_argument, same_arguments}
use Rattle.mc_lower_spec.proofs.Holding.{AreOnce, Limit, Frame, Held, IsUnder, set_held}
use Rattle.mc_lower_spec.proofs.Growing.{appended, undefined, on}
use Rattle.mc_lower_spec.proofs.Following.{IsWithin, frame_of, Follows, Match, match, held_raised}
use Rattle.mc_lower_spec.proofs.Pairing.{config, PairOf, here_of, does_step, step_does}

-- ---- what a statement may set
-- the function's variables that are in scope and made by then
abbrev pub Sets : Graph → Around → List ℕ → ℕ → Settable
Sets g c scope n x v = (slice_get g.owners v.0 ≡ Some (local c.out x)) × IsIn (length c.function.locals) scope x × (v.0 < n)

pub may_set : (g : Graph) (c : Around) (scope : List ℕ) (s : Stage) (n x : ℕ) (v : VarId) → IsIn (length c.function.locals) scope x → variables_of s ≤ n → IsMade g (local c.out x) v s → Sets g c scope n x v
may_set g c scope s n x v is_in less (is_made owned before) = (owned, is_in, omega (arith, before, less))

under_within : (v n : ℕ) (ls : List Limit) → v < n → IsWithin n ls → IsUnder v ls
under_within v n [] less within = tt
under_within v n (l ∷ ls) less within = (omega (arith, less, within.0), under_within v n ls less within.1)

pub changes_held : (g : Graph) (c : Around) (scope : List ℕ) (late : List Limit) (callers : List Frame) (k n : ℕ) (values later : Values) (vars now : Vars) → AreOnce g → IsWithin n late → k ≤ n
    → Changes (Sets g c scope n) values vars later now → Held g (frame_of c scope late k values ∷ callers) vars → Held g (frame_of c scope late n later ∷ callers) now
changes_held g c scope late callers k n values later vars now once within low nothing_set h = held_raised g c scope late callers k n values vars low h
changes_held g c scope late callers k n values later vars now once within low (one_set x v w may) h =
    set_held g (frame_of c scope late n values) callers vars x v w once may.0 may.1 (may.2, under_within v.0 n late may.2 within) (held_raised g c scope late callers k n values vars low h)

-- ---- statements that are one step
pub performed_by : {g : Graph} {c : Around} {scope : List ℕ} {late : List Limit} {callers : List Frame} {k n a b : ℕ} {rest : Tasks} {place : Place} {P : Result → Type 0} (tasks : Tasks) (values : Values) (vars : Vars) (heap : Heap) (choices : List Choice)
    → AreOnce g → ((r : Result) → P r → Step g.program (config tasks values heap) choices r) → ((r : Result) → Step g.program (config tasks values heap) choices r → P r)
    → IsPerformed g P rest (Sets g c scope n) place a b values vars heap choices
    → IsWithin n late → k ≤ n → Follows g c scope late callers n rest b → Held g (frame_of c scope late k values ∷ callers) vars → PairOf g (config tasks values heap) a vars heap choices
performed_by tasks values vars heap choices once into out (performed_waits never_source never) within low follows h = both_wait (λ r s. never_source r (out r s)) never
performed_by tasks values vars heap choices once into out (performed_faults kind is goes) within low follows h = both_end (into _ is) goes
performed_by {g} {c} {scope} {late} {callers} {k} {n} tasks values vars heap choices once into out (performed later now after left is goes changes) within low follows h =
    both_go (into _ is) goes (match follows (changes_held g c scope late callers k n values later vars now once within low changes h))

nothing_assigned : {g : Graph} {out : ℕ} {place : Place} {l : Left} {d : Call} {s u : Stage} → Assigns g out place l (result_of d) s u → ⊥
nothing_assigned (assigns_variable made sets) = elim sets [ ]

pub assign_performed : {g : Graph} {place : Place} {l : Left} {s u : Stage} (c : Around) (right : Right) (scope : List ℕ) (h : Here) (rest : Tasks) (n : ℕ) (vars : Vars) (choices : List Choice)
    → Assigns g c.out place l right s u → IsIn (length c.function.locals) scope l.variable → variables_of s ≤ n → IsClean g vars → length vars ≡ length g.owners → Agree g c.out h.values vars
    → IsPerformed g (λ r. SourceAssigns g.program h l right place rest choices r) rest (Sets g c scope n) place (goal_of s) (goal_of u) h.values vars h.heap choices
assign_performed {g} {l = l} {s = s} c (expression e) scope h rest n vars choices is is_in less clean long agree =
    assigning g.program h rest (Sets g c scope n) vars choices is (λ v made. may_set g c scope s n l.variable v is_in less made) clean long agree
assign_performed c (result_of d) scope h rest n vars choices is is_in less clean long agree = absurd (nothing_assigned is)
assign_performed {g} {l = l} {s = s} c (allocation shape fields) scope h rest n vars choices is is_in less clean long agree =
    allocating g.program h rest (Sets g c scope n) vars choices is (λ v made. may_set g c scope s n l.variable v is_in less made) clean long agree

pub add_performed : {g : Graph} {place : Place} {l : Left} {e : Expr} {s u : Stage} (c : Around) (scope : List ℕ) (h : Here) (rest : Tasks) (n : ℕ) (vars : Vars) (choices : List Choice)
    → Combined g c.out place a_sum l e s u → IsIn (length c.function.locals) scope l.variable → variables_of u ≤ n → IsClean g vars → length vars ≡ length g.owners → Agree g c.out h.values vars
    → IsPerformed g (λ r. Combines (λ a b. a +ℤ b) h l e place rest choices r) rest (Sets g c scope n) place (goal_of s) (goal_of u) h.values vars h.heap choices
add_performed {g} c scope h rest n vars choices (changes_variable {x = x} {v = v} {m = m} value made is undone) is_in less clean long agree =
    adding h rest (Sets g c scope n) vars choices value (may_set g c scope m n x v is_in (omega (arith, less, (on (appended is) (undefined undone)).variables)) made) made is undone clean long agree
add_performed {g} c scope h rest n vars choices (changes_field value made walk kind loads computes is undone) is_in less clean long agree =
    adding_field h rest (Sets g c scope n) vars choices value made walk loads computes is undone clean long agree

pub subtract_performed : {g : Graph} {place : Place} {l : Left} {e : Expr} {s u : Stage} (c : Around) (scope : List ℕ) (h : Here) (rest : Tasks) (n : ℕ) (vars : Vars) (choices : List Choice)
    → Combined g c.out place a_difference l e s u → IsIn (length c.function.locals) scope l.variable → variables_of u ≤ n → IsClean g vars → length vars ≡ length g.owners → Agree g c.out h.values vars
    → IsPerformed g (λ r. Combines (λ a b. a -ℤ b) h l e place rest choices r) rest (Sets g c scope n) place (goal_of s) (goal_of u) h.values vars h.heap choices
subtract_performed {g} c scope h rest n vars choices (changes_variable {x = x} {v = v} {m = m} value made is undone) is_in less clean long agree =
    subtracting h rest (Sets g c scope n) vars choices value (may_set g c scope m n x v is_in (omega (arith, less, (on (appended is) (undefined undone)).variables)) made) made is undone clean long agree
subtract_performed {g} c scope h rest n vars choices (changes_field value made walk kind loads computes is undone) is_in less clean long agree =
    subtracting_field h rest (Sets g c scope n) vars choices value made walk loads computes is undone clean long agree

-- ---- shapes
demand_pair : {g : Graph} {q a : ℕ} {rest : Tasks} (P : Type 0) (kind : FaultKind) (place : Place) (tasks : Tasks) (values : Values) (vars : Vars) (heap : Heap) (choices : List Choice)
    → ((r : Result) → Demands P kind (here_of values heap) rest place choices r → Step g.program (config tasks values heap) choices r)
    → ((r : Result) → Step g.program (config tasks values heap) choices r → Demands P kind (here_of values heap) rest place choices r)
    → ((r : flow.Result) → flow.Demands P kind (point q) place (at a vars heap) choices r → FlowStep g (at a vars heap) choices r)
    → ((r : flow.Result) → FlowStep g (at a vars heap) choices r → flow.Demands P kind (point q) place (at a vars heap) choices r)
    → Match g (config rest values heap) (at q vars heap) → PairOf g (config tasks values heap) a vars heap choices
demand_pair {g} {q} {a} {rest} P kind place tasks values vars heap choices into out into_flow out_flow later = both_choose (λ r s. forth r (out r s)) (λ r s. back r (out_flow r s))
  where
    forth : (r : Result) → Demands P kind (here_of values heap) rest place choices r → (s : flow.Result) × FlowStep g (at a vars heap) choices s × Alike (Match g) r s
    forth r (inl d) = (next (at q vars heap) choices, into_flow _ (inl (d.0, refl)), subst (λ z. Alike (Match g) z (next (at q vars heap) choices)) (sym d.1) (alike_next later))
    forth r (inr d) = (finished_run (fault kind place), into_flow _ (inr (d.0, refl)), subst (λ z. Alike (Match g) z (finished_run (fault kind place))) (sym d.1) alike_last)

    back : (s : flow.Result) → flow.Demands P kind (point q) place (at a vars heap) choices s → (r : Result) × Step g.program (config tasks values heap) choices r × Alike (Match g) r s
    back s (inl d) = (next (config rest values heap) choices, into _ (inl (d.0, refl)), subst (λ z. Alike (Match g) (next (config rest values heap) choices) z) (sym d.1) (alike_next later))
    back s (inr d) = (finished_run (fault kind place), into _ (inr (d.0, refl)), subst (λ z. Alike (Match g) (finished_run (fault kind place)) z) (sym d.1) alike_last)

pub empty_pair : {g : Graph} {q a : ℕ} {rest : Tasks} (place : Place) (values : Values) (vars : Vars) (heap : Heap) (choices : List Choice) → IsPoint g a plain place (AssertEmpty (point q))
    → Match g (config rest values heap) (at q vars heap) → PairOf g (config (task (perform (assert_empty place)) rest) values heap) a vars heap choices
empty_pair {g} {q} {a} {rest} place values vars heap choices is later =
    let tasks : Tasks = task (perform (assert_empty place)) rest in
    demand_pair (IsEmpty (region_of heap)) NotEmpty place tasks values vars heap choices (λ r d. does_step g tasks values heap choices r refl d) (λ r s. step_does g tasks values heap choices r refl s)
    (λ r d. step_at g a place (AssertEmpty (point q)) vars heap choices r is d) (λ r s. step_from g a place (AssertEmpty (point q)) vars heap choices r is s) later

assert_by : {g : Graph} {q a : ℕ} {rest : Tasks} (predicate : PredId) (place : Place) (tasks : Tasks) (values : Values) (vars : Vars) (heap : Heap) (choices : List Choice) (v : Option ℤ) (args : Option (List ℤ))
    → ((r : Result) → Asserts g.program.defs predicate (here_of values heap) rest place choices v args r → Step g.program (config tasks values heap) choices r)
    → ((r : Result) → Step g.program (config tasks values heap) choices r → Asserts g.program.defs predicate (here_of values heap) rest place choices v args r)
    → ((r : flow.Result) → flow.Asserts g.program.defs predicate (point q) place (at a vars heap) choices v args r → FlowStep g (at a vars heap) choices r)
    → ((r : flow.Result) → FlowStep g (at a vars heap) choices r → flow.Asserts g.program.defs predicate (point q) place (at a vars heap) choices v args r)
    → Match g (config rest values heap) (at q vars heap) → PairOf g (config tasks values heap) a vars heap choices
assert_by predicate place tasks values vars heap choices None args into out into_flow out_flow later = both_end (into _ refl) (one (into_flow _ refl))
assert_by predicate place tasks values vars heap choices (Some v) None into out into_flow out_flow later = both_end (into _ refl) (one (into_flow _ refl))
assert_by {g} predicate place tasks values vars heap choices (Some v) (Some args) into out into_flow out_flow later =
    demand_pair (HoldsSomewhere g.program.defs predicate v args (region_of heap)) Shape place tasks values vars heap choices into out into_flow out_flow later

pub assert_pair : {g : Graph} {q a : ℕ} {rest : Tasks} {s : Stage} {argument : Argument} {args : List Argument} {o : Operand} {os : List Operand} (c : Around) (predicate : PredId) (place : Place) (values : Values) (vars : Vars) (heap : Heap) (choices : List Choice)
    → IsArgument g c.out s argument o → AreArguments g c.out s args os → Agree g c.out values vars → IsPoint g a plain place (AssertShape predicate o os (point q))
    → Match g (config rest values heap) (at q vars heap) → PairOf g (config (task (perform (assert_shape place predicate argument args)) rest) values heap) a vars heap choices
assert_pair {g} {q} {a} {rest} {argument = argument} {args = args} {o = o} {os = os} c predicate place values vars heap choices value arguments agree is later =
    let tasks : Tasks = task (perform (assert_shape place predicate argument args)) rest in
    let e : argument_value values argument ≡ operand_value vars o = same_argument values vars value agree in
    let k : all_there (map (argument_value values) args) ≡ values_of vars os = same_arguments values vars arguments agree in
    assert_by predicate place tasks values vars heap choices (operand_value vars o) (values_of vars os)
    (λ r d. does_step g tasks values heap choices r refl
    (subst (λ z. Asserts g.program.defs predicate (here_of values heap) rest place choices z (all_there (map (argument_value values) args)) r) (sym e)
    (subst (λ z. Asserts g.program.defs predicate (here_of values heap) rest place choices (operand_value vars o) z r) (sym k) d)))
    (λ r s. subst (λ z. Asserts g.program.defs predicate (here_of values heap) rest place choices (operand_value vars o) z r) k
    (subst (λ z. Asserts g.program.defs predicate (here_of values heap) rest place choices z (all_there (map (argument_value values) args)) r) e
    (step_does g tasks values heap choices r refl s)))
    (λ r d. step_at g a place (AssertShape predicate o os (point q)) vars heap choices r is d) (λ r s. step_from g a place (AssertShape predicate o os (point q)) vars heap choices r is s) later

-- blocks of a shape are a choice
add_pair : {g : Graph} {q a : ℕ} {rest : Tasks} (predicate : PredId) (args : List ℤ) (x : ℕ) (v : VarId) (place : Place) (tasks : Tasks) (values : Values) (vars : Vars) (heap : Heap) (choices : List Choice)
    → ((r : Result) → AddsShape g.program.defs predicate args (here_of values heap) x rest place choices r → Step g.program (config tasks values heap) choices r)
    → ((r : Result) → Step g.program (config tasks values heap) choices r → AddsShape g.program.defs predicate args (here_of values heap) x rest place choices r)
    → ((r : flow.Result) → flow.AddsShape g.program.defs predicate args v (point q) (at a vars heap) choices r → FlowStep g (at a vars heap) choices r)
    → ((r : flow.Result) → FlowStep g (at a vars heap) choices r → flow.AddsShape g.program.defs predicate args v (point q) (at a vars heap) choices r)
    → ((w : ℤ) (later : Heap) → Match g (config rest (with_variable values x (Some w)) later) (at q (with_value vars v (Some w)) later)) → PairOf g (config tasks values heap) a vars heap choices
add_pair {g} {a = a} predicate args x v place tasks values vars heap [] into out into_flow out_flow later = both_wait (λ r s. out r s) (never_from g (at a vars heap) [] (λ r s. out_flow r s))
add_pair {g} {a = a} predicate args x v place tasks values vars heap (choose_input w ∷ choices) into out into_flow out_flow later = both_wait (λ r s. out r s) (never_from g (at a vars heap) (choose_input w ∷ choices) (λ r s. out_flow r s))
add_pair {g} {a = a} predicate args x v place tasks values vars heap (choose_malloc n ∷ choices) into out into_flow out_flow later = both_wait (λ r s. out r s) (never_from g (at a vars heap) (choose_malloc n ∷ choices) (λ r s. out_flow r s))
add_pair {g} {q} {a} {rest} predicate args x v place tasks values vars heap (choose_shape w blocks ∷ choices) into out into_flow out_flow later =
    let source : Result = next (config rest (with_variable values x (Some w)) (with_blocks heap blocks)) choices in
    let lowered : flow.Result = next (at q (with_value vars v (Some w)) (with_blocks heap blocks)) choices in
    both_choose
    (λ r s. let d = out r s in (lowered, into_flow lowered (d.0, d.1, refl), subst (λ z. Alike (Match g) z lowered) (sym d.2) (alike_next (later w (with_blocks heap blocks)))))
    (λ r s. let d = out_flow r s in (source, into source (d.0, d.1, refl), subst (λ z. Alike (Match g) source z) (sym d.2) (alike_next (later w (with_blocks heap blocks)))))

assume_by : {g : Graph} {q a : ℕ} {rest : Tasks} (predicate : PredId) (x : ℕ) (v : VarId) (place : Place) (tasks : Tasks) (values : Values) (vars : Vars) (heap : Heap) (choices : List Choice) (args : Option (List ℤ))
    → ((r : Result) → Assumes g.program.defs predicate (here_of values heap) x rest place choices args r → Step g.program (config tasks values heap) choices r)
    → ((r : Result) → Step g.program (config tasks values heap) choices r → Assumes g.program.defs predicate (here_of values heap) x rest place choices args r)
    → ((r : flow.Result) → flow.Assumes g.program.defs predicate v (point q) place (at a vars heap) choices args r → FlowStep g (at a vars heap) choices r)
    → ((r : flow.Result) → FlowStep g (at a vars heap) choices r → flow.Assumes g.program.defs predicate v (point q) place (at a vars heap) choices args r)
    → ((w : ℤ) (later : Heap) → Match g (config rest (with_variable values x (Some w)) later) (at q (with_value vars v (Some w)) later)) → PairOf g (config tasks values heap) a vars heap choices
assume_by predicate x v place tasks values vars heap choices None into out into_flow out_flow later = both_end (into _ refl) (one (into_flow _ refl))
assume_by predicate x v place tasks values vars heap choices (Some args) into out into_flow out_flow later = add_pair predicate args x v place tasks values vars heap choices into out into_flow out_flow later

pub assume_pair : {g : Graph} {q a : ℕ} {rest : Tasks} {s : Stage} {args : List Argument} {os : List Operand} (c : Around) (predicate : PredId) (x : ℕ) (v : VarId) (place : Place) (values : Values) (vars : Vars) (heap : Heap) (choices : List Choice)
    → AreArguments g c.out s args os → Agree g c.out values vars → IsPoint g a plain place (AssumeShape predicate v os (point q))
    → ((w : ℤ) (later : Heap) → Match g (config rest (with_variable values x (Some w)) later) (at q (with_value vars v (Some w)) later))
    → PairOf g (config (task (perform (assume_shape place predicate x args)) rest) values heap) a vars heap choices
assume_pair {g} {q} {a} {rest} {args = args} {os = os} c predicate x v place values vars heap choices arguments agree is later =
    let tasks : Tasks = task (perform (assume_shape place predicate x args)) rest in
    let k : all_there (map (argument_value values) args) ≡ values_of vars os = same_arguments values vars arguments agree in
    assume_by predicate x v place tasks values vars heap choices (values_of vars os)
    (λ r d. does_step g tasks values heap choices r refl (subst (λ z. Assumes g.program.defs predicate (here_of values heap) x rest place choices z r) (sym k) d))
    (λ r s. subst (λ z. Assumes g.program.defs predicate (here_of values heap) x rest place choices z r) k (step_does g tasks values heap choices r refl s))
    (λ r d. step_at g a place (AssumeShape predicate v os (point q)) vars heap choices r is d) (λ r s. step_from g a place (AssumeShape predicate v os (point q)) vars heap choices r is s) later
