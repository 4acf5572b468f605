-- Each form of statement and of task goes on together with its points.
use Rattle.std.proofs.Common.{◌<◌, ◌≤◌, ◌≡◌, ◌++◌, ℕ, ℤ, List, [], ◌∷◌, Option, Some, None, length, refl, sym, ap, ◌∙◌, subst, arith}
use Rattle.std.specs.Prelude.{slice_get, slice_index_or}
use Rattle.std.proofs.lemmas.Option.{slice_get_within}
use Rattle.mc_base.specs.declared.ids.VarId.{VarId}
use Rattle.mc_flow.specs.Runs.{next, last as finished_run, ended}
use Rattle.mc_base.specs.declared.text.place.Place.{Place}
use Rattle.mc_flow.specs.Heap.Heap.{Heap}
use Rattle.mc_flow.specs.Heap.Choices.{Choice}
use Rattle.mc_flow.specs.Values.{with_value}
use Rattle.mc_flow.specs.declared.instr.Instr.TheVariants.{Copy, End}
use Rattle.mc_semantics.specs.Values.{fault_of, value_of}
use Rattle.mc_semantics.specs.Resolved.Programs.{Expr, Right, expression, result_of, allocation, Stmt, block, empty, simple, free, assert, assume, if_only, if_else, while_loop, do_loop, for_loop, returns}
use Rattle.mc_semantics.specs.Resolved.Configs.{Values, with_variable, perform, test, end_block, end_loop, end_turn, Tasks, done, task, go_on, fails, stops}
use Rattle.mc_semantics.specs.Resolved.Moves.{in_a_row, started}
use Rattle.mc_semantics.specs.Resolved.Steps.{Step, Returns, gone_back}
use Rattle.mc_lower_spec.specs.Graphs.{Graph, Owner, result, plain, Stage, stage, point, nowhere, IsPoint, appends, IsMade, is_made}
use Rattle.mc_lower_spec.specs.Lowering.{Around, SetsTo, sets_allocated, Lowers, declarations, blocks, empties, simples, frees, asserts, assumes, shapes_assumed, shapes_asserted, emptiness_asserted, ifs, ifs_else, whiles, dos, fors, breaks, continues, returns_nothing, returns_value, returns_result}
use Rattle.mc_lower_spec.specs.Lowering.{Falls, falls_in_main, falls, finishes_none}
use Rattle.mc_lower_spec.specs.Runs.{FlowStep}
use Rattle.mc_lower_spec.specs.Scopes.{IsScopedIn, AreScoped}
use Rattle.mc_lower_spec.proofs.Simulating.{Goes, one, more, both_end, both_wait}
use Rattle.mc_lower_spec.proofs.Stepping.{Vars, at, step_at}
use Rattle.mc_lower_spec.proofs.Stages.{goal_of, points_of, variables_of}
use Rattle.mc_lower_spec.proofs.Evaluating.{not_temporary, set_here}
use Rattle.mc_lower_spec.proofs.Setting.{Uses, IsSet, set_waits, set_faults, set_gives, setting}
use Rattle.mc_lower_spec.proofs.Allocating.{IsAllocated, allocated_waits, allocated, allocates}
use Rattle.mc_lower_spec.proofs.Freeing.{freeing}
use Rattle.mc_lower_spec.proofs.Performing.{one_set}
use Rattle.mc_lower_spec.proofs.Holding.{AreOnce, Limit, Frame, Held}
use Rattle.mc_lower_spec.proofs.Growing.{appended, undefined, left, tested, tested_perhaps, lowered, started as start_grown, finished as last_grown}
use Rattle.mc_lower_spec.proofs.Following.{no_skip, skip_ahead, asks, IsLoop, is_loop, IsWithin, within_less, frame_of, outer_limits, loop_tasks, Follows, over, performs, skips, raises, ends_block, agains, ends_turn, ends_loop, ends_call, takes_stored, takes_returned, wants, leads, leads_to_fault, leads_to_stop, Match, match, match_test, match_always, match_taking, match_end, weight, weight_in_a_row, follows_in_a_row, held_raised}
use Rattle.mc_lower_spec.proofs.Entering.{block_entered, loop_entered}
use Rattle.mc_lower_spec.proofs.Walking.{ToOut, to_out}
use Rattle.mc_lower_spec.proofs.Pairing.{config, PairOf, here_of, does_step, step_does, source_moved, skips_pair, exits_pair, block_pair, test_pair, always_pair}
use Rattle.mc_lower_spec.proofs.Acting.{Sets, may_set, changes_held, performed_by, empty_pair, assert_pair, assume_pair}
use Rattle.mc_lower_spec.proofs.Leaving.{ending, ending_set}
use Rattle.mc_lower_spec.proofs.Calling.{end_call_pair, out_pair, nothing_pair, stored_pair}
use Rattle.mc_lower_spec.proofs.Beginning.{call_pair, returned_pair}
use Rattle.mc_lower_spec.proofs.Declaring.{simple_pair, declare_pair}
use Rattle.mc_lower_spec.proofs.Looping.{relimited, again_pair, turn_pair, break_pair, continue_pair, perhaps_asks, exits_of, exits_nothing, starts_follow, started_weight}

-- ---- `return` with a value
-- the variable for the result of a function that runs
its_result : (g : Graph) (out : ℕ) (v : VarId) (w : Option ℤ) (vars : Vars) → AreOnce g → slice_get g.owners v.0 ≡ Some (result out) → length vars ≡ length g.owners → (u : ℕ) → slice_get g.owners u ≡ Some (result out)
    → slice_index_or (with_value vars v w) u None ≡ w
its_result g out v w vars once owned long u owns =
    let within : v.0 < length g.owners = slice_get_within g.owners v.0 (result out) owned in
    ap (λ z. slice_index_or (with_value vars v w) z None) (once (result out) u v.0 owns owned) ∙ set_here vars v w (omega (arith, within, long))

-- the value was put there
value_pair : {g : Graph} {scope : List ℕ} {late : List Limit} {callers : List Frame} {k a : ℕ} {rest : Tasks} (c : Around) (v : VarId) (tasks : Tasks) (u : ℤ) (values : Values) (vars : Vars) (heap after : Heap) (choices others : List Choice)
    → AreOnce g → slice_get g.owners v.0 ≡ Some (result c.out) → ToOut g c.function c.out late callers rest → Step g.program (config tasks values heap) choices (gone_back after rest (Some u) others)
    → Goes (FlowStep g) (at a vars heap) choices (next (at c.out (with_value vars v (Some u)) after) others) → Held g (frame_of c scope late k values ∷ callers) vars
    → PairOf g (config tasks values heap) a vars heap choices
value_pair {g} {scope} {late} {callers} {k} c v tasks u values vars heap after choices others once owned t step goes h =
    let frame : Frame = frame_of c scope late k values in
    out_pair (config tasks values heap) frame (Some u) vars (with_value vars v (Some u)) heap after choices others refl refl t h.all.0.late.1 step goes
    (λ m late_of. ending_set g frame callers m vars v (Some u) owned (ending g frame callers m vars late_of h))
    (λ kind is_kind n owns. its_result g c.out v (Some u) vars once owned h.long n owns)

set_returned : {g : Graph} {scope : List ℕ} {late : List Limit} {callers : List Frame} {k a : ℕ} {rest : Tasks} {place : Place} {v : VarId} (c : Around) (right : Right) (values : Values) (vars : Vars) (heap : Heap) (choices : List Choice)
    → AreOnce g → slice_get g.owners v.0 ≡ Some (result c.out) → ToOut g c.function c.out late callers rest → Held g (frame_of c scope late k values ∷ callers) vars
    → IsSet g (λ r. Returns g.program (here_of values heap) (Some right) rest place choices r) (λ u others. gone_back heap rest (Some u) others) place v a c.out vars heap choices
    → PairOf g (config (task (perform (returns place (Some right))) rest) values heap) a vars heap choices
set_returned {g} {rest = rest} {place = place} c right values vars heap choices once owned t h (set_waits none never) =
    both_wait (λ r s. none r (step_does g (task (perform (returns place (Some right))) rest) values heap choices r refl s)) never
set_returned {g} {rest = rest} {place = place} c right values vars heap choices once owned t h (set_faults kind is goes) =
    both_end (does_step g (task (perform (returns place (Some right))) rest) values heap choices _ refl is) goes
set_returned {g} {rest = rest} {place = place} {v = v} c right values vars heap choices once owned t h (set_gives u others is goes) =
    value_pair c v (task (perform (returns place (Some right))) rest) u values vars heap heap choices others once owned t (does_step g (task (perform (returns place (Some right))) rest) values heap choices _ refl is) goes h

return_uses : (g : Graph) (e : Expr) (place : Place) (rest : Tasks) (values : Values) (heap : Heap) (choices : List Choice)
    → Uses e place values heap choices (λ r. Returns g.program (here_of values heap) (Some (expression e)) rest place choices r) (λ u others. gone_back heap rest (Some u) others)
return_uses g e place rest values heap choices = record {
  faulty = λ kind is. (fault_of kind, is, refl);
  undefined = λ others is. (value_of None others, is, refl);
  defined = λ u others is. (value_of (Some u) others, is, refl);
  evaluates = λ r q. (q.0, q.1);
}

allocated_returned : {g : Graph} {scope : List ℕ} {late : List Limit} {callers : List Frame} {k a shape fields : ℕ} {rest : Tasks} {place : Place} {v : VarId} (c : Around) (values : Values) (vars : Vars) (heap : Heap) (choices : List Choice)
    → AreOnce g → slice_get g.owners v.0 ≡ Some (result c.out) → ToOut g c.function c.out late callers rest → Held g (frame_of c scope late k values ∷ callers) vars
    → IsAllocated g (λ u after others r. r ≡ gone_back after rest (Some u) others) shape fields v a c.out vars heap choices
    → PairOf g (config (task (perform (returns place (Some (allocation shape fields)))) rest) values heap) a vars heap choices
allocated_returned {g} {shape = shape} {fields = fields} {rest = rest} {place = place} c values vars heap choices once owned t h (allocated_waits none never) =
    both_wait (λ r s. none r (step_does g (task (perform (returns place (Some (allocation shape fields)))) rest) values heap choices r refl s)) never
allocated_returned {g} {shape = shape} {fields = fields} {rest = rest} {place = place} {v = v} c values vars heap choices once owned t h (allocated u after others into step) =
    value_pair c v (task (perform (returns place (Some (allocation shape fields)))) rest) u values vars heap after choices others once owned t
    (does_step g (task (perform (returns place (Some (allocation shape fields)))) rest) values heap choices _ refl (into _ refl)) (one step) h

return_pair : {g : Graph} {scope : List ℕ} {late : List Limit} {callers : List Frame} {k : ℕ} {place : Place} {v : VarId} {right : Right} {rest : Tasks} {s u : Stage} (c : Around) (values : Values) (vars : Vars) (heap : Heap) (choices : List Choice)
    → AreOnce g → IsMade g (result c.out) v s → SetsTo g c.out place v right s u → goal_of u ≡ c.out → ToOut g c.function c.out late callers rest → Held g (frame_of c scope late k values ∷ callers) vars
    → PairOf g (config (task (perform (returns place (Some right))) rest) values heap) (goal_of s) vars heap choices
return_pair {g} {place = place} {v = v} {right = expression e} {rest = rest} {s = s} {u = u} c values vars heap choices once (is_made owned before) sets same t h =
    let within : v.0 < length g.owners = slice_get_within g.owners v.0 (result c.out) owned in
    set_returned c (expression e) values vars heap choices once owned t h
    (subst (λ z. IsSet g (λ r. Returns g.program (here_of values heap) (Some (expression e)) rest place choices r) (λ w others. gone_back heap rest (Some w) others) place v (goal_of s) z vars heap choices) same
    (setting values (λ r. Returns g.program (here_of values heap) (Some (expression e)) rest place choices r) (λ w others. gone_back heap rest (Some w) others) vars heap choices sets
    (return_uses g e place rest values heap choices) h.clean h.long h.all.0.agree (omega (arith, within, h.long)) (λ ts are is_in. not_temporary g ts v (result c.out) are owned refl is_in)))
return_pair {right = result_of d} c values vars heap choices once made sets same t h = elim sets [ ]
return_pair {g} {place = place} {v = v} {right = allocation shape fields} {rest = rest} c values vars heap choices once (is_made owned before) (sets_allocated count (appends {n = n} {b = b} is)) same t h =
    allocated_returned c values vars heap choices once owned t h
    (subst (λ z. IsAllocated g (λ w after others r. r ≡ gone_back after rest (Some w) others) shape fields v n z vars heap choices) same
    (allocates g (λ w after others r. r ≡ gone_back after rest (Some w) others) shape fields v n b place vars heap choices count is))

made_later : {g : Graph} {owner : Owner} {v : VarId} {s m : Stage} → variables_of s ≤ variables_of m → IsMade g owner v s → IsMade g owner v m
made_later {m = stage a n k} less (is_made owned before) = is_made owned (omega (arith, less, before))

-- ---- statements
statement_pair : {g : Graph} {c : Around} {scope : List ℕ} {late : List Limit} {callers : List Frame} {k : ℕ} {a : Stmt} {rest : Tasks} {s u : Stage} (values : Values) (vars : Vars) (heap : Heap) (choices : List Choice)
    → AreOnce g → AreScoped g.program → Lowers g c a s u → IsScopedIn (length c.function.locals) scope a → points_of u ≤ c.out → IsWithin (variables_of u) late → k ≤ variables_of s
    → Follows g c scope late callers (variables_of u) rest (goal_of u) → Held g (frame_of c scope late k values ∷ callers) vars
    → PairOf g (config (task (perform a) rest) values heap) (goal_of s) vars heap choices
statement_pair values vars heap choices once all_scoped (declarations declares) scoped bound within low later h = declare_pair values vars heap choices once all_scoped declares scoped bound within low later h
statement_pair {g} {c} {scope} {late} {callers} {k} {rest = rest} {u = u} values vars heap choices once all_scoped (blocks {xs = xs} {ss = ss} {m = m} body leave) scoped bound within low later h =
    let grew = left leave in
    source_moved (task (perform (block xs ss)) rest) (in_a_row ss (task (end_block xs) rest)) values values choices refl
    (match
    (follows_in_a_row ss k body scoped.1 (omega (arith, grew.points, bound)) (within_less (variables_of m) (variables_of u) late grew.variables within) low
    (ends_block leave (omega arith) (raises grew.variables later)))
    (block_entered g c scope xs late callers k values vars scoped.0 h)) (omega (arith, weight_in_a_row g ss (task (end_block xs) rest)))
statement_pair {g} {c} {scope} {late} {callers} {k} {rest = rest} {s = s} values vars heap choices once all_scoped empties scoped bound within low later h =
    source_moved (task (perform empty) rest) rest values values choices refl (match later (held_raised g c scope late callers k (variables_of s) values vars low h)) (omega arith)
statement_pair {g} {rest = rest} values vars heap choices once all_scoped (simples {x = x} does) scoped bound within low later h =
    let tasks : Tasks = task (perform (simple x)) rest in
    simple_pair {action = x.action} tasks values vars heap choices once all_scoped does scoped (omega arith) (λ r d. does_step g tasks values heap choices r refl d) (λ r d. step_does g tasks values heap choices r refl d) bound within
    (omega (arith, low, (Rattle.mc_lower_spec.proofs.Growing.performed does).variables)) later h
statement_pair {g} {c} {scope} {rest = rest} {u = u} values vars heap choices once all_scoped (frees {place = place} {e = e} value is undone) scoped bound within low later h =
    performed_by (task (perform (free place e)) rest) values vars heap choices once (λ r d. does_step g (task (perform (free place e)) rest) values heap choices r refl d) (λ r d. step_does g (task (perform (free place e)) rest) values heap choices r refl d)
    (freeing (here_of values heap) rest (Sets g c scope (variables_of u)) vars choices value is undone h.clean h.long h.all.0.agree) within
    (omega (arith, low, (lowered {c = c} (frees value is undone)).variables)) later h
statement_pair {g} {c} {scope} {late} {callers} {k} {rest = rest} values vars heap choices once all_scoped (asserts {place = place} {d = d} {b = b} {n = n} {k = j} truth is) scoped bound within low later h =
    let grew = tested truth in
    source_moved (task (perform (assert place d)) rest) (task (test d (go_on rest) (fails place)) done) values values choices refl
    (match_test {f = frame_of c scope late k values} truth
    (leads later (λ some others there. held_raised g c scope late callers k j some others (omega (arith, low, grew.variables)) there)) (leads_to_fault is) h) (omega arith)
statement_pair {g} {c} {scope} {late} {callers} {k} {rest = rest} values vars heap choices once all_scoped (assumes {place = place} {d = d} {b = b} {n = n} {k = j} truth is) scoped bound within low later h =
    let grew = tested truth in
    source_moved (task (perform (assume place d)) rest) (task (test d (go_on rest) stops) done) values values choices refl
    (match_test {f = frame_of c scope late k values} truth
    (leads later (λ some others there. held_raised g c scope late callers k j some others (omega (arith, low, grew.variables)) there)) (leads_to_stop is) h) (omega arith)
statement_pair {g} {c} {scope} {late} {callers} {k} values vars heap choices once all_scoped (shapes_assumed {place = place} {predicate = predicate} {x = x} {v = v} {s = s} made arguments (appends {k = j} is)) scoped bound within low later h =
    assume_pair c predicate x v place values vars heap choices arguments h.all.0.agree is
    (λ w after. match later (changes_held g c scope late callers k j values (with_variable values x (Some w)) vars (with_value vars v (Some w)) once within low
    (one_set x v (Some w) (may_set g c scope s j x v scoped (omega arith) made)) h))
statement_pair {g} {c} {scope} {late} {callers} {k} values vars heap choices once all_scoped (shapes_asserted {place = place} {predicate = predicate} value arguments (appends {k = j} is)) scoped bound within low later h =
    assert_pair c predicate place values vars heap choices value arguments h.all.0.agree is (match later (held_raised g c scope late callers k j values vars low h))
statement_pair {g} {c} {scope} {late} {callers} {k} values vars heap choices once all_scoped (emptiness_asserted {place = place} (appends {k = j} is)) scoped bound within low later h =
    empty_pair place values vars heap choices is (match later (held_raised g c scope late callers k j values vars low h))
statement_pair {g} {c} {scope} {late} {callers} {k} {rest = rest} {u = u} values vars heap choices once all_scoped (ifs {place = place} {d = d} {a = a} {n = n} {l = l} truth body joins) scoped bound within low later h =
    let first = tested truth in
    let grew = lowered body in
    let ends = appended joins in
    let meet : Follows g c scope late callers l rest n = raises ends.variables (skips (skip_ahead joins tt) later) in
    source_moved (task (perform (if_only place d a)) rest) (task (test d (go_on (task (perform a) rest)) (go_on rest)) done) values values choices refl
    (match_test {f = frame_of c scope late k values} truth
    (leads (performs {k = k} body scoped (omega (arith, bound, ends.points)) (within_less l (variables_of u) late ends.variables within) (omega (arith, low, first.variables)) meet) (λ some others there. there))
    (leads meet (λ some others there. held_raised g c scope late callers k l some others (omega (arith, low, first.variables, grew.variables)) there)) h) (omega arith)
statement_pair {g} {c} {scope} {late} {callers} {k} {rest = rest} {u = u} values vars heap choices once all_scoped (ifs_else {place = place} {d = d} {a = a} {b = b} {j = j} {n = n} {l = l} truth body other joins) scoped bound within low later h =
    let first = tested truth in
    let grew = lowered body in
    let also = lowered other in
    let ends = appended joins in
    let near : IsWithin l late = within_less l (variables_of u) late ends.variables within in
    let meet : Follows g c scope late callers l rest n = raises ends.variables (skips (skip_ahead joins tt) later) in
    source_moved (task (perform (if_else place d a b)) rest) (task (test d (go_on (task (perform a) rest)) (go_on (task (perform b) rest))) done) values values choices refl
    (match_test {f = frame_of c scope late k values} truth
    (leads (performs {k = k} body scoped.0 (omega (arith, bound, also.points, ends.points)) (within_less j l late also.variables near) (omega (arith, low, first.variables)) (raises also.variables meet)) (λ some others there. there))
    (leads (performs {k = k} other scoped.1 (omega (arith, bound, ends.points)) near (omega (arith, low, first.variables, grew.variables)) meet) (λ some others there. there)) h) (omega arith)
statement_pair {g} {c} {scope} {late} {callers} {k} {rest = rest} {u = u} values vars heap choices once all_scoped (whiles {place = place} {d = d} {a = a} {n = n} {t = t} {e = e} {j = j} begin truth body ends_at) scoped bound within low later h =
    let began = appended begin in
    let grew = lowered body in
    let first = tested truth in
    let ends = appended ends_at in
    let loops : IsLoop g c scope (Some d) a None n e n j =
    is_loop {q = stage n 0 0} (asks (skip_ahead begin tt) truth) no_skip body scoped (omega (arith, bound, ends.points)) (omega arith) no_skip finishes_none tt (omega arith) (omega arith) in
    source_moved (task (perform (while_loop place d a)) rest) (loop_tasks (Some d) a None [] rest) values values choices refl
    (match (agains {xs = []} {k = k} loops (exits_nothing ends_at) (within_less j (variables_of u) late ends.variables within) (raises ends.variables later))
    (loop_entered g c scope [] late callers k k j values vars (λ x there in_scope. absurd (omega (arith, there.1))) (omega (arith, low, began.variables, first.variables, grew.variables)) h)) (omega arith)
statement_pair {g} {c} {scope} {late} {callers} {k} {rest = rest} {u = u} values vars heap choices once all_scoped (dos {place = place} {d = d} {a = a} {m = m} {n = n} {i = i} {j = j} {e = e} {l = l} begin body turn_is truth ends_at) scoped bound within low later h =
    let began = appended begin in
    let grew = lowered body in
    let turned = appended turn_is in
    let second = tested truth in
    let ends = appended ends_at in
    let near : IsWithin l late = within_less l (variables_of u) late ends.variables within in
    let loops : IsLoop g c scope (Some d) a None (goal_of m) e i l =
    is_loop {q = stage (goal_of m) 0 0} (asks no_skip truth) (skip_ahead begin tt) body scoped (omega (arith, bound, ends.points, second.points, turned.points)) (omega (arith, turned.variables, second.variables))
    (skip_ahead turn_is tt) finishes_none tt (omega arith) (omega arith) in
    source_moved (task (perform (do_loop place a d)) rest) (task (perform a) (task end_turn (loop_tasks (Some d) a None [] rest))) values values choices refl
    (match
    (skips (skip_ahead begin tt)
    (performs {k = 0} body scoped (omega (arith, bound, ends.points, second.points, turned.points)) (omega (arith, turned.variables, second.variables), within_less j l late (omega (arith, turned.variables, second.variables)) near) (omega arith)
    (ends_turn {xs = []} loops (exits_nothing ends_at) near (raises ends.variables later))))
    (relimited g c e i scope (outer_limits c [] l late) callers 0 0 values vars
    (loop_entered g c scope [] late callers k 0 l values vars (λ x there in_scope. absurd (omega (arith, there.1))) (omega (arith, low, began.variables, grew.variables, turned.variables, second.variables)) h))) (omega arith)
statement_pair {g} {c} {scope} {late} {callers} {k} {rest = rest} {u = u} values vars heap choices once all_scoped (fors {h = hd} {a = a} {n = n} {k = q} {i = i} {e = e} {l = l} start begin truth body turn_is last_part ends_at leave) scoped bound within low later h =
    let first = start_grown start in
    let began = appended begin in
    let second = tested_perhaps truth in
    let grew = lowered body in
    let turned = appended turn_is in
    let finish = last_grown last_part in
    let ends = appended ends_at in
    let gone = left leave in
    let near : IsWithin l late = within_less l (variables_of u) late (omega (arith, ends.variables, gone.variables)) within in
    let loops : IsLoop g c (hd.variables ++ scope) hd.condition a hd.last n e i l =
    is_loop (perhaps_asks begin truth) no_skip body scoped.3 (omega (arith, bound, gone.points, ends.points, finish.points, turned.points)) (omega (arith, finish.variables, turned.variables)) (skip_ahead turn_is tt) last_part scoped.2
    (omega (arith, bound, gone.points, ends.points)) (omega arith) in
    source_moved (task (perform (for_loop hd a)) rest) (started hd.start (loop_tasks hd.condition a hd.last hd.variables rest)) values values choices refl
    (match
    (starts_follow c hd.start start scoped.1 (omega (arith, bound, gone.points, ends.points, finish.points, turned.points, grew.points, second.points, began.points))
    (omega (arith, finish.variables, turned.variables, grew.variables, second.variables, began.variables), within_less q l late (omega (arith, finish.variables, turned.variables, grew.variables, second.variables, began.variables)) near)
    (λ j_at. agains {k = j_at} loops (exits_of ends_at leave) near (raises (omega (arith, ends.variables, gone.variables)) later)))
    (loop_entered g c scope hd.variables late callers k 0 l values vars scoped.0 (omega (arith, low, first.variables, began.variables, finish.variables, turned.variables, grew.variables, second.variables)) h))
    (omega (arith, started_weight g hd.start (loop_tasks hd.condition a hd.last hd.variables rest)))
statement_pair {k = k} values vars heap choices once all_scoped (breaks {place = place} is leave) scoped bound within low later h = break_pair place values vars heap choices is leave low (raises (omega (arith, low, (left leave).variables)) later) h
statement_pair {k = k} values vars heap choices once all_scoped (continues {place = place} is leave) scoped bound within low later h = continue_pair place values vars heap choices is leave low (raises (omega (arith, low, (left leave).variables)) later) h
statement_pair {g} {c} {rest = rest} values vars heap choices once all_scoped (returns_nothing {place = place}) scoped bound within low later h =
    nothing_pair c values vars heap choices (to_out later) (does_step g (task (perform (returns place None)) rest) values heap choices (gone_back heap rest None choices) refl refl) (omega arith) h
statement_pair {c = c} values vars heap choices once all_scoped (returns_value made sets) scoped bound within low later h = return_pair c values vars heap choices once made sets refl (to_out later) h
statement_pair {g} {rest = rest} values vars heap choices once all_scoped (returns_result {place = place} {d = d} made inner is undone) scoped bound within low later h =
    let tasks : Tasks = task (perform (returns place (Some (result_of d)))) rest in
    let grew = Rattle.mc_lower_spec.proofs.Growing.called inner in
    let copies = appended is in
    let ends = undefined undone in
    call_pair tasks values vars heap choices once all_scoped (λ e. absurd (cc)) inner (λ r q. does_step g tasks values heap choices r refl q) (λ r q. step_does g tasks values heap choices r refl q)
    (wants (takes_returned (made_later grew.variables made) is undone refl)) (omega (arith, bound, copies.points, ends.points)) (omega (arith, low, grew.variables, copies.variables, ends.variables)) within later h

-- ---- the end of the entry
over_pair : {g : Graph} {f : Rattle.mc_semantics.specs.Resolved.Programs.Function} {out : ℕ} {s u : Stage} (values : Values) (vars : Vars) (heap : Heap) (choices : List Choice) → Falls g f out s u → goal_of u ≡ out
    → IsPoint g out plain nowhere End → PairOf g (config done values heap) (goal_of s) vars heap choices
over_pair {g} {out = out} values vars heap choices (falls_in_main {v = v} main made (appends {n = n} {b = b} is)) same there =
    let zero_there : Option ℤ = Some (Rattle.std.specs.Prelude.pos 0) in
    let ends : IsPoint g b plain nowhere End = subst (λ z. IsPoint g z plain nowhere End) (sym same) there in
    both_end (does_step g done values heap choices (finished_run ended) refl refl)
    (more (step_at g n nowhere (Copy v (Rattle.mc_flow.specs.declared.instr.Operand.TheVariants.Const (Rattle.std.specs.Prelude.pos 0)) (point b)) vars heap choices (next (at b (with_value vars v zero_there) heap) choices) is refl)
    (one (step_at g b nowhere End (with_value vars v zero_there) heap choices (finished_run ended) ends refl)))
over_pair {g} {s = s} values vars heap choices (falls no_main) same there =
    both_end (does_step g done values heap choices (finished_run ended) refl refl)
    (one (step_at g (goal_of s) nowhere End vars heap choices (finished_run ended) (subst (λ z. IsPoint g z plain nowhere End) (sym same) there) refl))

-- ---- tasks
tasks_pair : {g : Graph} {c : Around} {scope : List ℕ} {late : List Limit} {callers : List Frame} {k a : ℕ} {tasks : Tasks} (values : Values) (vars : Vars) (heap : Heap) (choices : List Choice)
    → AreOnce g → AreScoped g.program → Follows g c scope late callers k tasks a → Held g (frame_of c scope late k values ∷ callers) vars → PairOf g (config tasks values heap) a vars heap choices
tasks_pair values vars heap choices once all_scoped (over fall same stops_there) h = over_pair values vars heap choices fall same stops_there
tasks_pair values vars heap choices once all_scoped (performs is scoped bound within low later) h = statement_pair values vars heap choices once all_scoped is scoped bound within low later h
tasks_pair values vars heap choices once all_scoped (skips is later) h = skips_pair vars heap choices is (tasks_pair values vars heap choices once all_scoped later h)
tasks_pair {g} {c} {scope} {late} {callers} {k} values vars heap choices once all_scoped (raises {j = j} low later) h =
    tasks_pair values vars heap choices once all_scoped later (held_raised g c scope late callers k j values vars low h)
tasks_pair values vars heap choices once all_scoped (ends_block leave low later) h = block_pair values vars heap choices leave low later h
tasks_pair values vars heap choices once all_scoped (agains loops way_out within later) h = again_pair values vars heap choices loops way_out within later h
tasks_pair values vars heap choices once all_scoped (ends_turn loops way_out within later) h = turn_pair values vars heap choices loops way_out within later h
tasks_pair {k = k} values vars heap choices once all_scoped (ends_loop {xs = xs} {rest = rest} way_out later) h = exits_pair k (task (end_loop xs) rest) values values vars heap choices way_out later refl (omega arith) h
tasks_pair values vars heap choices once all_scoped (ends_call is made res inside wanted low within later) h = end_call_pair values vars heap choices is made res inside wanted low within later h

pub pairs : (g : Graph) → AreOnce g → AreScoped g.program → (c : Rattle.mc_semantics.specs.Resolved.Configs.Config) (d : Rattle.mc_flow.specs.Steps.Config) (choices : List Choice) → Match g c d
    → Rattle.mc_lower_spec.proofs.Simulating.Paired (Rattle.mc_semantics.specs.Resolved.Steps.Step g.program) (FlowStep g) (Match g) (λ e. weight g e.tasks) c choices d
pairs g once all_scoped c d choices (match {values = values} {vars = vars} {heap = heap} follows h) = tasks_pair values vars heap choices once all_scoped follows h
pairs g once all_scoped c d choices (match_test {x = x} {y = y} {values = values} {vars = vars} {heap = heap} truth truly falsely h) = test_pair x y values vars heap choices truth truly falsely h
pairs g once all_scoped c d choices (match_always {values = values} {vars = vars} {heap = heap} is goes lead h) = always_pair values vars heap choices is goes lead h
pairs g once all_scoped c d choices (match_taking {v = v} {values = values} {vars = vars} {heap = heap} (takes_stored puts undone is_in less) owned inside value low within later h) =
    stored_pair v values vars heap choices once puts undone is_in less owned inside value low within later h
pairs g once all_scoped c d choices (match_taking {v = v} {values = values} {vars = vars} {heap = heap} (takes_returned made copy undone same) owned inside value low within later h) =
    returned_pair v values vars heap choices once made copy undone same owned inside value later h
pairs g once all_scoped c d choices (match_end {place = place} {a = a} {values = values} {vars = vars} {heap = heap} is) =
    both_end (does_step g done values heap choices (finished_run ended) refl refl) (one (step_at g a place End vars heap choices (finished_run ended) is refl))
