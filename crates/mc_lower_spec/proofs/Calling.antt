-- Calls begin, end, and their results are taken.
use Rattle.std.proofs.Common.{◌<◌, ◌≤◌, ◌≡◌, ℕ, suc, ℤ, List, [], ◌∷◌, Option, Some, None, length, refl, sym, ap, ◌∙◌, subst, arith}
use Rattle.std.specs.Prelude.{slice_get, slice_index_or, Contains}
use Rattle.mc_base.specs.declared.ids.PointId.{PointId}
use Rattle.mc_base.specs.declared.ids.VarId.{VarId}
use Rattle.mc_base.specs.declared.plain.FaultKind.TheVariants.{Uninit}
use Rattle.mc_base.specs.declared.plain.Kind.{Kind}
use Rattle.mc_flow.specs.Runs.{next, last as finished_run, fault}
use Rattle.mc_base.specs.declared.text.place.Place.{Place}
use Rattle.mc_flow.specs.Heap.Heap.{Heap}
use Rattle.mc_flow.specs.Heap.Choices.{Choice}
use Rattle.mc_flow.specs.Values.{value_in, with_value, without as flow_without}
use Rattle.mc_flow.specs.declared.instr.Instr.{Instr}
use Rattle.mc_flow.specs.declared.instr.Instr.TheVariants.{Copy, Undef}
use Rattle.mc_flow.specs.declared.instr.Operand.TheVariants.{Var}
use Rattle.mc_flow.specs.Steps as flow
use Rattle.mc_semantics.specs.Resolved.Configs.{Values, Target, stored, returned, held, with_variable, end_call, take_result, Tasks, task, Config}
use Rattle.mc_semantics.specs.Resolved.Configs as source
use Rattle.mc_semantics.specs.Resolved.Moves.{given}
use Rattle.mc_semantics.specs.Resolved.Programs.{Left, Function}
use Rattle.mc_semantics.specs.Resolved.Steps.{Step, after, gone_back, returning}
use Rattle.mc_semantics.specs.Resolved.Values.{assigned}
use Rattle.mc_lower_spec.specs.Graphs.{Graph, Role, result, plain, Stage, stage, point, IsPoint, Appends, appends, AreMade, Undefines, undefines_none, undefines, is_made}
use Rattle.mc_lower_spec.specs.Values.{Puts, puts_variable, puts_field}
use Rattle.mc_lower_spec.specs.Lowering.{Around, in_body}
use Rattle.mc_lower_spec.specs.Runs.{FlowStep}
use Rattle.mc_lower_spec.proofs.Simulating.{Goes, one, both_go, both_end, flow_goes, source_goes}
use Rattle.mc_lower_spec.proofs.Stepping.{Vars, at, step_at}
use Rattle.mc_lower_spec.proofs.Stages.{goal_of, variables_of}
use Rattle.mc_lower_spec.proofs.Evaluating.{no_temporaries, not_temporary, nothing_new}
use Rattle.mc_lower_spec.proofs.Storing.{IsPut, put_faults, put_gives, putting}
use Rattle.mc_lower_spec.proofs.Performing.{one_set}
use Rattle.mc_lower_spec.proofs.Holding.{AreOnce, Limit, limit, IsLate, AreLate, Frame, Held, IsInside, IsNone}
use Rattle.mc_lower_spec.proofs.Following.{below, frame_of, IsResult, no_result as without_result, a_result, Wants, IsWithin, Follows, Match, match, match_end, weight, held_raised}
use Rattle.mc_lower_spec.proofs.Leaving.{Ending, ending, left, result_stays, result_set, given_match}
use Rattle.mc_lower_spec.proofs.Walking.{ToOut, out_of_run, out_of_call}
use Rattle.mc_lower_spec.proofs.Pairing.{config, PairOf, does_step, source_moved, goes_further}
use Rattle.mc_lower_spec.proofs.Acting.{may_set, changes_held}

pub point_of : {g : Graph} {role : Role} {place : Place} {code : PointId → Instr} {s u : Stage} → Appends g role place code s u → IsPoint g (goal_of s) role place (code (point (goal_of u)))
point_of (appends is) = is

given_weight : (g : Graph) (target : Target) (w : Option ℤ) (rest : Tasks) → weight g (given target w rest) ≤ weight g rest
given_weight g source.nowhere w rest = omega arith
given_weight g (stored l place) w rest = omega arith
given_weight g (returned place) w rest = omega arith

-- ---- the end of a call
none_there : {g : Graph} {f : Function} {inner : ℕ} {ret : Option VarId} (vars : Vars) → IsResult g f inner ret
    → ((kind : Kind) → f.result ≡ Some kind → (v : ℕ) → slice_get g.owners v ≡ Some (result inner) → slice_index_or vars v None ≡ None) → (v : VarId) → ret ≡ Some v → value_in vars v ≡ None
none_there vars without_result quiet v e = absurd (cc)
none_there vars (a_result {kind = kind} {v = u} is owned) quiet v e =
    let same : u ≡ v = Rattle.std.proofs.lemmas.Option.same_Some u v e in
    subst (λ z. value_in vars z ≡ None) same (quiet kind is u.0 owned)

stays_there : {g : Graph} {m : ℕ} {us : List VarId} {ret : Option VarId} (f : Frame) (w : Option ℤ) (vars : Vars) → AreMade g f.out (λ x. x < length f.function.locals) (stage f.out f.out m) us
    → IsLate g f.out f.values (limit m (below (length f.function.locals))) → IsResult g f.function f.out ret → ((v : VarId) → ret ≡ Some v → value_in vars v ≡ w)
    → (v : VarId) → ret ≡ Some v → value_in (flow_without vars us) v ≡ w
stays_there f w vars made late without_result value v e = absurd (cc)
stays_there {g} {m} {us} f w vars made late (a_result {v = u} is owned) value v e =
    let same : u ≡ v = Rattle.std.proofs.lemmas.Option.same_Some u v e in
    result_stays g f m us vars v made late (subst (λ z. slice_get g.owners z.0 ≡ Some (result f.out)) same owned) ∙ value v e

pub end_call_pair : {g : Graph} {c : Around} {scope own : List ℕ} {late : List Limit} {callers : List Frame} {k j n m b inner : ℕ} {f : Function} {place : Place} {us : List VarId} {saved : Values} {target : Target} {rest : Tasks} {ret : Option VarId} {s : Stage}
    (values : Values) (vars : Vars) (heap : Heap) (choices : List Choice)
    → IsPoint g inner plain place (Undef us (point (goal_of s))) → AreMade g inner (λ x. x < length f.locals) (stage inner inner m) us → IsResult g f inner ret → inner < c.out
    → Wants g c scope target ret s j b → k ≤ j → IsWithin j late → Follows g c scope late callers j rest b
    → Held g (frame_of (in_body f inner) own (limit m (below (length f.locals)) ∷ []) n values ∷ frame_of c scope late k saved ∷ callers) vars
    → PairOf g (config (task (end_call saved target) rest) values heap) inner vars heap choices
end_call_pair {g} {c} {scope} {own} {late} {callers} {k} {n = n} {m = m} {inner = inner} {f = f} {place = place} {us = us} {saved = saved} {target = target} {rest = rest} {s = s} values vars heap choices is made res inside wanted low within later h =
    let frame : Frame = frame_of (in_body f inner) own (limit m (below (length f.locals)) ∷ []) n values in
    let fs : List Frame = frame_of c scope late k saved ∷ callers in
    let late_there : IsLate g inner values (limit m (below (length f.locals))) = h.all.0.late.1.0 in
    flow_goes (step_at g inner place (Undef us (point (goal_of s))) vars heap choices (next (at (goal_of s) (flow_without vars us) heap) choices) is refl)
    (source_moved (task (end_call saved target) rest) (given target None rest) values saved choices refl
    (given_match None saved (flow_without vars us) heap wanted res inside (stays_there frame None vars made late_there res (none_there vars res h.all.0.quiet)) low within later
    (left g frame fs m us vars made (ending g frame fs m vars late_there h)))
    (let less : weight g (given target None rest) ≤ weight g rest = given_weight g target None rest in omega (arith, less)))

-- ---- `return`
pub out_pair : {g : Graph} {f : Function} {out a : ℕ} {late : List Limit} {callers : List Frame} {rest : Tasks} (e : Config) (mine : Frame) (w : Option ℤ) (vars now : Vars) (heap after : Heap) (choices others : List Choice)
    → mine.out ≡ out → mine.function ≡ f → ToOut g f out late callers rest → AreLate g out mine.values late
    → Step g.program e choices (gone_back after rest w others) → Goes (FlowStep g) (at a vars heap) choices (next (at out now after) others)
    → ((m : ℕ) → IsLate g mine.out mine.values (limit m (below (length mine.function.locals))) → Ending g mine callers m now)
    → ((kind : Kind) → f.result ≡ Some kind → (v : ℕ) → slice_get g.owners v ≡ Some (result out) → slice_index_or now v None ≡ w)
    → PairOf g e a vars heap choices
out_pair {g} {out = out} e mine w vars now heap after choices others same also (out_of_run ends is) late step goes ended value =
    both_go step goes (subst (λ z. Match g (config z.1 z.0 after) (at out now after)) (sym (ends w)) (match_end is))
out_pair {g} {f} {out} {late} e mine w vars now heap after choices others same also (out_of_call {rest = rest} {d = d} {scope = scope} {outer_late = outer_late} {callers = callers} {k = k} {m = m} {place = place} {us = us} {saved = saved} {target = target} {ret = ret} {s = s} ends late_there is made res inside wanted low within follows) late_now step goes ended value =
    let there : IsLate g out mine.values (limit m (below (length f.locals))) = late_there mine.values late_now in
    let there_mine : IsLate g mine.out mine.values (limit m (below (length mine.function.locals))) =
    subst (λ o. IsLate g o mine.values (limit m (below (length mine.function.locals)))) (sym same) (subst (λ h. IsLate g out mine.values (limit m (below (length h.locals)))) (sym also) there) in
    let made_mine : AreMade g mine.out (λ x. x < length mine.function.locals) (stage mine.out mine.out m) us =
    subst (λ o. AreMade g o (λ x. x < length mine.function.locals) (stage o o m) us) (sym same) (subst (λ h. AreMade g out (λ x. x < length h.locals) (stage out out m) us) (sym also) made) in
    let res_mine : IsResult g mine.function mine.out ret = subst (λ o. IsResult g mine.function o ret) (sym same) (subst (λ h. IsResult g h out ret) (sym also) res) in
    let valued : (v : VarId) → ret ≡ Some v → value_in now v ≡ w = valued_by res value in
    both_go step
    (goes_further g (at out now after) goes (one (step_at g out place (Undef us (point (goal_of s))) now after others (next (at (goal_of s) (flow_without now us) after) others) is refl)))
    (subst (λ z. Match g (config z.1 z.0 after) (at (goal_of s) (flow_without now us) after)) (sym (ends w))
    (given_match w saved (flow_without now us) after wanted res inside (stays_there mine w now made_mine there_mine res_mine valued) low within follows
    (left g mine (frame_of d scope outer_late k saved ∷ callers) m us now made_mine (ended m there_mine))))
  where
    valued_by : {ret : Option VarId} → IsResult g f out ret → ((kind : Kind) → f.result ≡ Some kind → (v : ℕ) → slice_get g.owners v ≡ Some (result out) → slice_index_or now v None ≡ w)
        → (v : VarId) → ret ≡ Some v → value_in now v ≡ w
    valued_by without_result known v k = absurd (cc)
    valued_by (a_result {kind = kind} {v = u} is_kind owned) known v k =
        let equal : u ≡ v = Rattle.std.proofs.lemmas.Option.same_Some u v k in
        subst (λ z. value_in now z ≡ w) equal (known kind is_kind u.0 owned)

-- the frame of the function that returns
pub nothing_pair : {g : Graph} {scope : List ℕ} {late : List Limit} {callers : List Frame} {k : ℕ} {rest tasks : Tasks} (c : Around) (values : Values) (vars : Vars) (heap : Heap) (choices : List Choice)
    → ToOut g c.function c.out late callers rest → Step g.program (config tasks values heap) choices (gone_back heap rest None choices) → weight g tasks ≡ suc (weight g rest)
    → Held g (frame_of c scope late k values ∷ callers) vars → PairOf g (config tasks values heap) c.out vars heap choices
nothing_pair {g} {rest = rest} c values vars heap choices (out_of_run ends is) step heavy h =
    source_goes step (subst (λ z. Match g (config z.1 z.0 heap) (at c.out vars heap)) (sym (ends None)) (match_end is))
    (let e : weight g (returning rest None).1 ≡ 0 = ap (λ z. weight g z.1) (ends None) in omega (arith, e, heavy))
nothing_pair {g} {scope} {late} {k = k} c values vars heap choices (out_of_call {d = d} {scope = outer} {outer_late = outer_late} {callers = callers} {k = i} {m = m} {place = place} {us = us} {saved = saved} {target = target} {s = s} ends late_there is made res inside wanted low within follows) step heavy h =
    let frame : Frame = frame_of c scope late k values in
    let there : IsLate g c.out values (limit m (below (length c.function.locals))) = late_there values h.all.0.late.1 in
    both_go step (one (step_at g c.out place (Undef us (point (goal_of s))) vars heap choices (next (at (goal_of s) (flow_without vars us) heap) choices) is refl))
    (subst (λ z. Match g (config z.1 z.0 heap) (at (goal_of s) (flow_without vars us) heap)) (sym (ends None))
    (given_match None saved (flow_without vars us) heap wanted res inside (stays_there frame None vars made there res (none_there vars res h.all.0.quiet)) low within follows
    (left g frame (frame_of d outer outer_late i saved ∷ callers) m us vars made (ending g frame (frame_of d outer outer_late i saved ∷ callers) m vars there h))))

-- ---- the result is taken
pub one_undone : {g : Graph} {place : Place} {ret : VarId} {m u : Stage} (e : flow.Config) (choices : List Choice) (mid : Vars) (heap : Heap) (others : List Choice) → Undefines g place (ret ∷ []) m u
    → Goes (FlowStep g) e choices (next (at (goal_of m) mid heap) others) → Goes (FlowStep g) e choices (next (at (goal_of u) (with_value mid ret None) heap) others)
one_undone {g} {place} {ret} e choices mid heap others (undefines (appends {n = n} {b = b} is)) goes =
    goes_further g (at n mid heap) goes (one (step_at g n place (Undef (ret ∷ []) (point b)) mid heap others (next (at b (with_value mid ret None) heap) others) is refl))

pub stored_pair : {g : Graph} {c : Around} {scope : List ℕ} {late : List Limit} {callers : List Frame} {k j inner : ℕ} {l : Left} {place : Place} {ret : VarId} {rest : Tasks} {s m u : Stage} (v : Option ℤ) (values : Values) (vars : Vars) (heap : Heap) (choices : List Choice)
    → AreOnce g → Puts g c.out place l (Var ret) [] s m → Undefines g place (ret ∷ []) m u → Rattle.mc_lower_spec.specs.Scopes.IsIn (length c.function.locals) scope l.variable → variables_of m ≤ j
    → slice_get g.owners ret.0 ≡ Some (result inner) → inner < c.out → value_in vars ret ≡ v → k ≤ j → IsWithin j late → Follows g c scope late callers j rest (goal_of u)
    → Held g (frame_of c scope late k values ∷ callers) vars → PairOf g (config (task (take_result (stored l place) v) rest) values heap) (goal_of s) vars heap choices
stored_pair {g} {place = place} {ret = ret} {rest = rest} None values vars heap choices once (puts_variable {x = x} {v = v} made (appends {n = n} {b = b} is) undefines_none) undone is_in less owned inside value low within later h =
    both_end (does_step g (task (take_result (stored (record { variable = x; fields = [] }) place) None) rest) values heap choices (finished_run (fault Uninit place)) refl refl)
    (one (step_at g n place (Copy v (Var ret) (point b)) vars heap choices (finished_run (fault Uninit place)) is (sym (ap (flow.copied v (point b) place (at n vars heap) choices) value))))
stored_pair {g} {c} {scope} {late} {callers} {k} {j} {inner} {place = place} {ret = ret} {rest = rest} (Some w) values vars heap choices once (puts_variable {x = x} {v = v} {s = s} made (appends {n = n} {k = i} {b = b} is) undefines_none) undone is_in less owned inside value low within later h =
    let now : Vars = with_value vars v (Some w) in
    both_go (does_step g (task (take_result (stored (record { variable = x; fields = [] }) place) (Some w)) rest) values heap choices (next (config rest (with_variable values x (Some w)) heap) choices) refl refl)
    (one_undone (at n vars heap) choices now heap choices undone
    (one (step_at g n place (Copy v (Var ret) (point b)) vars heap choices (next (at b now heap) choices) is (sym (ap (flow.copied v (point b) place (at n vars heap) choices) value)))))
    (match later
    (result_set g (frame_of c scope late j (with_variable values x (Some w)) ∷ callers) now ret inner None owned (none_of h)
    (changes_held g c scope late callers k j values (with_variable values x (Some w)) vars now once within low (one_set x v (Some w) (may_set g c scope s j x v is_in less made)) h)))
  where
    none_of : Held g (frame_of c scope late k values ∷ callers) vars → IsNone inner (frame_of c scope late j (with_variable values x (Some w)) ∷ callers)
    none_of held_now = (λ e. omega (arith, e, inside), outer callers held_now.nested.0)
      where
        outer : (es : List Frame) → IsInside c.out es → IsNone inner es
        outer [] deep = tt
        outer (e ∷ es) deep = (λ q. omega (arith, q, deep.0, inside), outer es deep.1)
stored_pair {g} {c} {scope} {late} {callers} {k} {j} {inner} {place = place} {ret = ret} {rest = rest} {s = s} {m = m} v values vars heap choices once (puts_field {x = x} {y = y} {f = f} {fs = fs} {us = us} (is_made own before) walk stores undone_all) undone is_in less owned inside value low within later h =
    let keeps : Contains us ret → Contains {X = VarId} [] ret = λ there. absurd (not_temporary g us ret (result inner) (Rattle.mc_lower_spec.proofs.Evaluating.walk_temporaries walk (no_temporaries g)) owned refl there) in
    field_taken (putting values (held values x) v vars vars heap choices walk stores undone_all (no_temporaries g) (nothing_new [] vars) h.clean h.long keeps value (h.all.0.agree.same x y.0 own))
  where
    none_of : IsNone inner (frame_of c scope late j values ∷ callers)
    none_of = (λ e. omega (arith, e, inside), outer callers h.nested.0)
      where
        outer : (es : List Frame) → IsInside c.out es → IsNone inner es
        outer [] deep = tt
        outer (e ∷ es) deep = (λ q. omega (arith, q, deep.0, inside), outer es deep.1)

    field_taken : IsPut g (assigned values heap (record { variable = x; fields = f ∷ fs }) v) values place (goal_of s) (goal_of m) vars vars heap choices
        → PairOf g (config (task (take_result (stored (record { variable = x; fields = f ∷ fs }) place) v) rest) values heap) (goal_of s) vars heap choices
    field_taken (put_faults kind change goes) =
        both_end (does_step g (task (take_result (stored (record { variable = x; fields = f ∷ fs }) place) v) rest) values heap choices (finished_run (fault kind place)) refl (sym (ap (after rest place choices) change))) goes
    field_taken (put_gives later_heap change goes) =
        both_go (does_step g (task (take_result (stored (record { variable = x; fields = f ∷ fs }) place) v) rest) values heap choices (next (config rest values later_heap) choices) refl (sym (ap (after rest place choices) change)))
        (one_undone (at (goal_of s) vars heap) choices vars later_heap choices undone goes)
        (match later (result_set g (frame_of c scope late j values ∷ callers) vars ret inner None owned none_of (held_raised g c scope late callers k j values vars low h)))
