-- How a resolved program and its flow graph go on together: moves, Skips, what is left, and conditions.
use Rattle.std.proofs.Common.{◌<◌, ◌≤◌, ◌≡◌, ◌++◌, ℕ, List, ◌∷◌, Option, Some, None, refl, sym, ap, ◌∙◌, subst, arith}
use Rattle.mc_base.specs.declared.ids.VarId.{VarId}
use Rattle.mc_flow.specs.Runs.{next, last as finished_run, ended, stopped, fault}
use Rattle.mc_base.specs.declared.text.place.Place.{Place}
use Rattle.mc_flow.specs.Heap.Heap.{Heap}
use Rattle.mc_flow.specs.Heap.Choices.{Choice}
use Rattle.mc_flow.specs.Values.{without as flow_without}
use Rattle.mc_flow.specs.declared.instr.Instr.TheVariants.{Skip, Undef, End, Fail}
use Rattle.mc_flow.specs.Steps as flow
use Rattle.mc_semantics.specs.Resolved.Programs.{Cond, negation, both, either}
use Rattle.mc_semantics.specs.Resolved.Configs.{Values, without, test, always, end_block, Tasks, done, task, Branch, go_on, fails, stops, Config, Result}
use Rattle.mc_semantics.specs.Resolved.Moves.{Arrives, here, there, moved}
use Rattle.mc_semantics.specs.Resolved.Steps.{Here, Does, Step, led, Tests as Tries}
use Rattle.mc_lower_spec.specs.Graphs.{Graph, Role, plain, head, merge, stop, Stage, stage, point, nowhere, IsPoint, appends, Undefines, undefines_none, undefines, Leaves, leaves}
use Rattle.mc_lower_spec.specs.Values.{Tests, tests_plain, tests_compare, tests_negation, tests_both, tests_either}
use Rattle.mc_lower_spec.specs.Lowering.{Around, in_block}
use Rattle.mc_lower_spec.specs.Runs.{FlowStep, told}
use Rattle.mc_lower_spec.proofs.Simulating.{Goes, one, more, Paired, both_go, source_moves, flow_goes, both_end, both_wait}
use Rattle.mc_lower_spec.proofs.SourceOnce.{one_arrival}
use Rattle.mc_lower_spec.proofs.Stepping.{Vars, at, step_at}
use Rattle.mc_lower_spec.proofs.Stages.{goal_of, variables_of}
use Rattle.mc_lower_spec.proofs.Deciding.{IsDecided, decided_waits, decided_faults, decided_true, decided_false, decides_plain, decides_compare}
use Rattle.mc_lower_spec.proofs.Holding.{Limit, Frame, Held, with_values, AreTheirs, undone_held, without_undone, in_left}
use Rattle.mc_lower_spec.proofs.Following.{GoesOn, Skips, no_skip, one_skip, Exits, exits, frame_of, around_loop, outer_limits, Follows, Leads, leads, leads_to_test, leads_to_fault, leads_to_stop, Match, match, match_test, weight}
use Rattle.mc_lower_spec.proofs.Entering.{block_left, loop_left, theirs}

abbrev pub config : Tasks → Values → Heap → Config
config tasks values heap = record { tasks = tasks; values = values; heap = heap }

-- the source in this configuration beside the flow graph at this point
abbrev pub PairOf : Graph → Config → ℕ → Vars → Heap → List Choice → Type 0
PairOf g c a vars heap choices = Paired (Step g.program) (FlowStep g) (Match g) (λ d. weight g d.tasks) c choices (at a vars heap)

-- ---- steps of the source
abbrev pub here_of : Values → Heap → Here
here_of values heap = record { values = values; heap = heap }

pub does_step : (g : Graph) (tasks : Tasks) (values : Values) (heap : Heap) (choices : List Choice) (r : Result) → moved values tasks ≡ None
    → Does g.program (here_of values heap) tasks choices r → Step g.program (config tasks values heap) choices r
does_step g tasks values heap choices r none does = (values, tasks, here none, does)

pub step_does : (g : Graph) (tasks : Tasks) (values : Values) (heap : Heap) (choices : List Choice) (r : Result) → moved values tasks ≡ None
    → Step g.program (config tasks values heap) choices r → Does g.program (here_of values heap) tasks choices r
step_does g tasks values heap choices r none (w, us, path, does) =
    let same = one_arrival {v = values} {ts = tasks} (here none) path in
    subst (λ z. Does g.program (here_of z heap) tasks choices r) (sym same.0) (subst (λ z. Does g.program (here_of w heap) z choices r) (sym same.1) does)

abbrev values_or : Values → Option (Values × Tasks) → Values
values_or v None = v
values_or v (Some p) = p.0

abbrev tasks_or : Tasks → Option (Values × Tasks) → Tasks
tasks_or ts None = ts
tasks_or ts (Some p) = p.1

never_both : (o : Option (Values × Tasks)) (p : Values × Tasks) → o ≡ None → o ≡ Some p → ⊥
never_both o p none some = let e = sym none ∙ some in absurd (grind arith)

behind_move : {values w : Values} {tasks us : Tasks} (later : Values) (after : Tasks) → moved values tasks ≡ Some (later, after) → Arrives values tasks w us → Arrives later after w us
behind_move {values = values} {tasks = tasks} later after some (here none) = absurd (never_both (moved values tasks) (later, after) none some)
behind_move {w = w} {us = us} later after some (there {later = later'} {next = after'} is path) =
    let e : Some (later', after') ≡ Some (later, after) = sym is ∙ some in
    subst (λ z. Arrives z after w us) (ap (values_or later) e) (subst (λ z. Arrives later' z w us) (ap (tasks_or after) e) path)

-- the source moves to what matches
pub source_moved : {g : Graph} {a : ℕ} {vars : Vars} {heap : Heap} (tasks after : Tasks) (values later : Values) (choices : List Choice) → moved values tasks ≡ Some (later, after)
    → Match g (config after later heap) (at a vars heap) → weight g after < weight g tasks → PairOf g (config tasks values heap) a vars heap choices
source_moved {g} {a} {vars} {heap} tasks after values later choices some match_there less =
    source_moves (λ r s. (s.0, s.1, behind_move later after some s.2, s.3)) (λ r s. (s.0, s.1, there some s.2, s.3)) match_there less

-- ---- Skips and Undefs
pub skip_step : (g : Graph) (a b : ℕ) (role : Role) (place : Place) (vars : Vars) (heap : Heap) (choices : List Choice) → IsPoint g a role place (Skip (point b)) → GoesOn role
    → FlowStep g (at a vars heap) choices (next (at b vars heap) choices)
skip_step g a b plain place vars heap choices is goes = step_at g a place (Skip (point b)) vars heap choices (next (at b vars heap) choices) is refl
skip_step g a b head place vars heap choices is goes = (
  next (at b vars heap) choices,
  subst (λ o. flow.StepAt g.flow.structs g.program.defs o (at a vars heap) choices (next (at b vars heap) choices)) (sym is.there) refl,
  sym (ap (λ o. told o (next (at b vars heap) choices)) is.is),
)
skip_step g a b merge place vars heap choices is goes = (
  next (at b vars heap) choices,
  subst (λ o. flow.StepAt g.flow.structs g.program.defs o (at a vars heap) choices (next (at b vars heap) choices)) (sym is.there) refl,
  sym (ap (λ o. told o (next (at b vars heap) choices)) is.is),
)
skip_step g a b stop place vars heap choices is goes = absurd goes

pub stop_step : (g : Graph) (a : ℕ) (place : Place) (vars : Vars) (heap : Heap) (choices : List Choice) → IsPoint g a stop place End → FlowStep g (at a vars heap) choices (finished_run stopped)
stop_step g a place vars heap choices is =
    (finished_run ended, subst (λ o. flow.StepAt g.flow.structs g.program.defs o (at a vars heap) choices (finished_run ended)) (sym is.there) refl, sym (ap (λ o. told o (finished_run ended)) is.is))

pub skips_pair : {g : Graph} {c : Config} {a b : ℕ} (vars : Vars) (heap : Heap) (choices : List Choice) → Skips g a b → PairOf g c b vars heap choices → PairOf g c a vars heap choices
skips_pair vars heap choices no_skip pair = pair
skips_pair {g} vars heap choices (one_skip {a = a} {b = b} {role = role} {place = place} is goes) pair = flow_goes (skip_step g a b role place vars heap choices is goes) pair

pub undefines_pair : {g : Graph} {c : Config} {place : Place} {vs : List VarId} {s u : Stage} (vars : Vars) (heap : Heap) (choices : List Choice) → Undefines g place vs s u
    → PairOf g c (goal_of u) (flow_without vars vs) heap choices → PairOf g c (goal_of s) vars heap choices
undefines_pair vars heap choices undefines_none pair = pair
undefines_pair {g} {place = place} vars heap choices (undefines {v = v} {vs = vs} (appends {n = n} {b = b} is)) pair =
    flow_goes (step_at g n place (Undef (v ∷ vs) (point b)) vars heap choices (next (at b (flow_without vars (v ∷ vs)) heap) choices) is refl) pair

-- the exit of a loop, which the source has passed
pub exits_pair : {g : Graph} {c : Around} {scope xs : List ℕ} {late : List Limit} {callers : List Frame} {e r first : ℕ} {rest : Tasks} (k : ℕ) (tasks : Tasks) (values now : Values) (vars : Vars) (heap : Heap) (choices : List Choice)
    → Exits g c xs e r first → Follows g c scope late callers first rest r → moved values tasks ≡ Some (without xs now, rest) → weight g rest < weight g tasks
    → Held g (frame_of (around_loop c) (xs ++ scope) (outer_limits c xs first late) k now ∷ callers) vars → PairOf g (config tasks values heap) e vars heap choices
exits_pair {g} {c} {scope} {xs} {late} {callers} {rest = rest} k tasks values now vars heap choices (exits {e = e} {w = w} {n = n} {first = first} {place = place} is (leaves {vs = vs} made undone)) follows some less h =
    let f : Frame = frame_of (around_loop c) (xs ++ scope) (outer_limits c xs first late) k now in
    let mine : AreTheirs g c.out now xs vs = theirs g c.out now xs vs (stage w n first) first made (λ x v is_in owned from. h.all.0.late.1.0 x v (in_left xs c.blocks x is_in) owned from) (omega arith) in
    flow_goes (skip_step g e w plain place vars heap choices is tt)
    (undefines_pair vars heap choices undone
    (source_moved tasks rest values (without xs now) choices some
    (match follows
    (loop_left g c scope xs late callers k first (without xs now) (flow_without vars vs) (λ x is_in. (without_undone xs now).none x is_in)
    (undone_held g f callers (without xs now) xs vs vars mine (without_undone xs now) h))) less))

-- the end of a block
pub block_pair : {g : Graph} {c : Around} {scope xs : List ℕ} {late : List Limit} {callers : List Frame} {k : ℕ} {rest : Tasks} {s u : Stage} (values : Values) (vars : Vars) (heap : Heap) (choices : List Choice)
    → Leaves g c.out nowhere xs s u → k ≤ variables_of s → Follows g c scope late callers (variables_of s) rest (goal_of u)
    → Held g (frame_of (in_block c xs) (xs ++ scope) late k values ∷ callers) vars → PairOf g (config (task (end_block xs) rest) values heap) (goal_of s) vars heap choices
block_pair {g} {c} {scope} {xs} {late} {callers} {k} {rest} {s} {u} values vars heap choices (leaves {vs = vs} made undone) low follows h =
    let f : Frame = frame_of (in_block c xs) (xs ++ scope) late k values in
    let mine : AreTheirs g c.out values xs vs = theirs g c.out values xs vs s k made (λ x v is_in owned from. h.all.0.late.0 x v (in_left xs c.blocks x is_in) owned from) low in
    undefines_pair vars heap choices undone
    (source_moved (task (end_block xs) rest) rest values (without xs values) choices refl
    (match follows
    (block_left g c scope xs late callers k (variables_of s) (without xs values) (flow_without vars vs) low (λ x is_in. (without_undone xs values).none x is_in)
    (undone_held g f callers (without xs values) xs vs vars mine (without_undone xs values) h))) (omega arith))

-- ---- conditions
pub led_match : {g : Graph} {f : Frame} {callers : List Frame} {tasks : Tasks} {t : ℕ} (values : Values) (vars : Vars) (heap : Heap) → Leads g f callers (go_on tasks) t → Held g (with_values f values ∷ callers) vars
    → Match g (config tasks values heap) (at t vars heap)
led_match values vars heap (leads follows moves) h = match follows (moves values vars h)
led_match values vars heap (leads_to_test tests truly falsely) h = match_test tests truly falsely h

pub goes_further : (g : Graph) {r : flow.Result} {d : flow.Config} {some left : List Choice} (e : flow.Config) → Goes (FlowStep g) d some (next e left) → Goes (FlowStep g) e left r → Goes (FlowStep g) d some r
goes_further g e (one step) rest = more step rest
goes_further g e (more step tail) rest = more step (goes_further g e tail rest)

led_pair : {g : Graph} {f : Frame} {callers : List Frame} {t a : ℕ} {tasks : Tasks} (x : Branch) (values : Values) (vars : Vars) (heap : Heap) (choices left : List Choice)
    → Step g.program (config tasks values heap) choices (led (here_of values heap) x left) → Goes (FlowStep g) (at a vars heap) choices (next (at t vars heap) left)
    → Leads g f callers x t → Held g (with_values f values ∷ callers) vars → PairOf g (config tasks values heap) a vars heap choices
led_pair (go_on tasks) values vars heap choices left step goes lead h = both_go step goes (led_match values vars heap lead h)
led_pair {g} {t = t} (fails place) values vars heap choices left step goes (leads_to_fault is) h =
    both_end step (goes_further g (at t vars heap) goes (one (step_at g t place Fail vars heap left (finished_run (fault Rattle.mc_base.specs.declared.plain.FaultKind.TheVariants.Assertion place)) is refl)))
led_pair {g} {t = t} stops values vars heap choices left step goes (leads_to_stop {place = place} is) h =
    both_end step (goes_further g (at t vars heap) goes (one (stop_step g t place vars heap left is)))

decided_pair : {g : Graph} {f : Frame} {callers : List Frame} {d : Cond} {x y : Branch} {place : Place} {a t e : ℕ} (values : Values) (vars : Vars) (heap : Heap) (choices : List Choice)
    → moved values (task (test d x y) done) ≡ None
    → IsDecided g (λ r. Tries (here_of values heap) d x y choices r) (λ b rest. led (here_of values heap) b rest) x y place a t e vars heap choices
    → Leads g f callers x t → Leads g f callers y e → Held g (with_values f values ∷ callers) vars → PairOf g (config (task (test d x y) done) values heap) a vars heap choices
decided_pair {g} {d = d} {x = x} {y = y} values vars heap choices none (decided_waits never_source never) truly falsely h =
    both_wait (λ r s. never_source r (step_does g (task (test d x y) done) values heap choices r none s)) never
decided_pair {g} {d = d} {x = x} {y = y} values vars heap choices none (decided_faults kind is goes) truly falsely h =
    both_end (does_step g (task (test d x y) done) values heap choices _ none is) goes
decided_pair {g} {d = d} {x = x} {y = y} values vars heap choices none (decided_true left is goes) truly falsely h =
    led_pair x values vars heap choices left (does_step g (task (test d x y) done) values heap choices _ none is) goes truly h
decided_pair {g} {d = d} {x = x} {y = y} values vars heap choices none (decided_false left is goes) truly falsely h =
    led_pair y values vars heap choices left (does_step g (task (test d x y) done) values heap choices _ none is) goes falsely h

pub test_pair : {g : Graph} {f : Frame} {callers : List Frame} {d : Cond} {s : Stage} {t e n k : ℕ} (x y : Branch) (values : Values) (vars : Vars) (heap : Heap) (choices : List Choice)
    → Tests g f.out d s t e n k → Leads g f callers x t → Leads g f callers y e → Held g (with_values f values ∷ callers) vars
    → PairOf g (config (task (test d x y) done) values heap) (goal_of s) vars heap choices
test_pair x y values vars heap choices (tests_plain value compares_there) truly falsely h =
    decided_pair values vars heap choices refl (decides_plain (here_of values heap) x y vars choices value compares_there h.clean h.long h.all.0.agree) truly falsely h
test_pair x y values vars heap choices (tests_compare first second compares_there) truly falsely h =
    decided_pair values vars heap choices refl (decides_compare (here_of values heap) x y vars choices first second compares_there h.clean h.long h.all.0.agree) truly falsely h
test_pair x y values vars heap choices (tests_negation {c = c} rest) truly falsely h =
    source_moved (task (test (negation c) x y) done) (task (test c y x) done) values values choices refl (match_test rest falsely truly h) (omega arith)
test_pair x y values vars heap choices (tests_both {c = c} {d = d} first second) truly falsely h =
    source_moved (task (test (both c d) x y) done) (task (test c (go_on (task (test d x y) done)) y) done) values values choices refl
    (match_test first (leads_to_test second truly falsely) falsely h) (omega arith)
test_pair x y values vars heap choices (tests_either {c = c} {d = d} first second) truly falsely h =
    source_moved (task (test (either c d) x y) done) (task (test c x (go_on (task (test d x y) done))) done) values values choices refl
    (match_test first truly (leads_to_test second truly falsely) h) (omega arith)

-- a condition that is missing
pub always_pair : {g : Graph} {f : Frame} {callers : List Frame} {go : Tasks} {role : Role} {place : Place} {a t : ℕ} (values : Values) (vars : Vars) (heap : Heap) (choices : List Choice)
    → IsPoint g a role place (Skip (point t)) → GoesOn role → Leads g f callers (go_on go) t → Held g (with_values f values ∷ callers) vars
    → PairOf g (config (task (always go) done) values heap) a vars heap choices
always_pair {g} {go = go} {role = role} {place = place} {a = a} {t = t} values vars heap choices is goes lead h =
    both_go (does_step g (task (always go) done) values heap choices (next (config go values heap) choices) refl refl) (one (skip_step g a t role place vars heap choices is goes)) (led_match values vars heap lead h)
