-- Loops: they are begun, turned, left by `break`, and continued.
use Rattle.std.proofs.Common.{◌≤◌, ◌+◌, ◌≡◌, ◌++◌, ℕ, List, [], ◌∷◌, Option, Some, None, length, refl, sym, ap, ◌∙◌, subst, arith}
use Rattle.std.specs.Prelude.{Contains}
use Rattle.mc_base.specs.declared.ids.VarId.{VarId}
use Rattle.mc_base.specs.declared.text.place.Place.{Place}
use Rattle.mc_flow.specs.Heap.Heap.{Heap}
use Rattle.mc_flow.specs.Heap.Choices.{Choice}
use Rattle.mc_flow.specs.Values.{without as flow_without}
use Rattle.mc_flow.specs.declared.instr.Instr.TheVariants.{Skip}
use Rattle.mc_semantics.specs.Resolved.Programs.{Cond, Simple, Start, Stmt, simple, declaration, break_loop, continue_loop}
use Rattle.mc_semantics.specs.Resolved.Programs as source
use Rattle.mc_semantics.specs.Resolved.Configs.{Values, perform, test, always, end_loop, end_turn, Tasks, done, task, go_on}
use Rattle.mc_semantics.specs.Resolved.Moves.{finished, started}
use Rattle.mc_lower_spec.specs.Graphs.{Graph, plain, head, Stage, stage, nowhere, Appends, appends, AreMade, undefines_none, undefines, Leaves, leaves}
use Rattle.mc_lower_spec.specs.Values.{TestsPerhaps, tests_always, tests_once}
use Rattle.mc_lower_spec.specs.Lowering.{Loop, Around, in_loop, Lowers, declarations, simples, Starts, starts_nothing, starts_declaring, starts_performing, Finishes, finishes_none, finishes}
use Rattle.mc_lower_spec.specs.Scopes.{IsScopedIn, StartsIn, FinishesIn}
use Rattle.mc_lower_spec.proofs.Stepping.{Vars}
use Rattle.mc_lower_spec.proofs.Stages.{goal_of, points_of, variables_of}
use Rattle.mc_lower_spec.proofs.Holding.{Limit, Frame, Held, AreTheirs, AreUndone, undone_held}
use Rattle.mc_lower_spec.proofs.Following.{Skips, skip_ahead, Asks, asks, asks_nothing, IsLoop, is_loop, Exits, exits, IsWithin, within_less, frame_of, around_loop, outer_limits, loop_tasks, Follows, performs, skips, agains, ends_turn, ends_loop, leads, match, match_test, match_always, weight, start_weight, calls_at, limited, no_late}
use Rattle.mc_lower_spec.proofs.Entering.{theirs}
use Rattle.mc_lower_spec.proofs.Walking.{to_turn}
use Rattle.mc_lower_spec.proofs.Pairing.{config, PairOf, source_moved, skips_pair, undefines_pair, exits_pair}

-- ---- into the body, and after it
within_outer : (c : Around) (xs : List ℕ) (n first : ℕ) (late : List Limit) → n ≤ first → IsWithin first late → IsWithin n (outer_limits c xs first late)
within_outer c xs n first late less within = (less, within_less n first late less within)

-- within a loop the limit of the innermost blocks says nothing
pub relimited : (g : Graph) (c : Around) (e turn : ℕ) (scope : List ℕ) (late : List Limit) (callers : List Frame) (k j : ℕ) (values : Values) (vars : Vars)
    → Held g (frame_of (around_loop c) scope late k values ∷ callers) vars → Held g (frame_of (in_loop c e turn) scope late j values ∷ callers) vars
relimited g c e turn scope late callers k j values vars h =
    limited g (around_loop c) (in_loop c e turn) scope late callers k j values vars refl refl (λ ls. no_late g c.out values j) h

pub unlimited : (g : Graph) (c : Around) (e turn : ℕ) (scope : List ℕ) (late : List Limit) (callers : List Frame) (k j : ℕ) (values : Values) (vars : Vars)
    → Held g (frame_of (in_loop c e turn) scope late k values ∷ callers) vars → Held g (frame_of (around_loop c) scope late j values ∷ callers) vars
unlimited g c e turn scope late callers k j values vars h =
    limited g (in_loop c e turn) (around_loop c) scope late callers k j values vars refl refl (λ ls. no_late g c.out values j) h

ends_here : {g : Graph} {c : Around} {scope xs : List ℕ} {late : List Limit} {callers : List Frame} {condition : Option Cond} {a : Stmt} {rest : Tasks} {h e turn r first hp hk : ℕ} {q : Stage} (last : Option Simple)
    → IsLoop g c (xs ++ scope) condition a last h e turn first → Exits g c xs e r first → IsWithin first late → Follows g c scope late callers first rest r
    → Finishes g c.out last q (stage h hp hk) → FinishesIn (length c.function.locals) (xs ++ scope) last → hp ≤ c.out → hk ≤ first
    → Follows g (around_loop c) (xs ++ scope) (outer_limits c xs first late) callers 0 (finished last (loop_tasks condition a last xs rest)) (goal_of q)
ends_here None loops way_out within later finishes_none scoped bound low = agains loops way_out within later
ends_here {c = c} {xs = xs} {late = late} {first = first} {hk = hk} (Some x) loops way_out within later (finishes does) scoped bound low =
    performs {a = simple x} (simples does) scoped bound (within_outer c xs hk first late low within) (omega arith) (agains loops way_out within later)

-- from the end of a turn to the loop again
pub turn_follows : {g : Graph} {c : Around} {scope xs : List ℕ} {late : List Limit} {callers : List Frame} {condition : Option Cond} {a : Stmt} {last : Option Simple} {rest : Tasks} {h e turn r first : ℕ}
    → IsLoop g c (xs ++ scope) condition a last h e turn first → Exits g c xs e r first → IsWithin first late → Follows g c scope late callers first rest r
    → Follows g (around_loop c) (xs ++ scope) (outer_limits c xs first late) callers 0 (finished last (loop_tasks condition a last xs rest)) turn
turn_follows {last = last} (is_loop asking begins body scoped bound low ends last_part last_scoped last_bound last_low) way_out within later =
    skips ends (ends_here last (is_loop asking begins body scoped bound low ends last_part last_scoped last_bound last_low) way_out within later last_part last_scoped last_bound last_low)

-- the body
body_follows : {g : Graph} {c : Around} {scope xs : List ℕ} {late : List Limit} {callers : List Frame} {condition : Option Cond} {a : Stmt} {last : Option Simple} {rest : Tasks} {h e turn r first t ip ik : ℕ} {s : Stage}
    → IsLoop g c (xs ++ scope) condition a last h e turn first → Exits g c xs e r first → IsWithin first late → Follows g c scope late callers first rest r
    → Skips g t (goal_of s) → Lowers g (in_loop c e turn) a s (stage turn ip ik) → IsScopedIn (length c.function.locals) (xs ++ scope) a → ip ≤ c.out → ik ≤ first
    → Follows g (in_loop c e turn) (xs ++ scope) (outer_limits c xs first late) callers 0 (task (perform a) (task end_turn (finished last (loop_tasks condition a last xs rest)))) t
body_follows {c = c} {xs = xs} {late = late} {first = first} {ik = ik} loops way_out within later begins body scoped bound low =
    skips begins (performs body scoped bound (within_outer c xs ik first late low within) (omega arith) (ends_turn loops way_out within later))

pub again_pair : {g : Graph} {c : Around} {scope xs : List ℕ} {late : List Limit} {callers : List Frame} {condition : Option Cond} {a : Stmt} {last : Option Simple} {rest : Tasks} {h e turn r first k : ℕ} (values : Values) (vars : Vars) (heap : Heap) (choices : List Choice)
    → IsLoop g c (xs ++ scope) condition a last h e turn first → Exits g c xs e r first → IsWithin first late → Follows g c scope late callers first rest r
    → Held g (frame_of (around_loop c) (xs ++ scope) (outer_limits c xs first late) k values ∷ callers) vars → PairOf g (config (loop_tasks condition a last xs rest) values heap) h vars heap choices
again_pair {g} {c} {scope} {xs} {late} {callers} {a = a} {last = last} {rest = rest} {e = e} {turn = turn} {first = first} {k = k} values vars heap choices
    (is_loop (asks {c = d} skip test_there) begins body scoped bound low ends last_part last_scoped last_bound last_low) way_out within later h =
    let loops = is_loop (asks skip test_there) begins body scoped bound low ends last_part last_scoped last_bound last_low in
    let tasks : Tasks = loop_tasks (Some d) a last xs rest in
    skips_pair vars heap choices skip
    (source_moved tasks (task (test d (go_on (task (perform a) (task end_turn (finished last tasks)))) (go_on (task (end_loop xs) rest))) done) values values choices refl
    (match_test {f = frame_of (around_loop c) (xs ++ scope) (outer_limits c xs first late) k values} test_there
    (leads (body_follows loops way_out within later begins body scoped bound low) (λ some others there. relimited g c e turn (xs ++ scope) (outer_limits c xs first late) callers k 0 some others there))
    (leads (ends_loop way_out later) (λ some others there. there)) h) (omega arith))
again_pair {g} {c} {scope} {xs} {late} {callers} {a = a} {last = last} {rest = rest} {e = e} {turn = turn} {first = first} {k = k} values vars heap choices
    (is_loop (asks_nothing skip goes) begins body scoped bound low ends last_part last_scoped last_bound last_low) way_out within later h =
    let loops = is_loop (asks_nothing skip goes) begins body scoped bound low ends last_part last_scoped last_bound last_low in
    let tasks : Tasks = loop_tasks None a last xs rest in
    source_moved tasks (task (always (task (perform a) (task end_turn (finished last tasks)))) done) values values choices refl
    (match_always {f = frame_of (around_loop c) (xs ++ scope) (outer_limits c xs first late) k values} skip goes
    (leads (body_follows loops way_out within later begins body scoped bound low) (λ some others there. relimited g c e turn (xs ++ scope) (outer_limits c xs first late) callers k 0 some others there)) h) (omega arith)

-- the end of a turn
pub turn_pair : {g : Graph} {c : Around} {scope xs : List ℕ} {late : List Limit} {callers : List Frame} {condition : Option Cond} {a : Stmt} {last : Option Simple} {rest : Tasks} {h e turn r first k : ℕ} (values : Values) (vars : Vars) (heap : Heap) (choices : List Choice)
    → IsLoop g c (xs ++ scope) condition a last h e turn first → Exits g c xs e r first → IsWithin first late → Follows g c scope late callers first rest r
    → Held g (frame_of (in_loop c e turn) (xs ++ scope) (outer_limits c xs first late) k values ∷ callers) vars
    → PairOf g (config (task end_turn (finished last (loop_tasks condition a last xs rest))) values heap) turn vars heap choices
turn_pair {g} {c} {scope} {xs} {late} {callers} {condition} {a} {last} {rest} {e = e} {turn = turn} {first = first} {k = k} values vars heap choices loops way_out within later h =
    source_moved (task end_turn (finished last (loop_tasks condition a last xs rest))) (finished last (loop_tasks condition a last xs rest)) values values choices refl
    (match (turn_follows loops way_out within later) (unlimited g c e turn (xs ++ scope) (outer_limits c xs first late) callers k 0 values vars h)) (omega arith)

-- ---- `break` and `continue`
abbrev exit_or : ℕ → Option Loop → ℕ
exit_or n None = n
exit_or n (Some l) = l.exit

abbrev turn_or : ℕ → Option Loop → ℕ
turn_or n None = n
turn_or n (Some l) = l.turn

-- the blocks that are left become undefined
left_held : {g : Graph} {scope : List ℕ} {late : List Limit} {callers : List Frame} {k : ℕ} {s : Stage} {vs : List VarId} (c : Around) (values now : Values) (vars : Vars) → AreMade g c.out (λ x. Contains c.blocks x) s vs → k ≤ variables_of s
    → AreUndone c.blocks values now → Held g (frame_of c scope late k values ∷ callers) vars → Held g (frame_of c scope late k now ∷ callers) (flow_without vars vs)
left_held {g} {scope} {late} {callers} {k} {s} {vs} c values now vars made low undone h =
    let mine : AreTheirs g c.out values c.blocks vs = theirs g c.out values c.blocks vs s k made (λ x v there owned from. h.all.0.late.0 x v there owned from) low in
    undone_held g (frame_of c scope late k values) callers now c.blocks vs vars mine undone h

pub break_pair : {g : Graph} {c : Around} {scope : List ℕ} {late : List Limit} {callers : List Frame} {k a n j : ℕ} {rest : Tasks} {s : Stage} {l : Loop} (place : Place) (values : Values) (vars : Vars) (heap : Heap) (choices : List Choice)
    → c.loop ≡ Some l → Leaves g c.out place c.blocks s (stage l.exit n j) → k ≤ variables_of s → Follows g c scope late callers k rest a → Held g (frame_of c scope late k values ∷ callers) vars
    → PairOf g (config (task (perform (break_loop place)) rest) values heap) (goal_of s) vars heap choices
break_pair {g} {c} {scope} {late} {callers} {k} {rest = rest} {s = s} {l = l} place values vars heap choices is (leaves {vs = vs} made undone) low follows h =
    let t = to_turn l is follows in
    let there : Held g (frame_of c scope late k (t.later values) ∷ callers) (flow_without vars vs) = left_held c values (t.later values) vars made low (t.undone values) h in
    let e : t.exit ≡ l.exit = ap (exit_or 0) (sym t.loop_is ∙ is) in
    undefines_pair vars heap choices undone
    (subst (λ z. PairOf g (config (task (perform (break_loop place)) rest) values heap) z (flow_without vars vs) heap choices) e
    (exits_pair 0 (task (perform (break_loop place)) rest) values (t.later values) (flow_without vars vs) heap choices t.exits t.follows (t.leaves values) (omega (arith, t.less_rest))
    (t.lands (t.later values) (flow_without vars vs) (λ x is_in. (t.undone values).none x is_in) there)))

pub continue_pair : {g : Graph} {c : Around} {scope : List ℕ} {late : List Limit} {callers : List Frame} {k a n j : ℕ} {rest : Tasks} {s : Stage} {l : Loop} (place : Place) (values : Values) (vars : Vars) (heap : Heap) (choices : List Choice)
    → c.loop ≡ Some l → Leaves g c.out place c.blocks s (stage l.turn n j) → k ≤ variables_of s → Follows g c scope late callers k rest a → Held g (frame_of c scope late k values ∷ callers) vars
    → PairOf g (config (task (perform (continue_loop place)) rest) values heap) (goal_of s) vars heap choices
continue_pair {g} {c} {scope} {late} {callers} {k} {rest = rest} {s = s} {l = l} place values vars heap choices is (leaves {vs = vs} made undone) low follows h =
    let t = to_turn l is follows in
    let there : Held g (frame_of c scope late k (t.later values) ∷ callers) (flow_without vars vs) = left_held c values (t.later values) vars made low (t.undone values) h in
    let e : t.turn ≡ l.turn = ap (turn_or 0) (sym t.loop_is ∙ is) in
    undefines_pair vars heap choices undone
    (subst (λ z. PairOf g (config (task (perform (continue_loop place)) rest) values heap) z (flow_without vars vs) heap choices) e
    (source_moved (task (perform (continue_loop place)) rest) (finished t.last (loop_tasks t.condition t.body t.last t.own t.rest)) values (t.later values) choices (t.turns values)
    (match (turn_follows t.loops t.exits t.within t.follows) (t.lands (t.later values) (flow_without vars vs) (λ x is_in. (t.undone values).none x is_in) there)) (omega (arith, t.less))))

-- ---- loops are begun
pub nothing_made : (g : Graph) (out : ℕ) (s : Stage) → AreMade g out (λ x. Contains [] x) s []
nothing_made g out s = record {
  ascending = λ i j d less within. absurd (omega (arith, within));
  all = λ x v there made. absurd (omega (arith, there.1));
  only = λ i d within. absurd (omega (arith, within));
}

pub perhaps_asks : {g : Graph} {out : ℕ} {c : Option Cond} {s m : Stage} {t e n k : ℕ} {place : Place} → Appends g head place (λ q. Skip q) s m → TestsPerhaps g out c m t e n k → Asks g out c (goal_of s) t e
perhaps_asks (appends is) tests_always = asks_nothing is tt
perhaps_asks is (tests_once test_there) = asks (skip_ahead is tt) test_there

-- the exit with its Undef
pub exits_of : {g : Graph} {c : Around} {xs : List ℕ} {place : Place} {s w u : Stage} → Appends g plain place (λ q. Skip q) s w → Leaves g c.out nowhere xs w u → Exits g c xs (goal_of s) (goal_of u) (variables_of s)
exits_of (appends is) (leaves made undefines_none) = exits is (leaves made undefines_none)
exits_of (appends is) (leaves made (undefines (appends there))) = exits is (leaves made (undefines (appends there)))

pub exits_nothing : {g : Graph} {c : Around} {place : Place} {s u : Stage} → Appends g plain place (λ q. Skip q) s u → Exits g c [] (goal_of s) (goal_of u) (variables_of s)
exits_nothing {g} {c} {u = u} is = exits_of is (leaves (nothing_made g c.out u) undefines_none)

pub starts_follow : {g : Graph} {scope : List ℕ} {late : List Limit} {callers : List Frame} {rest : Tasks} {s u : Stage} (f : Around) (start : Start)
    → Starts g f.function f.out start s u → StartsIn (length f.function.locals) scope start → points_of u ≤ f.out → IsWithin (variables_of u) late
    → ((k : ℕ) → Follows g (around_loop f) scope late callers k rest (goal_of u)) → Follows g (around_loop f) scope late callers 0 (started start rest) (goal_of s)
starts_follow f source.nothing starts_nothing scoped bound within later = later 0
starts_follow {u = u} f (source.declares place items) (starts_declaring declares) scoped bound within later =
    performs {a = declaration place items} (declarations declares) scoped bound within (omega arith) (later (variables_of u))
starts_follow {u = u} f (source.performs x) (starts_performing does) scoped bound within later =
    performs {a = simple x} (simples does) scoped bound within (omega arith) (later (variables_of u))

pub started_weight : (g : Graph) (start : Start) (rest : Tasks) → weight g (started start rest) ≡ start_weight (calls_at g rest) start + weight g rest
started_weight g source.nothing rest = omega arith
started_weight g (source.declares place items) rest = omega arith
started_weight g (source.performs x) rest = omega arith
