-- When a configuration of a resolved program and one of its flow graph match.
use Rattle.std.proofs.Common.{◌<◌, ◌≤◌, ◌+◌, ◌-◌, ◌≡◌, ◌++◌, ℕ, zero, suc, ℤ, List, [], ◌∷◌, Option, Some, None, length, refl, ap, subst, arith}
use Rattle.std.specs.Prelude.{slice_get}
use Rattle.std.proofs.lemmas.Option.{slice_get_within}
use Rattle.mc_base.specs.declared.ids.VarId.{VarId}
use Rattle.mc_base.specs.declared.plain.Kind.{Kind}
use Rattle.mc_flow.specs.Values.{value_in}
use Rattle.mc_flow.specs.declared.instr.Operand.TheVariants.{Var}
use Rattle.mc_base.specs.declared.text.place.Place.{Place}
use Rattle.mc_flow.specs.Heap.Heap.{Heap}
use Rattle.mc_flow.specs.declared.instr.Instr.TheVariants.{Skip, Copy, Undef, End, Fail}
use Rattle.mc_flow.specs.Steps as flow
use Rattle.mc_semantics.specs.Resolved.Programs.{Cond, plain as plain_cond, compare, negation, both, either, Action, assign, add, subtract, call, Simple, Start, nothing, declares, performs as begins, Function, Stmt, declaration, block, empty, simple, free, assert, assume, assume_shape, assert_shape, assert_empty, if_only, if_else, while_loop, do_loop, for_loop, break_loop, continue_loop, returns, Stmts, no_more, then}
use Rattle.mc_semantics.specs.Resolved.Configs as source
use Rattle.mc_semantics.specs.Resolved.Configs.{Values, Target, stored, returned, perform, again, test, always, end_block, end_loop, end_turn, end_call, take_result, Task, Tasks, done, task, Branch, go_on, fails, stops, Config}
use Rattle.mc_semantics.specs.Resolved.Moves.{in_a_row, finished}
use Rattle.mc_lower_spec.specs.Graphs.{Graph, result, Role, plain, head, merge, stop, Stage, stage, point, nowhere, IsPoint, Appends, appends, IsMade, AreMade, Undefines, Leaves}
use Rattle.mc_lower_spec.specs.Values.{Tests, Puts}
use Rattle.mc_lower_spec.specs.Lowering.{Around, in_block, in_loop, in_body, Lowers, LowersAll, lowers_none, lowers_next, Finishes, Falls}
use Rattle.mc_lower_spec.specs.Scopes.{IsIn, IsScopedIn, AreScopedIn, FinishesIn}
use Rattle.mc_lower_spec.proofs.Stepping.{Vars, at}
use Rattle.mc_lower_spec.proofs.Stages.{goal_of, points_of, variables_of}
use Rattle.mc_lower_spec.proofs.Holding.{Limit, limit, AreLate, IsLate, Frame, Held, with_values, rescoped}

-- ---- parts of loops
abbrev pub GoesOn : Role → Type 0
GoesOn plain = Unit {0}
GoesOn head = Unit {0}
GoesOn merge = Unit {0}
GoesOn stop = ⊥

-- a Skip from one point to another, or none
pub data Skips (g : Graph) : ℕ → ℕ → Type 0 where
  no_skip : {a : ℕ} → Skips g a a
  one_skip : {a b : ℕ} {role : Role} {place : Place} → IsPoint g a role place (Skip (point b)) → GoesOn role → Skips g a b

pub skip_ahead : {g : Graph} {role : Role} {place : Place} {s u : Stage} → Appends g role place (λ q. Skip q) s u → GoesOn role → Skips g (goal_of s) (goal_of u)
skip_ahead (appends is) goes = one_skip is goes

-- the condition of a loop, which may be missing: then there is a Skip
pub data Asks (g : Graph) (out : ℕ) : Option Cond → (a t f : ℕ) → Type 0 where
  asks : {c : Cond} {s : Stage} {a t f n k : ℕ} → Skips g a (goal_of s) → Tests g out c s t f n k → Asks g out (Some c) a t f
  asks_nothing : {a t f : ℕ} {role : Role} {place : Place} → IsPoint g a role place (Skip (point t)) → GoesOn role → Asks g out None a t f

-- a loop that is begun again at a point: its body, and what ends a turn
pub data IsLoop (g : Graph) (c : Around) (scope : List ℕ) (condition : Option Cond) (a : Stmt) (last : Option Simple) (h e turn first : ℕ) : Type 0 where
  is_loop : {t ip ik hp hk : ℕ} {s q : Stage} → Asks g c.out condition h t e → Skips g t (goal_of s)
      → Lowers g (in_loop c e turn) a s (stage turn ip ik) → IsScopedIn (length c.function.locals) scope a → ip ≤ c.out → ik ≤ first
      → Skips g turn (goal_of q) → Finishes g c.out last q (stage h hp hk) → FinishesIn (length c.function.locals) scope last → hp ≤ c.out → hk ≤ first
      → IsLoop g c scope condition a last h e turn first

-- the exit of a loop, where its own variables become undefined
pub data Exits (g : Graph) (c : Around) (xs : List ℕ) : (e r first : ℕ) → Type 0 where
  exits : {e w n m r first : ℕ} {place : Place} → IsPoint g e plain place (Skip (point w)) → Leaves g c.out nowhere xs (stage w n first) (stage r m first)
      → Exits g c xs e r first

-- so many variables are there at most where those of outer loops have to be undefined
abbrev pub IsWithin : ℕ → List Limit → Type 0
IsWithin n [] = Unit {0}
IsWithin n (l ∷ ls) = (n ≤ l.first) × IsWithin n ls

abbrev pub frame_of : Around → List ℕ → List Limit → ℕ → Values → Frame
frame_of c scope late k values =
    record { out = c.out; function = c.function; scope = scope; limits = limit k c.blocks ∷ late; values = values }

abbrev pub around_loop : Around → Around
around_loop c = in_body c.function c.out

abbrev pub outer_limits : Around → List ℕ → ℕ → List Limit → List Limit
outer_limits c xs first late = limit first (xs ++ c.blocks) ∷ late

abbrev pub loop_tasks : Option Cond → Stmt → Option Simple → List ℕ → Tasks → Tasks
loop_tasks condition a last xs rest = task (again condition a last) (task (end_loop xs) rest)

-- ---- calls
abbrev pub below : ℕ → List ℕ
below zero = []
below (suc n) = n ∷ below n

-- the variable for the result of an occurrence, if there is one
pub data IsResult (g : Graph) (f : Function) (inner : ℕ) : Option VarId → Type 0 where
  no_result : IsResult g f inner None
  a_result : {kind : Kind} {v : VarId} → f.result ≡ Some kind → slice_get g.owners v.0 ≡ Some (result inner) → IsResult g f inner (Some v)

-- from a stage on a result is taken, and is undefined after it; so many variables there are then at most, and the caller goes on at a point
pub data TakesResult (g : Graph) (c : Around) (scope : List ℕ) : Target → VarId → Stage → (j b : ℕ) → Type 0 where
  takes_stored : {l : Rattle.mc_semantics.specs.Resolved.Programs.Left} {place : Place} {ret : VarId} {s m u : Stage} {j : ℕ} → Puts g c.out place l (Var ret) [] s m → Undefines g place (ret ∷ []) m u
      → IsIn (length c.function.locals) scope l.variable → variables_of m ≤ j → TakesResult g c scope (stored l place) ret s j (goal_of u)
  takes_returned : {place : Place} {v ret : VarId} {s m u : Stage} {j b : ℕ} → IsMade g (result c.out) v s → Appends g plain place (λ q. Copy v (Var ret) q) s m → Undefines g place (ret ∷ []) m u
      → goal_of u ≡ c.out → TakesResult g c scope (returned place) ret s j b

pub data Wants (g : Graph) (c : Around) (scope : List ℕ) : Target → Option VarId → Stage → (j b : ℕ) → Type 0 where
  wants_nothing : {ret : Option VarId} {s : Stage} {j : ℕ} → Wants g c scope source.nowhere ret s j (goal_of s)
  wants : {target : Target} {ret : VarId} {s : Stage} {j b : ℕ} → TakesResult g c scope target ret s j b → Wants g c scope target (Some ret) s j b

-- ---- tasks and points
-- What is left to do is what the flow graph does from a point on: where it stands, which variables are in scope, from which numbers on
-- the flow graph's variables of outer loops are undefined, and from which on those of the blocks around.
pub data Follows (g : Graph) : Around → List ℕ → List Limit → List Frame → ℕ → Tasks → ℕ → Type 0 where
  over : {f : Function} {out k : ℕ} {scope : List ℕ} {s u : Stage} → Falls g f out s u → goal_of u ≡ out → IsPoint g out plain nowhere End
      → Follows g (in_body f out) scope [] [] k done (goal_of s)
  performs : {c : Around} {scope : List ℕ} {late : List Limit} {callers : List Frame} {k : ℕ} {a : Stmt} {rest : Tasks} {s u : Stage}
      → Lowers g c a s u → IsScopedIn (length c.function.locals) scope a → points_of u ≤ c.out → IsWithin (variables_of u) late → k ≤ variables_of s
      → Follows g c scope late callers (variables_of u) rest (goal_of u) → Follows g c scope late callers k (task (perform a) rest) (goal_of s)
  -- the flow graph has a Skip where the source has nothing
  skips : {c : Around} {scope : List ℕ} {late : List Limit} {callers : List Frame} {k a b : ℕ} {tasks : Tasks}
      → Skips g a b → Follows g c scope late callers k tasks b → Follows g c scope late callers k tasks a
  raises : {c : Around} {scope : List ℕ} {late : List Limit} {callers : List Frame} {k j a : ℕ} {tasks : Tasks}
      → k ≤ j → Follows g c scope late callers j tasks a → Follows g c scope late callers k tasks a
  ends_block : {c : Around} {scope xs : List ℕ} {late : List Limit} {callers : List Frame} {k : ℕ} {rest : Tasks} {s u : Stage}
      → Leaves g c.out nowhere xs s u → k ≤ variables_of s → Follows g c scope late callers (variables_of s) rest (goal_of u)
      → Follows g (in_block c xs) (xs ++ scope) late callers k (task (end_block xs) rest) (goal_of s)
  agains : {c : Around} {scope xs : List ℕ} {late : List Limit} {callers : List Frame} {condition : Option Cond} {a : Stmt} {last : Option Simple} {rest : Tasks} {h e turn r first k : ℕ}
      → IsLoop g c (xs ++ scope) condition a last h e turn first → Exits g c xs e r first → IsWithin first late → Follows g c scope late callers first rest r
      → Follows g (around_loop c) (xs ++ scope) (outer_limits c xs first late) callers k (loop_tasks condition a last xs rest) h
  ends_turn : {c : Around} {scope xs : List ℕ} {late : List Limit} {callers : List Frame} {condition : Option Cond} {a : Stmt} {last : Option Simple} {rest : Tasks} {h e turn r first k : ℕ}
      → IsLoop g c (xs ++ scope) condition a last h e turn first → Exits g c xs e r first → IsWithin first late → Follows g c scope late callers first rest r
      → Follows g (in_loop c e turn) (xs ++ scope) (outer_limits c xs first late) callers k (task end_turn (finished last (loop_tasks condition a last xs rest))) turn
  ends_loop : {c : Around} {scope xs : List ℕ} {late : List Limit} {callers : List Frame} {rest : Tasks} {e r first k : ℕ}
      → Exits g c xs e r first → Follows g c scope late callers first rest r
      → Follows g (around_loop c) (xs ++ scope) (outer_limits c xs first late) callers k (task (end_loop xs) rest) e
  ends_call : {c : Around} {scope own : List ℕ} {late : List Limit} {callers : List Frame} {k j n m b inner : ℕ} {f : Function} {place : Place} {us : List VarId} {saved : Values} {target : Target} {rest : Tasks} {ret : Option VarId} {s : Stage}
      → IsPoint g inner plain place (Undef us (point (goal_of s))) → AreMade g inner (λ x. x < length f.locals) (stage inner inner m) us → IsResult g f inner ret → inner < c.out
      → Wants g c scope target ret s j b → k ≤ j → IsWithin j late → Follows g c scope late callers j rest b
      → Follows g (in_body f inner) own (limit m (below (length f.locals)) ∷ []) (frame_of c scope late k saved ∷ callers) n (task (end_call saved target) rest) inner

-- whatever holds in this frame holds in that one
abbrev pub Moves : Graph → Frame → Frame → List Frame → Type 0
Moves g f h callers = (values : Values) (vars : Vars) → Held g (with_values f values ∷ callers) vars → Held g (with_values h values ∷ callers) vars

-- where a condition leads, which stands in this frame
pub data Leads (g : Graph) (f : Frame) (callers : List Frame) : Branch → ℕ → Type 0 where
  leads : {c : Around} {scope : List ℕ} {late : List Limit} {k a : ℕ} {tasks : Tasks} → Follows g c scope late callers k tasks a
      → ((values : Values) (vars : Vars) → Held g (with_values f values ∷ callers) vars → Held g (frame_of c scope late k values ∷ callers) vars)
      → Leads g f callers (go_on tasks) a
  leads_to_test : {d : Cond} {x y : Branch} {s : Stage} {t e n k : ℕ} → Tests g f.out d s t e n k → Leads g f callers x t → Leads g f callers y e
      → Leads g f callers (go_on (task (test d x y) done)) (goal_of s)
  leads_to_fault : {place : Place} {a : ℕ} → IsPoint g a plain place Fail → Leads g f callers (fails place) a
  leads_to_stop : {place : Place} {a : ℕ} → IsPoint g a stop place End → Leads g f callers stops a

pub data Match (g : Graph) : Config → flow.Config → Type 0 where
  match : {c : Around} {scope : List ℕ} {late : List Limit} {callers : List Frame} {k a : ℕ} {tasks : Tasks} {values : Values} {vars : Vars} {heap : Heap}
      → Follows g c scope late callers k tasks a → Held g (frame_of c scope late k values ∷ callers) vars
      → Match g (record { tasks = tasks; values = values; heap = heap }) (at a vars heap)
  match_test : {f : Frame} {callers : List Frame} {d : Cond} {x y : Branch} {s : Stage} {t e n k : ℕ} {values : Values} {vars : Vars} {heap : Heap}
      → Tests g f.out d s t e n k → Leads g f callers x t → Leads g f callers y e → Held g (with_values f values ∷ callers) vars
      → Match g (record { tasks = task (test d x y) done; values = values; heap = heap }) (at (goal_of s) vars heap)
  match_always : {f : Frame} {callers : List Frame} {go : Tasks} {role : Role} {place : Place} {h t : ℕ} {values : Values} {vars : Vars} {heap : Heap}
      → IsPoint g h role place (Skip (point t)) → GoesOn role → Leads g f callers (go_on go) t → Held g (with_values f values ∷ callers) vars
      → Match g (record { tasks = task (always go) done; values = values; heap = heap }) (at h vars heap)
  match_taking : {c : Around} {scope : List ℕ} {late : List Limit} {callers : List Frame} {k j b inner : ℕ} {target : Target} {ret : VarId} {v : Option ℤ} {rest : Tasks} {s : Stage} {values : Values} {vars : Vars} {heap : Heap}
      → TakesResult g c scope target ret s j b → slice_get g.owners ret.0 ≡ Some (result inner) → inner < c.out → value_in vars ret ≡ v → k ≤ j → IsWithin j late
      → Follows g c scope late callers j rest b → Held g (frame_of c scope late k values ∷ callers) vars
      → Match g (record { tasks = task (take_result target v) rest; values = values; heap = heap }) (at (goal_of s) vars heap)
  match_end : {place : Place} {a : ℕ} {values : Values} {vars : Vars} {heap : Heap} → IsPoint g a plain place End
      → Match g (record { tasks = done; values = values; heap = heap }) (at a vars heap)

-- ---- how much the source moves before its next step at most
abbrev pub condition_weight : Cond → ℕ
condition_weight (plain_cond place e) = 0
condition_weight (compare place c a b) = 0
condition_weight (negation c) = 1 + condition_weight c
condition_weight (both c d) = 1 + condition_weight c
condition_weight (either c d) = 1 + condition_weight c

abbrev pub perhaps_weight : Option Cond → ℕ
perhaps_weight None = 1
perhaps_weight (Some c) = 1 + condition_weight c

-- a call may have no point before those of the body: what a call of each function comes to is known
abbrev pub action_weight : (ℕ → ℕ) → Action → ℕ
action_weight w (assign l right) = 1
action_weight w (add l e) = 1
action_weight w (subtract l e) = 1
action_weight w (call c) = w c.function

abbrev pub start_weight : (ℕ → ℕ) → Start → ℕ
start_weight w nothing = 0
start_weight w (declares place items) = 1 + length items
start_weight w (begins x) = action_weight w x.action

abbrev mutual
  pub statement_weight : (ℕ → ℕ) → Stmt → ℕ
  statement_weight w (declaration place items) = 1 + length items
  statement_weight w (block xs ss) = 2 + statements_weight w ss
  statement_weight w empty = 1
  statement_weight w (simple x) = action_weight w x.action
  statement_weight w (free place e) = 1
  statement_weight w (assert place c) = 1 + condition_weight c
  statement_weight w (assume place c) = 1 + condition_weight c
  statement_weight w (assume_shape place predicate x args) = 1
  statement_weight w (assert_shape place predicate a args) = 1
  statement_weight w (assert_empty place) = 1
  statement_weight w (if_only place c a) = 1 + condition_weight c
  statement_weight w (if_else place c a b) = 1 + condition_weight c
  statement_weight w (while_loop place c a) = 3 + condition_weight c
  statement_weight w (do_loop place a c) = 4 + (statement_weight w a + condition_weight c)
  statement_weight w (for_loop h a) = 3 + (start_weight w h.start + perhaps_weight h.condition)
  statement_weight w (break_loop place) = 1
  statement_weight w (continue_loop place) = 1
  statement_weight w (returns place right) = 1

  pub statements_weight : (ℕ → ℕ) → Stmts → ℕ
  statements_weight w no_more = 0
  statements_weight w (then a more) = statement_weight w a + statements_weight w more

abbrev pub body_weight : (ℕ → ℕ) → Option Function → ℕ
body_weight w None = 0
body_weight w (Some f) = statements_weight w f.body

-- where so many calls may be open within
abbrev pub call_weights : List Function → (deep : ℕ) → ℕ → ℕ
call_weights fs zero n = 1
call_weights fs (suc deep) n = 2 + body_weight (call_weights fs deep) (slice_get fs n)

-- how many calls are open
abbrev pub depth : Tasks → ℕ
depth done = 0
depth (task (perform a) rest) = depth rest
depth (task (again c a last) rest) = depth rest
depth (task (test c x y) rest) = depth rest
depth (task (always go) rest) = depth rest
depth (task (end_block xs) rest) = depth rest
depth (task (end_loop xs) rest) = depth rest
depth (task end_turn rest) = depth rest
depth (task (end_call saved target) rest) = suc (depth rest)
depth (task (take_result target v) rest) = depth rest

abbrev pub calls_at : Graph → Tasks → ℕ → ℕ
calls_at g rest = call_weights g.program.functions (length g.flow.points - depth rest)

abbrev pub task_weight : (ℕ → ℕ) → Task → ℕ
task_weight w (perform a) = statement_weight w a
task_weight w (again c a last) = perhaps_weight c
task_weight w (test c x y) = condition_weight c
task_weight w (always go) = 0
task_weight w (end_block xs) = 1
task_weight w (end_loop xs) = 1
task_weight w end_turn = 1
task_weight w (end_call saved target) = 1
task_weight w (take_result target v) = 0

abbrev pub weight : Graph → Tasks → ℕ
weight g done = 0
weight g (task t rest) = task_weight (calls_at g rest) t + weight g rest

depth_in_a_row : (ss : Stmts) (rest : Tasks) → depth (in_a_row ss rest) ≡ depth rest
depth_in_a_row no_more rest = refl
depth_in_a_row (then a more) rest = depth_in_a_row more rest

pub weight_in_a_row : (g : Graph) (ss : Stmts) (rest : Tasks) → weight g (in_a_row ss rest) ≡ statements_weight (calls_at g rest) ss + weight g rest
weight_in_a_row g no_more rest = omega arith
weight_in_a_row g (then a more) rest =
    let same : statement_weight (calls_at g (in_a_row more rest)) a ≡ statement_weight (calls_at g rest) a =
    ap (λ d. statement_weight (call_weights g.program.functions (length g.flow.points - d)) a) (depth_in_a_row more rest) in
    omega (arith, same, weight_in_a_row g more rest)

depth_finished : (last : Option Simple) (rest : Tasks) → depth (finished last rest) ≡ depth rest
depth_finished None rest = refl
depth_finished (Some x) rest = refl

-- calls within one another have fewer and fewer points
pub deep : {g : Graph} {c : Around} {scope : List ℕ} {late : List Limit} {callers : List Frame} {k a : ℕ} {tasks : Tasks} → Follows g c scope late callers k tasks a → c.out + depth tasks < length g.flow.points
deep {g} (over {out = out} fall same is) = let within : out < length g.flow.points = slice_get_within g.flow.points out _ is.there in omega (arith, within)
deep (performs is scoped bound within low later) = deep later
deep (skips is later) = deep later
deep (raises low later) = deep later
deep (ends_block leave low later) = deep later
deep (agains loops way_out within later) = deep later
deep (ends_turn {xs = xs} {condition = condition} {a = a} {last = last} {rest = rest} loops way_out within later) =
    let there = deep later in omega (arith, there, depth_finished last (loop_tasks condition a last xs rest))
deep (ends_loop way_out later) = deep later
deep (ends_call is made res inside wanted low within later) = let there = deep later in omega (arith, there, inside)

-- a call comes to more than its body
pub call_heavy : (g : Graph) (f : Function) (n : ℕ) (saved : Values) (target : Target) (rest : Tasks) → slice_get g.program.functions n ≡ Some f → depth rest < length g.flow.points
    → weight g (in_a_row f.body (task (end_call saved target) rest)) < calls_at g rest n + weight g rest
call_heavy g f n saved target rest is less =
    let further : length g.flow.points - depth rest ≡ suc (length g.flow.points - suc (depth rest)) = omega (arith, less) in
    let same : calls_at g rest n ≡ 2 + body_weight (call_weights g.program.functions (length g.flow.points - suc (depth rest))) (slice_get g.program.functions n) =
    ap (λ d. call_weights g.program.functions d n) further in
    let body : body_weight (call_weights g.program.functions (length g.flow.points - suc (depth rest))) (slice_get g.program.functions n)
    ≡ statements_weight (call_weights g.program.functions (length g.flow.points - suc (depth rest))) f.body =
    ap (body_weight (call_weights g.program.functions (length g.flow.points - suc (depth rest)))) is in
    omega (arith, same, body, weight_in_a_row g f.body (task (end_call saved target) rest))

-- ---- statements in a row
pub within_less : (n m : ℕ) (ls : List Limit) → n ≤ m → IsWithin m ls → IsWithin n ls
within_less n m [] less within = tt
within_less n m (l ∷ ls) less within = (omega (arith, less, within.0), within_less n m ls less within.1)

pub follows_in_a_row : {g : Graph} {c : Around} {scope : List ℕ} {late : List Limit} {callers : List Frame} {rest : Tasks} {s u : Stage} (ss : Stmts) (k : ℕ)
    → LowersAll g c ss s u → AreScopedIn (length c.function.locals) scope ss → points_of u ≤ c.out → IsWithin (variables_of u) late → k ≤ variables_of s
    → Follows g c scope late callers (variables_of u) rest (goal_of u) → Follows g c scope late callers k (in_a_row ss rest) (goal_of s)
follows_in_a_row no_more k lowers_none scoped bound within low later = raises low later
follows_in_a_row {late = late} {u = u} (then a more) k (lowers_next {m = m} first rest) scoped bound within low later =
    let grown = Rattle.mc_lower_spec.proofs.Growing.all_lowered rest in
    performs first scoped.0 (omega (arith, grown.points, bound)) (within_less (variables_of m) (variables_of u) late grown.variables within) low
    (follows_in_a_row more (variables_of m) rest scoped.1 bound within (omega arith) later)

-- ---- limits and scopes
pub late_raised : (g : Graph) (out : ℕ) (values : Values) (k j : ℕ) (xs : List ℕ) → k ≤ j → IsLate g out values (limit k xs) → IsLate g out values (limit j xs)
late_raised g out values k j xs less late x v there owned from = late x v there owned (omega (arith, less, from))

pub no_late : (g : Graph) (out : ℕ) (values : Values) (k : ℕ) → IsLate g out values (limit k [])
no_late g out values k x v there owned from = absurd (omega (arith, there.1))

-- the first limit is another one
pub limited : (g : Graph) (c d : Around) (scope : List ℕ) (late : List Limit) (callers : List Frame) (k j : ℕ) (values : Values) (vars : Vars) → c.out ≡ d.out → c.function ≡ d.function
    → (AreLate g c.out values (limit k c.blocks ∷ late) → IsLate g c.out values (limit j d.blocks))
    → Held g (frame_of c scope late k values ∷ callers) vars → Held g (frame_of d scope late j values ∷ callers) vars
limited g c d scope late callers k j values vars same_point same_function later h =
    let there : Held g (record { out = c.out; function = c.function; scope = scope; limits = limit j d.blocks ∷ late; values = values } ∷ callers) vars =
    rescoped g (frame_of c scope late k values) callers vars scope (limit j d.blocks ∷ late) h.all.0.scoped (later h.all.0.late, h.all.0.late.1) h in
    subst (λ out. Held g (record { out = out; function = d.function; scope = scope; limits = limit j d.blocks ∷ late; values = values } ∷ callers) vars) same_point
    (subst (λ f. Held g (record { out = c.out; function = f; scope = scope; limits = limit j d.blocks ∷ late; values = values } ∷ callers) vars) same_function there)

pub held_raised : (g : Graph) (c : Around) (scope : List ℕ) (late : List Limit) (callers : List Frame) (k j : ℕ) (values : Values) (vars : Vars) → k ≤ j
    → Held g (frame_of c scope late k values ∷ callers) vars → Held g (frame_of c scope late j values ∷ callers) vars
held_raised g c scope late callers k j values vars less h =
    limited g c c scope late callers k j values vars refl refl (λ ls. late_raised g c.out values k j c.blocks less ls.0) h
