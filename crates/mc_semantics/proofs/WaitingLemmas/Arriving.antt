-- The next step is always reached: what is done before it comes to an end.
use Rattle.std.proofs.Common.{◌≡◌, ◌+◌, ◌<◌, ◌≤◌, ℕ, ℤ, suc, List, [], ◌∷◌, Option, Some, None, arith}
use Rattle.mc_c_syntax.specs.Ast.Trees.{Cond, plain, compare, negation, enclosed, both, either, InitialTree, Start, nothing, declares, performs, Stmt, declaration, block, empty, simple, free, assert, assume, assume_shape, assert_shape, assert_empty, if_only, if_else, while_loop, do_loop, for_loop, break_loop, continue_loop, returns, Stmts, no_more, then}
use Rattle.mc_c_types.specs.Scopes.{Scope, visible, inside, behind, behind_start}
use Rattle.mc_c_types.specs.Tables.{Tables, Variable}
use Rattle.mc_semantics.specs.Configs.{Values, without, Target, nowhere, stored, returned, perform, declare_all, finish_turn, again, test, always, end_block, end_loop, end_turn, end_call, take_result, Task, Tasks, done, task, Branch}
use Rattle.mc_semantics.specs.Moves.{in_a_row, block_variables, head_variables, started, for_turn, tested, behind_loop, at_turn, given, entered, at_condition, taken_apart, declared_all, moved}

-- ---- how much is done at most before the next step
abbrev pub cond_weight : Cond → ℕ
cond_weight (plain e) = 0
cond_weight (compare c x y) = 0
cond_weight (negation p c) = suc (cond_weight c)
cond_weight (enclosed p c) = suc (cond_weight c)
cond_weight (both c d) = suc (cond_weight c)
cond_weight (either c d) = suc (cond_weight c)

abbrev maybe_weight : Option Cond → ℕ
maybe_weight None = 0
maybe_weight (Some c) = cond_weight c

abbrev loop_weight : Stmt → ℕ
loop_weight (while_loop p c a) = suc (cond_weight c)
loop_weight (do_loop p a c) = suc (cond_weight c)
loop_weight (for_loop h a) = suc (maybe_weight h.condition)
loop_weight (declaration d) = 0
loop_weight (block p ss) = 0
loop_weight (empty p) = 0
loop_weight (simple x) = 0
loop_weight (free p e) = 0
loop_weight (assert p c) = 0
loop_weight (assume p c) = 0
loop_weight (assume_shape p predicate x args) = 0
loop_weight (assert_shape p predicate a args) = 0
loop_weight (assert_empty p) = 0
loop_weight (if_only p c a) = 0
loop_weight (if_else p c a b) = 0
loop_weight (break_loop p) = 0
loop_weight (continue_loop p) = 0
loop_weight (returns p r) = 0

abbrev mutual
  pub weight : Stmt → ℕ
  weight (declaration d) = 2
  weight (block p ss) = 2 + row_weight ss
  weight (empty p) = 1
  weight (simple x) = 0
  weight (free p e) = 0
  weight (assert p c) = suc (cond_weight c)
  weight (assume p c) = suc (cond_weight c)
  weight (assume_shape p predicate x args) = 0
  weight (assert_shape p predicate a args) = 0
  weight (assert_empty p) = 0
  weight (if_only p c a) = suc (cond_weight c)
  weight (if_else p c a b) = suc (cond_weight c)
  weight (while_loop p c a) = 3 + cond_weight c
  weight (do_loop p a c) = 4 + (weight a + cond_weight c)
  weight (for_loop h a) = 4 + maybe_weight h.condition
  weight (break_loop p) = 1
  weight (continue_loop p) = 1
  weight (returns p r) = 0

  pub row_weight : Stmts → ℕ
  row_weight no_more = 0
  row_weight (then a more) = weight a + row_weight more

abbrev task_weight : Task → ℕ
task_weight (perform s a) = weight a
task_weight (declare_all s p base items) = 1
task_weight (finish_turn vs x) = 0
task_weight (again s a) = loop_weight a
task_weight (test vs c a b) = cond_weight c
task_weight (always go) = 0
task_weight (end_block vs) = 1
task_weight (end_loop vs) = 1
task_weight end_turn = 1
task_weight (end_call v target) = 1
task_weight (take_result target v) = 0

abbrev pub tasks_weight : Tasks → ℕ
tasks_weight done = 0
tasks_weight (task x rest) = task_weight x + tasks_weight rest

-- less is left to do than so much
abbrev pub IsLess : ℕ → Option (Values × Tasks) → Type 0
IsLess n None = Unit {0}
IsLess n (Some p) = tasks_weight p.1 < n

row : (t : Tables) (s : Scope) (ss : Stmts) (rest : Tasks) → tasks_weight (in_a_row t s ss rest) ≡ row_weight ss + tasks_weight rest
row t s no_more rest = omega arith
row t s (then a more) rest = (let e = row t (behind t s a) more rest in omega arith)

less_on : (o : Option (Values × Tasks)) (n m : ℕ) → n ≤ m → IsLess n o → IsLess m o
less_on None n m le less = tt
less_on (Some p) n m le less = omega arith

less_loop : (v : Values) (ts : Tasks) → IsLess (suc (tasks_weight ts)) (behind_loop v ts)
less_loop v done = tt
less_loop v (task (end_loop vs) rest) = omega arith
less_loop v (task (end_call saved target) rest) = tt
less_loop v (task (perform s a) rest) = less_on (behind_loop v rest) _ _ (omega arith) (less_loop v rest)
less_loop v (task (declare_all s p base items) rest) = less_on (behind_loop v rest) _ _ (omega arith) (less_loop v rest)
less_loop v (task (finish_turn vs x) rest) = less_on (behind_loop v rest) _ _ (omega arith) (less_loop v rest)
less_loop v (task (again s a) rest) = less_on (behind_loop v rest) _ _ (omega arith) (less_loop v rest)
less_loop v (task (test vs c a b) rest) = less_on (behind_loop v rest) _ _ (omega arith) (less_loop v rest)
less_loop v (task (always go) rest) = less_on (behind_loop v rest) _ _ (omega arith) (less_loop v rest)
less_loop v (task (end_block vs) rest) = less_on (behind_loop (without vs v) rest) _ _ (omega arith) (less_loop (without vs v) rest)
less_loop v (task end_turn rest) = less_on (behind_loop v rest) _ _ (omega arith) (less_loop v rest)
less_loop v (task (take_result target w) rest) = less_on (behind_loop v rest) _ _ (omega arith) (less_loop v rest)

less_turn : (v : Values) (ts : Tasks) → IsLess (suc (tasks_weight ts)) (at_turn v ts)
less_turn v done = tt
less_turn v (task end_turn rest) = omega arith
less_turn v (task (end_call saved target) rest) = tt
less_turn v (task (perform s a) rest) = less_on (at_turn v rest) _ _ (omega arith) (less_turn v rest)
less_turn v (task (declare_all s p base items) rest) = less_on (at_turn v rest) _ _ (omega arith) (less_turn v rest)
less_turn v (task (finish_turn vs x) rest) = less_on (at_turn v rest) _ _ (omega arith) (less_turn v rest)
less_turn v (task (again s a) rest) = less_on (at_turn v rest) _ _ (omega arith) (less_turn v rest)
less_turn v (task (test vs c a b) rest) = less_on (at_turn v rest) _ _ (omega arith) (less_turn v rest)
less_turn v (task (always go) rest) = less_on (at_turn v rest) _ _ (omega arith) (less_turn v rest)
less_turn v (task (end_block vs) rest) = less_on (at_turn (without vs v) rest) _ _ (omega arith) (less_turn (without vs v) rest)
less_turn v (task (end_loop vs) rest) = less_on (at_turn v rest) _ _ (omega arith) (less_turn v rest)
less_turn v (task (take_result target w) rest) = less_on (at_turn v rest) _ _ (omega arith) (less_turn v rest)

start_less : (s : Scope) (h : Start) (rest : Tasks) → tasks_weight (started s h rest) ≤ suc (tasks_weight rest)
start_less s nothing rest = omega arith
start_less s (declares d) rest = omega arith
start_less s (performs x) rest = omega arith

less_entered : (t : Tables) (v : Values) (s : Scope) (a : Stmt) (rest : Tasks) → IsLess (weight a + tasks_weight rest) (entered t v s a rest)
less_entered t v s (declaration d) rest = omega arith
less_entered t v s (block p ss) rest = (let e = row t (inside s) ss (task (end_block (block_variables t (inside s) ss)) rest) in omega arith)
less_entered t v s (empty p) rest = omega arith
less_entered t v s (simple x) rest = tt
less_entered t v s (free p e) rest = tt
less_entered t v s (assert p c) rest = omega arith
less_entered t v s (assume p c) rest = omega arith
less_entered t v s (assume_shape p predicate x args) rest = tt
less_entered t v s (assert_shape p predicate a args) rest = tt
less_entered t v s (assert_empty p) rest = tt
less_entered t v s (if_only p c a) rest = omega arith
less_entered t v s (if_else p c a b) rest = omega arith
less_entered t v s (while_loop p c a) rest = omega arith
less_entered t v s (do_loop p a c) rest = omega arith
less_entered t v s (for_loop h a) rest =
    (let e = start_less s h.start (task (again s (for_loop h a)) (task (end_loop (head_variables t s h.start)) rest)) in omega arith)
less_entered t v s (break_loop p) rest = less_on (behind_loop v rest) _ _ (omega arith) (less_loop v rest)
less_entered t v s (continue_loop p) rest = less_on (at_turn v rest) _ _ (omega arith) (less_turn v rest)
less_entered t v s (returns p r) rest = tt

less_tested : (vs : List Variable) (o : Option Cond) (go rest : Tasks) → tasks_weight (tested vs o go rest) ≤ maybe_weight o
less_tested vs None go rest = omega arith
less_tested vs (Some c) go rest = omega arith

less_again : (t : Tables) (v : Values) (s : Scope) (a : Stmt) (rest : Tasks) → IsLess (loop_weight a + tasks_weight rest) (at_condition t v s a rest)
less_again t v s (while_loop p c a) rest = omega arith
less_again t v s (do_loop p a c) rest = omega arith
less_again t v s (for_loop h a) rest = (let e = less_tested (visible (behind_start t s h.start)) h.condition (for_turn t s h a rest) rest in omega arith)
less_again t v s (declaration d) rest = tt
less_again t v s (block p ss) rest = tt
less_again t v s (empty p) rest = tt
less_again t v s (simple x) rest = tt
less_again t v s (free p e) rest = tt
less_again t v s (assert p c) rest = tt
less_again t v s (assume p c) rest = tt
less_again t v s (assume_shape p predicate x args) rest = tt
less_again t v s (assert_shape p predicate a args) rest = tt
less_again t v s (assert_empty p) rest = tt
less_again t v s (if_only p c a) rest = tt
less_again t v s (if_else p c a b) rest = tt
less_again t v s (break_loop p) rest = tt
less_again t v s (continue_loop p) rest = tt
less_again t v s (returns p r) rest = tt

less_apart : (v : Values) (vs : List Variable) (c : Cond) (a b : Branch) (rest : Tasks) → IsLess (cond_weight c + tasks_weight rest) (taken_apart v vs c a b)
less_apart v vs (plain e) a b rest = tt
less_apart v vs (compare c x y) a b rest = tt
less_apart v vs (negation p c) a b rest = omega arith
less_apart v vs (enclosed p c) a b rest = omega arith
less_apart v vs (both c d) a b rest = omega arith
less_apart v vs (either c d) a b rest = omega arith

less_declared : (v : Values) (items : List InitialTree) (rest : Tasks) → IsLess (1 + tasks_weight rest) (declared_all v items rest)
less_declared v [] rest = omega arith
less_declared v (item ∷ items) rest = tt

less_given : (target : Target) (v : Option ℤ) (rest : Tasks) → tasks_weight (given target v rest) ≤ tasks_weight rest
less_given nowhere v rest = omega arith
less_given (stored vs l p) v rest = omega arith
less_given (returned p) v rest = omega arith

pub less : (t : Tables) (v : Values) (ts : Tasks) → IsLess (tasks_weight ts) (moved t v ts)
less t v done = tt
less t v (task (perform s a) rest) = less_entered t v s a rest
less t v (task (declare_all s p base items) rest) = less_declared v items rest
less t v (task (finish_turn vs x) rest) = tt
less t v (task (again s a) rest) = less_again t v s a rest
less t v (task (test vs c a b) rest) = less_apart v vs c a b rest
less t v (task (always go) rest) = tt
less t v (task (end_block vs) rest) = omega arith
less t v (task (end_loop vs) rest) = omega arith
less t v (task end_turn rest) = omega arith
less t v (task (end_call saved target) rest) = (let e = less_given target None rest in omega arith)
less t v (task (take_result target w) rest) = tt
