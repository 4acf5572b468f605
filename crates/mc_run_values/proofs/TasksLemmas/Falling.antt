-- What falls with each move: conditions and statements that are entered, and tasks that are gone.
use Rattle.std.proofs.Common.{◌≡◌, ℕ, ◌+◌, ◌<◌, ◌≤◌, Option, Some, None, [], ◌∷◌, ap, arith}
use Rattle.mc_semantics.specs.Resolved.Programs.{Cond, plain, compare, negation, both, either, Start, nothing, declares, performs}
use Rattle.mc_semantics.specs.Resolved.Programs.{Stmt, declaration, block, empty, simple, free, assert, assume, assume_shape}
use Rattle.mc_semantics.specs.Resolved.Programs.{assert_shape, assert_empty, if_only, if_else, while_loop, do_loop, for_loop}
use Rattle.mc_semantics.specs.Resolved.Programs.{break_loop, continue_loop, returns, Stmts, no_more, then, Simple}
use Rattle.mc_semantics.specs.Resolved.Configs.{Values, without, nowhere, stored, returned, Task, perform, again, test}
use Rattle.mc_semantics.specs.Resolved.Configs.{always, end_block, end_loop, end_turn, end_call, take_result, Tasks, done, task, Branch}
use Rattle.mc_semantics.specs.Resolved.Moves.{in_a_row, started, behind_loop, at_turn, moved}

abbrev pub condition_weight : Cond → ℕ
condition_weight (plain p e) = 1
condition_weight (compare p mark x y) = 1
condition_weight (negation c) = condition_weight c + 1
condition_weight (both c d) = condition_weight c + 1
condition_weight (either c d) = condition_weight c + 1

abbrev pub again_weight : Option Cond → ℕ
again_weight None = 1
again_weight (Some c) = condition_weight c + 1

abbrev pub start_weight : Start → ℕ
start_weight nothing = 0
start_weight (declares p items) = 1
start_weight (performs x) = 1

abbrev pub finish_weight : Option Simple → ℕ
finish_weight None = 0
finish_weight (Some x) = 1

abbrev mutual
  pub statement_weight : Stmt → ℕ
  statement_weight (declaration p items) = 1
  statement_weight (block xs ss) = row_weight ss + 2
  statement_weight empty = 1
  statement_weight (simple x) = 1
  statement_weight (free p e) = 1
  statement_weight (assert p c) = condition_weight c + 1
  statement_weight (assume p c) = condition_weight c + 1
  statement_weight (assume_shape p predicate x args) = 1
  statement_weight (assert_shape p predicate a args) = 1
  statement_weight (assert_empty p) = 1
  statement_weight (if_only p c a) = condition_weight c + 1
  statement_weight (if_else p c a b) = condition_weight c + 1
  statement_weight (while_loop p c a) = condition_weight c + 3
  statement_weight (do_loop p a c) = statement_weight a + condition_weight c + 4
  statement_weight (for_loop h a) = start_weight h.start + again_weight h.condition + 2
  statement_weight (break_loop p) = 1
  statement_weight (continue_loop p) = 1
  statement_weight (returns p r) = 1

  pub row_weight : Stmts → ℕ
  row_weight no_more = 0
  row_weight (then a more) = statement_weight a + row_weight more

abbrev pub task_weight : Task → ℕ
task_weight (perform a) = statement_weight a
task_weight (again c a ends) = again_weight c
task_weight (test c a b) = condition_weight c
task_weight (always go) = 0
task_weight (end_block xs) = 1
task_weight (end_loop xs) = 1
task_weight end_turn = 1
task_weight (end_call saved target) = 1
task_weight (take_result target v) = 0

abbrev pub weight : Tasks → ℕ
weight done = 0
weight (task t rest) = task_weight t + weight rest

abbrev pub weight_in : Option (Values × Tasks) → ℕ
weight_in None = 0
weight_in (Some p) = weight p.1

weight-row : (ss : Stmts) (rest : Tasks) → weight (in_a_row ss rest) ≡ row_weight ss + weight rest
weight-row no_more rest = omega arith
weight-row (then a more) rest = omega (arith, weight-row more rest)

weight-started : (start : Start) (rest : Tasks) → weight (started start rest) ≡ start_weight start + weight rest
weight-started nothing rest = omega arith
weight-started (declares p items) rest = omega arith
weight-started (performs x) rest = omega arith

behind-falls : (values : Values) (tasks : Tasks) → weight_in (behind_loop values tasks) ≤ weight tasks
behind-falls values done = omega arith
behind-falls values (task (end_loop xs) rest) = omega arith
behind-falls values (task (end_block xs) rest) = omega (arith, behind-falls (without xs values) rest)
behind-falls values (task (perform a) rest) = omega (arith, behind-falls values rest)
behind-falls values (task (again c a ends) rest) = omega (arith, behind-falls values rest)
behind-falls values (task (test c a b) rest) = omega (arith, behind-falls values rest)
behind-falls values (task (always go) rest) = omega (arith, behind-falls values rest)
behind-falls values (task end_turn rest) = omega (arith, behind-falls values rest)
behind-falls values (task (end_call saved target) rest) = omega arith
behind-falls values (task (take_result target v) rest) = omega (arith, behind-falls values rest)

turn-falls : (values : Values) (tasks : Tasks) → weight_in (at_turn values tasks) ≤ weight tasks
turn-falls values done = omega arith
turn-falls values (task end_turn rest) = omega arith
turn-falls values (task (end_block xs) rest) = omega (arith, turn-falls (without xs values) rest)
turn-falls values (task (perform a) rest) = omega (arith, turn-falls values rest)
turn-falls values (task (again c a ends) rest) = omega (arith, turn-falls values rest)
turn-falls values (task (test c a b) rest) = omega (arith, turn-falls values rest)
turn-falls values (task (always go) rest) = omega (arith, turn-falls values rest)
turn-falls values (task (end_loop xs) rest) = omega (arith, turn-falls values rest)
turn-falls values (task (end_call saved target) rest) = omega arith
turn-falls values (task (take_result target v) rest) = omega (arith, turn-falls values rest)

entered-falls : (values : Values) (a : Stmt) (rest : Tasks) (later : Values) (next : Tasks)
    → moved values (task (perform a) rest) ≡ Some (later, next) → weight next < statement_weight a + weight rest
entered-falls values (declaration p []) rest later next h = omega (arith, ap weight_in h)
entered-falls values (declaration p (item ∷ items)) rest later next h = cc
entered-falls values (block xs ss) rest later next h = omega (arith, ap weight_in h, weight-row ss (task (end_block xs) rest))
entered-falls values empty rest later next h = omega (arith, ap weight_in h)
entered-falls values (simple x) rest later next h = cc
entered-falls values (free p e) rest later next h = cc
entered-falls values (assert p c) rest later next h = omega (arith, ap weight_in h)
entered-falls values (assume p c) rest later next h = omega (arith, ap weight_in h)
entered-falls values (assume_shape p predicate x args) rest later next h = cc
entered-falls values (assert_shape p predicate a args) rest later next h = cc
entered-falls values (assert_empty p) rest later next h = cc
entered-falls values (if_only p c a) rest later next h = omega (arith, ap weight_in h)
entered-falls values (if_else p c a b) rest later next h = omega (arith, ap weight_in h)
entered-falls values (while_loop p c a) rest later next h = omega (arith, ap weight_in h)
entered-falls values (do_loop p a c) rest later next h = omega (arith, ap weight_in h)
entered-falls values (for_loop head a) rest later next h =
    omega (arith, ap weight_in h, weight-started head.start (task (again head.condition a head.last) (task (end_loop head.variables) rest)))
entered-falls values (break_loop p) rest later next h = omega (arith, ap weight_in h, behind-falls values rest)
entered-falls values (continue_loop p) rest later next h = omega (arith, ap weight_in h, turn-falls values rest)
entered-falls values (returns p r) rest later next h = cc

parts-fall : (values : Values) (c : Cond) (rest : Tasks) (later : Values) (next : Tasks) (a b : Branch)
    → moved values (task (test c a b) rest) ≡ Some (later, next) → weight next < condition_weight c + weight rest
parts-fall values (plain p e) rest later next a b h = cc
parts-fall values (compare p mark x y) rest later next a b h = cc
parts-fall values (negation c) rest later next a b h = omega (arith, ap weight_in h)
parts-fall values (both c d) rest later next a b h = omega (arith, ap weight_in h)
parts-fall values (either c d) rest later next a b h = omega (arith, ap weight_in h)

-- a run of moves ends
pub moved-falls : (values : Values) (tasks : Tasks) (later : Values) (next : Tasks) → moved values tasks ≡ Some (later, next) → weight next < weight tasks
moved-falls values done later next h = cc
moved-falls values (task (perform a) rest) later next h = entered-falls values a rest later next h
moved-falls values (task (again None a ends) rest) later next h = omega (arith, ap weight_in h)
moved-falls values (task (again (Some c) a ends) rest) later next h = omega (arith, ap weight_in h)
moved-falls values (task (test c a b) rest) later next h = parts-fall values c rest later next a b h
moved-falls values (task (always go) rest) later next h = cc
moved-falls values (task (end_block xs) rest) later next h = omega (arith, ap weight_in h)
moved-falls values (task (end_loop xs) rest) later next h = omega (arith, ap weight_in h)
moved-falls values (task end_turn rest) later next h = omega (arith, ap weight_in h)
moved-falls values (task (end_call saved nowhere) rest) later next h = omega (arith, ap weight_in h)
moved-falls values (task (end_call saved (stored l p)) rest) later next h = omega (arith, ap weight_in h)
moved-falls values (task (end_call saved (returned p)) rest) later next h = omega (arith, ap weight_in h)
moved-falls values (task (take_result target v) rest) later next h = cc
