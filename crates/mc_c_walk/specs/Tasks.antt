-- What is still to be done of a walk, the next first.
use Rattle.std.specs.Prelude.{◌≡◌, ℕ, ◌+◌, Bool, List, [], ◌∷◌, ◌++◌, Option, Some, None, map}
use Rattle.mc_c_syntax.specs.Ast.Trees.{InitialTree, Start, nothing, declares, performs, Stmt, declaration, block, empty}
use Rattle.mc_c_syntax.specs.Ast.Trees.{simple, free, assert, assume, assume_shape, assert_shape, assert_empty, if_only}
use Rattle.mc_c_syntax.specs.Ast.Trees.{if_else, while_loop, do_loop, for_loop, break_loop, continue_loop, returns, Stmts}
use Rattle.mc_c_syntax.specs.Ast.Trees.{no_more, then, stmts_of}
use Rattle.mc_c_syntax.specs.Ast.Views.{initial_of, statement_of}
use Rattle.mc_c_types.specs.Scopes.{Scope, behind, behind_items, declare}
use Rattle.mc_c_types.specs.Tables.{Tables, variable_of}
use Rattle.mc_c_walk.specs.Parting.{as_head, behind_heads, outside}
use Rattle.mc_c_walk.specs.Parts.{part_of}
use Rattle.mc_c_walk.specs.Visits.{Visit, visit, items_visits, statement_visits, statements_visits}
use Rattle.mc_c_walk.specs.declared.parts.Part.{Part}
use Rattle.mc_c_walk.specs.declared.tasks.Task.{Task}
use Rattle.mc_c_walk.specs.declared.walking.Walk.{Walk}

-- after several statements
abbrev pub behind_all : Tables → Scope → Stmts → Scope
behind_all t s no_more = s
behind_all t s (then a rest) = behind_all t (behind t s a) rest

-- the parts that a task has
abbrev pub task_visits : Tables → Scope → Task → List Visit
task_visits t s (Task.Visit part) = visit s (part_of part) ∷ []
task_visits t s (Task.Whole a in_loop) = statement_visits t in_loop s (statement_of a.now.value)
task_visits t s (Task.Several ss in_loop) = statements_visits t in_loop s (stmts_of (map statement_of ss.now))
task_visits t s (Task.Items base items) = items_visits t base.now s (map initial_of items.now)
task_visits t s (Task.Declare base d) = []
task_visits t s (Task.EndBlock marks) = []
task_visits t s (Task.EndStart marks) = []
task_visits t s (Task.EndFor heads) = []

-- the scope after it
abbrev pub behind_task : Tables → Scope → Task → Scope
behind_task t s (Task.Visit part) = s
behind_task t s (Task.Whole a in_loop) = behind t s (statement_of a.now.value)
behind_task t s (Task.Several ss in_loop) = behind_all t s (stmts_of (map statement_of ss.now))
behind_task t s (Task.Items base items) = behind_items t base.now s (map initial_of items.now)
behind_task t s (Task.Declare base d) = declare s (variable_of t base.now d.now)
behind_task t s (Task.EndBlock marks) = outside marks s
behind_task t s (Task.EndStart marks) = as_head marks s
behind_task t s (Task.EndFor heads) = behind_heads heads s

-- the parts of all tasks
abbrev pub pending : Tables → Scope → List Task → List Visit
pending t s [] = []
pending t s (task ∷ tasks) = task_visits t s task ++ pending t (behind_task t s task) tasks

-- the parts that a walk has not given yet
abbrev pub rest : Tables → Walk → List Visit
rest t walk = pending t walk.scope walk.tasks

-- the part that is given, if one is, where the walk then stands
abbrev pub given : Scope → Option Part → List Visit
given s None = []
given s (Some part) = visit s (part_of part) ∷ []

-- before what the walk has still to do stands a statement
abbrev pub HasNext : Walk → Bool → Stmt → Walk → Type 0
HasNext before in_loop a after = (t : Tables) → rest t after ≡ statement_visits t in_loop before.scope a
    ++ pending t (behind t before.scope a) before.tasks

-- ---- how many steps it takes
abbrev pub items_steps : List InitialTree → ℕ
items_steps [] = 1
items_steps (item ∷ items) = items_steps items + 4

abbrev pub start_steps : Start → ℕ
start_steps nothing = 1
start_steps (declares d) = items_steps d.items + 2
start_steps (performs x) = 2

abbrev mutual
  pub statement_steps : Stmt → ℕ
  statement_steps (declaration d) = items_steps d.items + 1
  statement_steps (block p ss) = statements_steps ss + 2
  statement_steps (empty p) = 1
  statement_steps (simple x) = 2
  statement_steps (free p e) = 2
  statement_steps (assert p c) = 2
  statement_steps (assume p c) = 2
  statement_steps (assume_shape p predicate x args) = 2
  statement_steps (assert_shape p predicate a args) = 2
  statement_steps (assert_empty p) = 1
  statement_steps (if_only p c a) = statement_steps a + 2
  statement_steps (if_else p c a b) = statement_steps a + statement_steps b + 2
  statement_steps (while_loop p c a) = statement_steps a + 2
  statement_steps (do_loop p a c) = statement_steps a + 2
  statement_steps (for_loop h a) = start_steps h.start + statement_steps a + 4
  statement_steps (break_loop p) = 2
  statement_steps (continue_loop p) = 2
  statement_steps (returns p value) = 2

  pub statements_steps : Stmts → ℕ
  statements_steps no_more = 1
  statements_steps (then a rest) = statement_steps a + statements_steps rest + 1

abbrev pub task_steps : Task → ℕ
task_steps (Task.Visit part) = 1
task_steps (Task.Whole a in_loop) = statement_steps (statement_of a.now.value)
task_steps (Task.Several ss in_loop) = statements_steps (stmts_of (map statement_of ss.now))
task_steps (Task.Items base items) = items_steps (map initial_of items.now)
task_steps (Task.Declare base d) = 1
task_steps (Task.EndBlock marks) = 1
task_steps (Task.EndStart marks) = 1
task_steps (Task.EndFor heads) = 1

abbrev pub tasks_steps : List Task → ℕ
tasks_steps [] = 0
tasks_steps (task ∷ tasks) = task_steps task + tasks_steps tasks
