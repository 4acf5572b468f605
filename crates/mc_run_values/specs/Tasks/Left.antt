-- What the code's stack leaves to do.
use Rattle.std.specs.Prelude.{List, [], ◌∷◌, Option, map, option_map}
use Rattle.mc_semantics.specs.Resolved.Programs.{Cond, plain, compare, Head, Simple, Stmt, declaration, simple}
use Rattle.mc_semantics.specs.Resolved.Configs.{Target, nowhere, stored, returned, perform, again, test, always, end_block}
use Rattle.mc_semantics.specs.Resolved.Configs.{end_loop, end_turn, end_call, take_result, Tasks, done, task, Branch, go_on}
use Rattle.mc_semantics.specs.Resolved.Configs.{fails, stops}
use Rattle.mc_semantics.specs.Resolved.Moves.{in_a_row, started, turn}
use Rattle.mc_semantics.specs.Resolved.Views.{condition_of, expression_of, initial_of, left_of, simple_of, statement_of, stmts_of}
use Rattle.mc_run_values.specs.declared.tasks.next.Atom.{Atom}
use Rattle.mc_run_values.specs.declared.tasks.tasks.Target.{Target as TargetCode}
use Rattle.mc_run_values.specs.declared.tasks.tasks.Turns.{Turns}
use Rattle.mc_run_values.specs.declared.tasks.tasks.Waiting.{Waiting}
use Rattle.mc_run_values.specs.declared.tasks.tasks.Task.{Task}

abbrev pub target_of : TargetCode → Target
target_of TargetCode.Nowhere = nowhere
target_of (TargetCode.Variable x p) = stored (record { variable = x; fields = [] }) p
target_of (TargetCode.Stored l p) = stored (left_of l.now) p
target_of (TargetCode.Returned p) = returned p

-- an atomic condition
abbrev pub atom_of : Atom → Cond
atom_of (Atom.Plain p e) = plain p (expression_of e.now)
atom_of (Atom.Compare p c x y) = compare p c (expression_of x.now) (expression_of y.now)

-- ---- loops
abbrev pub condition_in : Turns → Option Cond
condition_in t = option_map (λ c. condition_of c.now) t.condition

abbrev pub body_of : Turns → Stmt
body_of t = statement_of t.body.now

abbrev pub last_of : Turns → Option Simple
last_of t = option_map (λ x. simple_of x.now) t.last

-- a turn of the loop, and the loop again
abbrev pub turn_of : Turns → Tasks → Tasks
turn_of t rest = turn (condition_in t) (body_of t) (last_of t) rest

-- ---- conditions
-- where a condition leads that is true, and one that is false
abbrev pub Branches : Type 0
Branches = Branch × Branch

-- those of the condition for whose answer this waits; after this the rest is left, and around it are other branches
abbrev pub awaited : Waiting → Tasks → Branches → Branches
awaited Waiting.Not rest around = (around.1, around.0)
awaited (Waiting.Both d) rest around = (go_on (task (test (condition_of d.now) around.0 around.1) done), around.1)
awaited (Waiting.Either d) rest around = (around.0, go_on (task (test (condition_of d.now) around.0 around.1) done))
awaited (Waiting.Assert p) rest around = (go_on rest, fails p)
awaited Waiting.Assume rest around = (go_on rest, stops)
awaited (Waiting.If a) rest around = (go_on (task (perform (statement_of a.now)) rest), go_on rest)
awaited (Waiting.IfElse a b) rest around =
    (go_on (task (perform (statement_of a.now)) rest), go_on (task (perform (statement_of b.now)) rest))
awaited (Waiting.Loop t) rest around = (go_on (turn_of t rest), go_on rest)

-- where nothing waits for an answer, the run stops
abbrev pub answered : Task → Tasks → Branches → Branches
answered (Task.Waits w) rest around = awaited w rest around
answered _ rest around = (stops, stops)

-- ---- tasks
-- this is to be done, and then the rest; after a condition there are only its branches
abbrev pub first : Task → Tasks → Branches → Tasks
first (Task.Perform a more) rest around =
    task (perform (statement_of a.now)) (in_a_row (stmts_of (map statement_of more.now)) rest)
first (Task.Declare p items) rest around = task (perform (declaration p (map initial_of items.now))) rest
first (Task.Simple x) rest around = task (perform (simple (simple_of x.now))) rest
first (Task.Again t) rest around = task (again (condition_in t) (body_of t) (last_of t)) rest
first (Task.Always t) rest around = task (always (turn_of t rest)) done
first (Task.Test c) rest around = task (test (condition_of c.now) around.0 around.1) done
first (Task.Waits w) rest around = done
first (Task.EndBlock xs) rest around = task (end_block xs.now) rest
first (Task.EndLoop xs) rest around = task (end_loop xs.now) rest
first Task.EndTurn rest around = task end_turn rest
first (Task.EndCall saved target) rest around = task (end_call saved.items (target_of target)) rest
first (Task.TakeResult target v) rest around = task (take_result (target_of target) v) rest

abbrev mutual
  -- what a stack leaves to do, the top first
  pub left : List Task → Tasks
  left [] = done
  left (t ∷ ts) = first t (left ts) (asked ts)

  -- where the condition leads that stood on this stack
  pub asked : List Task → Branches
  asked [] = (stops, stops)
  asked (t ∷ ts) = answered t (left ts) (asked ts)

-- a `for` is entered
abbrev pub entered_for : Head → Stmt → Tasks → Tasks
entered_for h a rest = started h.start (task (again h.condition a h.last) (task (end_loop h.variables) rest))
