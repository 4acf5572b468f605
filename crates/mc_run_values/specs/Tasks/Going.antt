-- How a run goes on in code.
use Rattle.std.specs.Prelude.{◌≡◌, List, ◌∷◌, Option, Some, None, map}
use Rattle.mc_base.specs.declared.text.place.Place.{Place}
use Rattle.mc_semantics.specs.Resolved.Programs.{Initial, declaration, simple, free, assume_shape}
use Rattle.mc_semantics.specs.Resolved.Programs.{assert_shape, assert_empty, break_loop, continue_loop, returns}
use Rattle.mc_semantics.specs.Resolved.Configs.{Values, perform, test, always, take_result, Tasks, done, task}
use Rattle.mc_semantics.specs.Resolved.Moves.{moved, Arrives}
use Rattle.mc_semantics.specs.Resolved.Views.{argument_of, expression_of, initial_of, right_of, simple_of}
use Rattle.mc_run_values.specs.Tasks.Left.{Branches, asked, atom_of, left, target_of}
use Rattle.mc_run_values.specs.declared.tasks.next.Next.{Next}
use Rattle.mc_run_values.specs.declared.tasks.work.Work.{Work}
use Rattle.std.specs.Option.{option_map}

abbrev pub tasks_of : Work → Tasks
tasks_of w = left w.tasks

abbrev pub values_of : Work → Values
values_of w = w.values.items

-- where the condition leads that was next
abbrev pub branches_of : Work → Branches
branches_of w = asked w.tasks

-- ---- the next step
-- a `break` or a `continue` is first
abbrev pub LeavesLoop : Tasks → Type 0
LeavesLoop (task (perform (break_loop p)) rest) = Unit {0}
LeavesLoop (task (perform (continue_loop p)) rest) = Unit {0}
LeavesLoop _ = ⊥

-- the declarator is the first of several, and the others are left
abbrev pub IsFirst : Place → Initial → Tasks → Tasks → Type 0
IsFirst p item rest tasks =
    (items : List Initial) × (behind : Tasks) × (rest ≡ task (perform (declaration p items)) behind)
    × (tasks ≡ task (perform (declaration p (item ∷ items))) behind)

-- this is first among the tasks, and what is after it is left
abbrev pub Has : Next → Work → Tasks → Type 0
Has Next.Done w tasks = tasks ≡ done
Has (Next.Declare p item) w tasks = IsFirst p (initial_of item.now) (tasks_of w) tasks
Has (Next.Simple x) w tasks = tasks ≡ task (perform (simple (simple_of x.now))) (tasks_of w)
Has (Next.Free p e) w tasks = tasks ≡ task (perform (free p (expression_of e.now))) (tasks_of w)
Has (Next.AssumeShape a) w tasks =
    let args = map argument_of a.now.arguments.items in
    tasks ≡ task (perform (assume_shape a.now.place a.now.predicate a.now.variable args)) (tasks_of w)
Has (Next.AssertShape a) w tasks =
    let args = map argument_of a.now.arguments.items in
    tasks ≡ task (perform (assert_shape a.now.place a.now.predicate (argument_of a.now.start) args)) (tasks_of w)
Has (Next.AssertEmpty p) w tasks = tasks ≡ task (perform (assert_empty p)) (tasks_of w)
Has (Next.Return p r) w tasks = tasks ≡ task (perform (returns p (option_map right_of r.now))) (tasks_of w)
Has (Next.Test c) w tasks = tasks ≡ task (test (atom_of c) (branches_of w).0 (branches_of w).1) done
Has Next.Always w tasks = tasks ≡ task (always (tasks_of w)) done
Has (Next.TakeResult target v) w tasks = tasks ≡ task (take_result (target_of target) v) (tasks_of w)
Has Next.Stuck w tasks = LeavesLoop tasks

-- the values are kept, but for a run that is stuck
abbrev pub Keeps : Next → Work → Values → Type 0
Keeps Next.Stuck w values = Unit {0}
Keeps _ w values = values_of w ≡ values

-- the next step is there, and this is it
abbrev pub Stands : Next → Work → Values → Tasks → Type 0
Stands next w values tasks = (moved values tasks ≡ None) × Has next w tasks × Keeps next w values

-- a move is made, or the next step is there
abbrev pub Advances : Values → Tasks → Option Next → Work → Type 0
Advances values tasks None w = moved values tasks ≡ Some (values_of w, tasks_of w)
Advances values tasks (Some next) w = Stands next w values tasks

-- from the one comes the other, where this is the next step
pub record Comes (before : Work) (next : Next) (after : Work) : Type 0 where
  pub values : Values
  pub tasks : Tasks
  pub arrives : Arrives (values_of before) (tasks_of before) values tasks
  pub stands : Stands next after values tasks
