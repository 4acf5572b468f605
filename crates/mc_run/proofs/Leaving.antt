-- Where a loop is to be left that is not there, there is no step.
use Rattle.std.proofs.Common.{◌≡◌, ◌⊎◌, inl, inr, List, subst, refl}
use Rattle.mc_flow.specs.Heap.Choices.{Choice}
use Rattle.mc_semantics.specs.Waiting.Requests.{Request}
use Rattle.mc_flow.specs.Heap.Heap.{Heap}
use Rattle.mc_semantics.specs.Resolved.Programs.{Stmt, declaration, block, empty, simple, free, assert, assume, assume_shape, assert_shape, assert_empty}
use Rattle.mc_semantics.specs.Resolved.Programs.{if_only, if_else, while_loop, do_loop, for_loop, break_loop, continue_loop, returns, Program}
use Rattle.mc_semantics.specs.Resolved.Configs.{perform, again, test, always, end_block, end_loop, end_turn, end_call, take_result, Tasks, done, task, Result, Values}
use Rattle.mc_semantics.specs.Resolved.Steps.{Does, Here}
use Rattle.mc_run_values.specs.Tasks.Going.{Has, Keeps, LeavesLoop, values_of}
use Rattle.mc_run_values.specs.declared.tasks.next.Next.{Next}
use Rattle.mc_run_values.specs.declared.tasks.work.Work.{Work}
use Rattle.mc_run.specs.Asking.{TaskAsks}

-- it is one of these two
pub leaves_so : (P : Tasks → Type 0) → ((rest : Tasks) (a : Stmt) → LeavesLoop (task (perform a) rest) → P (task (perform a) rest)) → (tasks : Tasks) → LeavesLoop tasks → P tasks
leaves_so P each done l = absurd l
leaves_so P each (task (perform a) rest) l = each rest a l
leaves_so P each (task (again c a ends) rest) l = absurd l
leaves_so P each (task (test c a b) rest) l = absurd l
leaves_so P each (task (always go) rest) l = absurd l
leaves_so P each (task (end_block xs) rest) l = absurd l
leaves_so P each (task (end_loop xs) rest) l = absurd l
leaves_so P each (task end_turn rest) l = absurd l
leaves_so P each (task (end_call saved target) rest) l = absurd l
leaves_so P each (task (take_result target v) rest) l = absurd l

none_does : (p : Program) (h : Here) (a : Stmt) (rest : Tasks) (choices : List Choice) (r : Result) → LeavesLoop (task (perform a) rest) → Does p h (task (perform a) rest) choices r → ⊥
none_does p h (declaration q xs) rest choices r l is = l
none_does p h (block xs ss) rest choices r l is = l
none_does p h empty rest choices r l is = l
none_does p h (simple x) rest choices r l is = l
none_does p h (free q e) rest choices r l is = l
none_does p h (assert q c) rest choices r l is = l
none_does p h (assume q c) rest choices r l is = l
none_does p h (assume_shape q predicate x args) rest choices r l is = l
none_does p h (assert_shape q predicate a args) rest choices r l is = l
none_does p h (assert_empty q) rest choices r l is = l
none_does p h (if_only q c a) rest choices r l is = l
none_does p h (if_else q c a b) rest choices r l is = l
none_does p h (while_loop q c a) rest choices r l is = l
none_does p h (do_loop q a c) rest choices r l is = l
none_does p h (for_loop head a) rest choices r l is = l
none_does p h (break_loop q) rest choices r l is = is
none_does p h (continue_loop q) rest choices r l is = is
none_does p h (returns q right) rest choices r l is = l

none_asks : (p : Program) (values : Values) (heap : Heap) (a : Stmt) (rest : Tasks) (choices left : List Choice) (request : Request) → LeavesLoop (task (perform a) rest)
    → TaskAsks p.defs values heap (task (perform a) rest) choices request left → ⊥
none_asks p values heap (declaration q xs) rest choices left request l is = l
none_asks p values heap (block xs ss) rest choices left request l is = l
none_asks p values heap empty rest choices left request l is = l
none_asks p values heap (simple x) rest choices left request l is = l
none_asks p values heap (free q e) rest choices left request l is = l
none_asks p values heap (assert q c) rest choices left request l is = l
none_asks p values heap (assume q c) rest choices left request l is = l
none_asks p values heap (assume_shape q predicate x args) rest choices left request l is = l
none_asks p values heap (assert_shape q predicate a args) rest choices left request l is = l
none_asks p values heap (assert_empty q) rest choices left request l is = l
none_asks p values heap (if_only q c a) rest choices left request l is = l
none_asks p values heap (if_else q c a b) rest choices left request l is = l
none_asks p values heap (while_loop q c a) rest choices left request l is = l
none_asks p values heap (do_loop q a c) rest choices left request l is = l
none_asks p values heap (for_loop head a) rest choices left request l is = l
none_asks p values heap (break_loop q) rest choices left request l is = is
none_asks p values heap (continue_loop q) rest choices left request l is = is
none_asks p values heap (returns q right) rest choices left request l is = l

pub leaves_no_step : (p : Program) (h : Here) (tasks : Tasks) → LeavesLoop tasks → (choices : List Choice) (r : Result) → Does p h tasks choices r → ⊥
leaves_no_step p h tasks l choices r = leaves_so (λ t. Does p h t choices r → ⊥) (λ rest a left. none_does p h a rest choices r left) tasks l

pub leaves_no_question : (p : Program) (values : Values) (heap : Heap) (tasks : Tasks) → LeavesLoop tasks → (choices left : List Choice) (request : Request) → TaskAsks p.defs values heap tasks choices request left → ⊥
leaves_no_question p values heap tasks l choices left request =
    leaves_so (λ t. TaskAsks p.defs values heap t choices request left → ⊥) (λ rest a leaves. none_asks p values heap a rest choices left request leaves) tasks l

-- the values are kept, but where a loop is left
pub kept_or_leaves : (next : Next) (w : Work) (values : Values) (tasks : Tasks) → Has next w tasks → Keeps next w values → (values_of w ≡ values) ⊎ LeavesLoop tasks
kept_or_leaves Next.Done w values tasks has keeps = inl keeps
kept_or_leaves (Next.Declare q item) w values tasks has keeps = inl keeps
kept_or_leaves (Next.Simple x) w values tasks has keeps = inl keeps
kept_or_leaves (Next.Free q e) w values tasks has keeps = inl keeps
kept_or_leaves (Next.AssumeShape a) w values tasks has keeps = inl keeps
kept_or_leaves (Next.AssertShape a) w values tasks has keeps = inl keeps
kept_or_leaves (Next.AssertEmpty q) w values tasks has keeps = inl keeps
kept_or_leaves (Next.Return q r) w values tasks has keeps = inl keeps
kept_or_leaves (Next.Test c) w values tasks has keeps = inl keeps
kept_or_leaves Next.Always w values tasks has keeps = inl keeps
kept_or_leaves (Next.TakeResult target v) w values tasks has keeps = inl keeps
kept_or_leaves Next.Stuck w values tasks has keeps = inr has

-- nothing is left only where the next step is none
pub only_last : (next : Next) (w : Work) (tasks : Tasks) → Has next w tasks → tasks ≡ done → next ≡ Next.Done
only_last Next.Done w tasks has is = refl
only_last (Next.Declare q item) w tasks has is = (let e = has.3 in cc)
only_last (Next.Simple x) w tasks has is = cc
only_last (Next.Free q e) w tasks has is = cc
only_last (Next.AssumeShape a) w tasks has is = cc
only_last (Next.AssertShape a) w tasks has is = cc
only_last (Next.AssertEmpty q) w tasks has is = cc
only_last (Next.Return q r) w tasks has is = cc
only_last (Next.Test c) w tasks has is = cc
only_last Next.Always w tasks has is = cc
only_last (Next.TakeResult target v) w tasks has is = cc
only_last Next.Stuck w tasks has is = absurd (let P : Tasks → Type 0 = λ t. LeavesLoop t in subst P is has)
