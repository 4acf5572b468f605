-- How many steps what is left to do takes at most, in a program without loops.
use Rattle.std.proofs.Common.{◌≤◌, ◌+◌, ◌-◌, ◌≡◌, inl, inr, ℕ, zero, suc, ℤ, pos, Bool, true, false, List, [], ◌∷◌, Option, Some}
use Rattle.std.proofs.Common.{None, sym, ap, subst, arith}
use Rattle.std.specs.Prelude.{slice_get}
use Rattle.std.proofs.lemmas.Option.{none-some}
use Rattle.mc_base.specs.declared.plain.FaultKind.{FaultKind}
use Rattle.mc_base.specs.declared.text.place.Place.{Place}
use Rattle.mc_base.specs.declared.ids.PredId.{PredId}
use Rattle.mc_flow.specs.Heap.Adding.{with_blocks}
use Rattle.mc_flow.specs.Heap.Heap.{Heap}
use Rattle.mc_flow.specs.Heap.Choices.{Choice, input as choose_input, malloc as choose_malloc, shape as choose_shape}
use Rattle.mc_flow.specs.Runs.{Final, next, last, Reaches}
use Rattle.mc_flow.specs.Values.{all_there}
use Rattle.mc_c_syntax.specs.declared.ast.trees.Comparison.{Comparison}
use Rattle.mc_c_syntax.specs.declared.ast.trees.Comparison.TheVariants.{Unequal}
use Rattle.mc_semantics.specs.Values.{fault_of, value_of}
use Rattle.mc_semantics.specs.Steps.{Arguments, no_arguments, arguments, compares}
use Rattle.mc_semantics.specs.Resolved.Programs.{Left, Expr, Cond, plain, compare, negation, both, either, Call, Right}
use Rattle.mc_semantics.specs.Resolved.Programs.{expression, result_of, allocation}
use Rattle.mc_semantics.specs.Resolved.Programs.{Action, assign, add, subtract, call, Simple, Initial, Argument, Stmt}
use Rattle.mc_semantics.specs.Resolved.Programs.{declaration, block, empty, simple, free, assert, assume}
use Rattle.mc_semantics.specs.Resolved.Programs.{assume_shape, assert_shape, assert_empty, if_only, if_else, returns, Stmts}
use Rattle.mc_semantics.specs.Resolved.Programs.{no_more, then, Function, Program}
use Rattle.mc_semantics.specs.Resolved.Configs.{Values, Target, nowhere, stored, returned, perform, test, end_block, end_call}
use Rattle.mc_semantics.specs.Resolved.Configs.{take_result, Tasks, done, task, Branch, go_on, fails, stops, Config, Result}
use Rattle.mc_semantics.specs.Resolved.Values.{Changed, fault_in, changed, set_variable, assigned}
use Rattle.mc_semantics.specs.Resolved.Moves.{in_a_row, entered, moved, taken_apart, Arrives, here, there}
use Rattle.mc_semantics.specs.Resolved.Steps as steps
use Rattle.mc_semantics.specs.Resolved.Steps.{Here, Does, Step, after, led, decided, compared, returning, returned_value, begun}

-- ---- statements
-- the atomic conditions, each of which is a step
abbrev pub atoms : Cond → ℕ
atoms (plain place e) = 1
atoms (compare place c a b) = 1
atoms (negation c) = atoms c
atoms (both c d) = atoms c + atoms d
atoms (either c d) = atoms c + atoms d

mutual
  -- a call: the step in which it begins, its body, and a step in which it may return before the body's end
  pub data CallLasts (fs : List Function) : Call → ℕ → Type 0 where
    calls : {c : Call} {f : Function} {k n : ℕ} → slice_get fs c.function ≡ Some f → AllLast fs f.body k → 2 + k ≤ n
        → CallLasts fs c n

  -- a right side, and the taking of a result
  pub data RightLasts (fs : List Function) : Right → ℕ → Type 0 where
    expressions : {e : Expr} {n : ℕ} → 1 ≤ n → RightLasts fs (expression e) n
    allocations : {shape fields n : ℕ} → 1 ≤ n → RightLasts fs (allocation shape fields) n
    results : {c : Call} {k n : ℕ} → CallLasts fs c k → suc k ≤ n → RightLasts fs (result_of c) n

  pub data ActionLasts (fs : List Function) : Action → ℕ → Type 0 where
    assigns : {l : Left} {right : Right} {n : ℕ} → RightLasts fs right n → ActionLasts fs (assign l right) n
    adds : {l : Left} {e : Expr} {n : ℕ} → 1 ≤ n → ActionLasts fs (add l e) n
    subtracts : {l : Left} {e : Expr} {n : ℕ} → 1 ≤ n → ActionLasts fs (subtract l e) n
    calls_alone : {c : Call} {n : ℕ} → CallLasts fs c n → ActionLasts fs (call c) n

  pub data ItemsLast (fs : List Function) : List Initial → ℕ → Type 0 where
    no_items : {n : ℕ} → ItemsLast fs [] n
    undefined_item : {x k n : ℕ} {items : List Initial} → ItemsLast fs items k → suc k ≤ n
        → ItemsLast fs (record { variable = x; value = None } ∷ items) n
    item_with_value : {x j k n : ℕ} {right : Right} {items : List Initial} → RightLasts fs right j → ItemsLast fs items k
        → j + k ≤ n
        → ItemsLast fs (record { variable = x; value = Some right } ∷ items) n

  -- a `return` takes the step for which the call has paid
  pub data Lasts (fs : List Function) : Stmt → ℕ → Type 0 where
    declarations : {place : Place} {items : List Initial} {n : ℕ} → ItemsLast fs items n → Lasts fs (declaration place items) n
    blocks : {xs : List ℕ} {ss : Stmts} {n : ℕ} → AllLast fs ss n → Lasts fs (block xs ss) n
    empties : {n : ℕ} → Lasts fs empty n
    simples : {x : Simple} {n : ℕ} → ActionLasts fs x.action n → Lasts fs (simple x) n
    frees : {place : Place} {e : Expr} {n : ℕ} → 1 ≤ n → Lasts fs (free place e) n
    asserts : {place : Place} {c : Cond} {n : ℕ} → atoms c ≤ n → Lasts fs (assert place c) n
    assumes : {place : Place} {c : Cond} {n : ℕ} → atoms c ≤ n → Lasts fs (assume place c) n
    shapes_assumed : {place : Place} {predicate : PredId} {x n : ℕ} {args : List Argument} → 1 ≤ n
        → Lasts fs (assume_shape place predicate x args) n
    shapes_asserted : {place : Place} {predicate : PredId} {a : Argument} {args : List Argument} {n : ℕ} → 1 ≤ n
        → Lasts fs (assert_shape place predicate a args) n
    emptiness_asserted : {place : Place} {n : ℕ} → 1 ≤ n → Lasts fs (assert_empty place) n
    ifs : {place : Place} {c : Cond} {a : Stmt} {k n : ℕ} → Lasts fs a k → atoms c + k ≤ n → Lasts fs (if_only place c a) n
    ifs_else : {place : Place} {c : Cond} {a b : Stmt} {j k n : ℕ} → Lasts fs a j → Lasts fs b k → atoms c + j ≤ n
        → atoms c + k ≤ n → Lasts fs (if_else place c a b) n
    returns_nothing : {place : Place} {n : ℕ} → Lasts fs (returns place None) n
    returns_value : {place : Place} {right : Right} {n : ℕ} → RightLasts fs right n → Lasts fs (returns place (Some right)) n

  pub data AllLast (fs : List Function) : Stmts → ℕ → Type 0 where
    none_last : {n : ℕ} → AllLast fs no_more n
    next_lasts : {a : Stmt} {more : Stmts} {j k n : ℕ} → Lasts fs a j → AllLast fs more k → j + k ≤ n → AllLast fs (then a more) n

-- ---- tasks
-- a result that is wanted is taken by a step
abbrev taking : Target → ℕ
taking nowhere = 0
taking (stored l place) = 1
taking (returned place) = 1

-- what is left behind a condition; the entry may return before its end too
pub data RestLasts (fs : List Function) : Tasks → ℕ → Type 0 where
  ends : {n : ℕ} → 2 ≤ n → RestLasts fs done n
  performs : {a : Stmt} {rest : Tasks} {j k n : ℕ} → Lasts fs a j → RestLasts fs rest k → j + k ≤ n
      → RestLasts fs (task (perform a) rest) n
  ends_block : {xs : List ℕ} {rest : Tasks} {n : ℕ} → RestLasts fs rest n → RestLasts fs (task (end_block xs) rest) n
  ends_call : {saved : Values} {target : Target} {rest : Tasks} {k n : ℕ} → RestLasts fs rest k → suc (taking target + k) ≤ n
      → RestLasts fs (task (end_call saved target) rest) n
  takes : {target : Target} {v : Option ℤ} {rest : Tasks} {k n : ℕ} → RestLasts fs rest k → suc k ≤ n
      → RestLasts fs (task (take_result target v) rest) n

mutual
  pub data TasksLast (fs : List Function) : Tasks → ℕ → Type 0 where
    rests : {tasks : Tasks} {n : ℕ} → RestLasts fs tasks n → TasksLast fs tasks n
    tests : {c : Cond} {x y : Branch} {j k n : ℕ} → BranchLasts fs x j → BranchLasts fs y k → atoms c + j ≤ n → atoms c + k ≤ n
        → TasksLast fs (task (test c x y) done) n
    over : {n : ℕ} → 1 ≤ n → TasksLast fs done n

  pub data BranchLasts (fs : List Function) : Branch → ℕ → Type 0 where
    goes_on : {tasks : Tasks} {n : ℕ} → TasksLast fs tasks n → BranchLasts fs (go_on tasks) n
    faults : {place : Place} {n : ℕ} → BranchLasts fs (fails place) n
    stops_here : {n : ℕ} → BranchLasts fs stops n

raised_rest : {fs : List Function} {tasks : Tasks} {k : ℕ} (n : ℕ) → k ≤ n → RestLasts fs tasks k → RestLasts fs tasks n
raised_rest n less (ends two) = ends (omega (arith, two, less))
raised_rest n less (performs a rest bound) = performs a rest (omega (arith, bound, less))
raised_rest n less (ends_block rest) = ends_block (raised_rest n less rest)
raised_rest n less (ends_call rest bound) = ends_call rest (omega (arith, bound, less))
raised_rest n less (takes rest bound) = takes rest (omega (arith, bound, less))

raised : {fs : List Function} {tasks : Tasks} {k : ℕ} (n : ℕ) → k ≤ n → TasksLast fs tasks k → TasksLast fs tasks n
raised n less (rests rest) = rests (raised_rest n less rest)
raised n less (tests x y first second) = tests x y (omega (arith, first, less)) (omega (arith, second, less))
raised n less (over one) = over (omega (arith, one, less))

-- something is always left
some_left : {fs : List Function} {tasks : Tasks} {n : ℕ} → RestLasts fs tasks n → 2 ≤ n
some_left (ends two) = two
some_left (performs a rest bound) = let two = some_left rest in omega (arith, two, bound)
some_left (ends_block rest) = some_left rest
some_left (ends_call rest bound) = let two = some_left rest in omega (arith, two, bound)
some_left (takes rest bound) = let two = some_left rest in omega (arith, two, bound)

an_atom : (c : Cond) → 1 ≤ atoms c
an_atom (plain place e) = omega arith
an_atom (compare place c a b) = omega arith
an_atom (negation c) = an_atom c
an_atom (both c d) = omega (arith, an_atom c)
an_atom (either c d) = omega (arith, an_atom c)

one_left : {fs : List Function} {tasks : Tasks} {n : ℕ} → TasksLast fs tasks n → 1 ≤ n
one_left (rests rest) = let two = some_left rest in omega (arith, two)
one_left (tests {c = c} x y first second) = omega (arith, first, an_atom c)
one_left (over one) = one

row_lasts : {fs : List Function} {rest : Tasks} {j k : ℕ} (ss : Stmts) (n : ℕ) → AllLast fs ss j → RestLasts fs rest k
    → j + k ≤ n → RestLasts fs (in_a_row ss rest) n
row_lasts no_more n none_last rest bound = raised_rest n (omega (arith, bound)) rest
row_lasts {k = r} (then a more) n (next_lasts {k = k} first others less) rest bound =
    performs first (row_lasts more (k + r) others rest (omega arith)) (omega (arith, less, bound))

-- ---- moves
abbrev Moved : Type 0
Moved = Option (Values × Tasks)

abbrev tasks_or : Tasks → Moved → Tasks
tasks_or ts None = ts
tasks_or ts (Some p) = p.1

moved_to : {fs : List Function} {v w : Values} {ts us : Tasks} {n : ℕ} → ◌≡◌ {A = Moved} (Some (v, ts)) (Some (w, us))
    → TasksLast fs ts n → TasksLast fs us n
moved_to {fs} {us = us} {n = n} e lasts = subst (λ z. TasksLast fs z n) (ap (tasks_or us) e) lasts

unmoved : {fs : List Function} {w : Values} {us : Tasks} {n : ℕ} → ◌≡◌ {A = Moved} None (Some (w, us)) → TasksLast fs us n
unmoved {w = w} {us = us} e = absurd (let q : Values × Tasks = (w, us) in none-some q e)

entered_lasts : {fs : List Function} {a : Stmt} {rest us : Tasks} {j k : ℕ} (n : ℕ) (v w : Values) → Lasts fs a j
    → RestLasts fs rest k → j + k ≤ n
    → ◌≡◌ {A = Moved} (entered v a rest) (Some (w, us)) → TasksLast fs us n
entered_lasts n v w (declarations no_items) rest bound e = moved_to e (rests (raised_rest n (omega (arith, bound)) rest))
entered_lasts n v w (declarations (undefined_item items less)) rest bound e = unmoved e
entered_lasts n v w (declarations (item_with_value right items less)) rest bound e = unmoved e
entered_lasts n v w (blocks {ss = ss} all) rest bound e = moved_to e (rests (row_lasts ss n all (ends_block rest) bound))
entered_lasts n v w empties rest bound e = moved_to e (rests (raised_rest n (omega (arith, bound)) rest))
entered_lasts n v w (simples action) rest bound e = unmoved e
entered_lasts n v w (frees one) rest bound e = unmoved e
entered_lasts n v w (asserts less) rest bound e =
    moved_to e (tests (goes_on (rests rest)) (faults {n = 0}) (omega (arith, less, bound)) (omega (arith, less, bound)))
entered_lasts n v w (assumes less) rest bound e =
    moved_to e (tests (goes_on (rests rest)) (stops_here {n = 0}) (omega (arith, less, bound)) (omega (arith, less, bound)))
entered_lasts n v w (shapes_assumed one) rest bound e = unmoved e
entered_lasts n v w (shapes_asserted one) rest bound e = unmoved e
entered_lasts n v w (emptiness_asserted one) rest bound e = unmoved e
entered_lasts {k = r} n v w (ifs {k = k} a less) rest bound e =
    moved_to e (tests (goes_on (rests (performs {n = k + r} a rest (omega arith)))) (goes_on (rests rest))
    (omega (arith, less, bound)) (omega (arith, less, bound)))
entered_lasts {k = r} n v w (ifs_else {j = j} {k = k} a b first second) rest bound e =
    moved_to e (tests (goes_on (rests (performs {n = j + r} a rest (omega arith))))
    (goes_on (rests (performs {n = k + r} b rest (omega arith)))) (omega (arith, first, bound))
    (omega (arith, second, bound)))
entered_lasts n v w returns_nothing rest bound e = unmoved e
entered_lasts n v w (returns_value right) rest bound e = unmoved e

-- a condition is taken apart
apart_lasts : {fs : List Function} {x y : Branch} {us : Tasks} {j k : ℕ} (n : ℕ) (v w : Values) (c : Cond) → BranchLasts fs x j
    → BranchLasts fs y k → atoms c + j ≤ n → atoms c + k ≤ n
    → ◌≡◌ {A = Moved} (taken_apart v c x y) (Some (w, us)) → TasksLast fs us n
apart_lasts n v w (plain place e) x y first second is = unmoved is
apart_lasts n v w (compare place c a b) x y first second is = unmoved is
apart_lasts n v w (negation c) x y first second is = moved_to is (tests y x second first)
apart_lasts n v w (both c d) x y first second is =
    moved_to is (tests (goes_on (tests {n = n - atoms c} x y (omega (arith, first)) (omega (arith, second)))) y
    (omega (arith, first)) (omega (arith, second)))
apart_lasts n v w (either c d) x y first second is =
    moved_to is (tests x (goes_on (tests {n = n - atoms c} x y (omega (arith, first)) (omega (arith, second))))
    (omega (arith, first)) (omega (arith, second)))

moves_last : {fs : List Function} {tasks us : Tasks} {n : ℕ} (v w : Values) → TasksLast fs tasks n
    → ◌≡◌ {A = Moved} (moved v tasks) (Some (w, us)) → TasksLast fs us n
moves_last v w (over one) e = unmoved e
moves_last {n = n} v w (tests {c = c} x y first second) e = apart_lasts n v w c x y first second e
moves_last v w (rests (ends two)) e = unmoved e
moves_last {n = n} v w (rests (performs a rest bound)) e = entered_lasts n v w a rest bound e
moves_last v w (rests (ends_block rest)) e = moved_to e (rests rest)
moves_last {n = n} v w (rests (ends_call {target = nowhere} rest bound)) e =
    moved_to e (rests (raised_rest n (omega (arith, bound)) rest))
moves_last {n = n} v w (rests (ends_call {target = stored l place} rest bound)) e =
    moved_to e (rests (takes rest (omega (arith, bound))))
moves_last {n = n} v w (rests (ends_call {target = returned place} rest bound)) e =
    moved_to e (rests (takes rest (omega (arith, bound))))
moves_last v w (rests (takes rest bound)) e = unmoved e

arrives_last : {fs : List Function} {tasks us : Tasks} {n : ℕ} {v w : Values} → TasksLast fs tasks n → Arrives v tasks w us
    → TasksLast fs us n
arrives_last lasts (here none) = lasts
arrives_last lasts (there {values = v} {later = w} some path) = arrives_last (moves_last v w lasts some) path

-- ---- steps
-- what a step goes on to takes so many steps at most
data ResultLasts (fs : List Function) (n : ℕ) : Result → Type 0 where
  goes : {d : Config} {choices : List Choice} → TasksLast fs d.tasks n → ResultLasts fs n (next d choices)
  came : {f : Final} → ResultLasts fs n (last f)

it_lasts : {fs : List Function} {n : ℕ} {r s : Result} → r ≡ s → ResultLasts fs n s → ResultLasts fs n r
it_lasts {fs} {n} e lasts = subst (λ z. ResultLasts fs n z) (sym e) lasts

after_lasts : {fs : List Function} {n : ℕ} {rest : Tasks} (place : Place) (choices : List Choice) (c : Changed)
    → TasksLast fs rest n → ResultLasts fs n (after rest place choices c)
after_lasts place choices (fault_in kind) lasts = came
after_lasts place choices (changed values heap) lasts = goes lasts

-- the function goes back
back_lasts : {fs : List Function} {rest : Tasks} {k : ℕ} (n : ℕ) (v : Option ℤ) → RestLasts fs rest k → k ≤ suc n
    → TasksLast fs (returning rest v).1 n
back_lasts n v (ends two) bound = over (omega (arith, two, bound))
back_lasts n v (performs {k = k} a rest less) bound = back_lasts n v rest (omega (arith, less, bound))
back_lasts n v (ends_block rest) bound = back_lasts n v rest bound
back_lasts n v (ends_call {target = nowhere} rest less) bound = rests (raised_rest n (omega (arith, less, bound)) rest)
back_lasts n v (ends_call {target = stored l place} rest less) bound = rests (takes rest (omega (arith, less, bound)))
back_lasts n v (ends_call {target = returned place} rest less) bound = rests (takes rest (omega (arith, less, bound)))
back_lasts n v (takes rest less) bound = back_lasts n v rest (omega (arith, less, bound))

returned_lasts : {fs : List Function} {rest : Tasks} {k : ℕ} (n : ℕ) (heap : Heap) (place : Place) (choices : List Choice)
    (v : Option ℤ) → RestLasts fs rest k → k ≤ suc n
    → ResultLasts fs n (returned_value heap rest place choices v)
returned_lasts n heap place choices None rest bound = came
returned_lasts n heap place choices (Some v) rest bound = goes (back_lasts n (Some v) rest bound)

-- ---- calls
begun_lasts : {fs : List Function} {rest : Tasks} {b k : ℕ} (n : ℕ) (h : Here) (f : Function) (target : Target) (place : Place)
    (choices : List Choice) (vs : Option (List ℤ)) → AllLast fs f.body b
    → RestLasts fs rest k → suc (b + (taking target + k)) ≤ n → ResultLasts fs n (begun h f target place rest choices vs)
begun_lasts n h f target place choices None body rest bound = came
begun_lasts {k = k} n h f target place choices (Some vs) body rest bound =
    goes (rests (row_lasts f.body n body (ends_call {target = target} {n = suc (taking target + k)} rest (omega arith))
    (omega (arith, bound))))

passed_lasts : {fs : List Function} {rest : Tasks} {b k : ℕ} (r : Result) (n : ℕ) (h : Here) (f : Function) (target : Target)
    (place : Place) (all : Arguments) → AllLast fs f.body b → RestLasts fs rest k
    → suc (b + (taking target + k)) ≤ n → steps.AfterArguments h (Some f) target place rest all r → ResultLasts fs n r
passed_lasts r n h f target place (no_arguments kind) body rest bound is = it_lasts is came
passed_lasts r n h f target place (arguments vs choices) body rest bound is =
    it_lasts is (begun_lasts n h f target place choices (all_there vs) body rest bound)

call_lasts : {c : Call} {rest : Tasks} {j k : ℕ} (p : Program) (choices : List Choice) (r : Result) (n : ℕ) (h : Here)
    (target : Target) (place : Place) → CallLasts p.functions c j → RestLasts p.functions rest k
    → j + (taking target + k) ≤ suc n → steps.Passes p h c target place rest choices r → ResultLasts p.functions n r
call_lasts {rest = rest} p choices r n h target place (calls {f = f} is body less) remains bound (all, evaluated, passed) =
    passed_lasts r n h f target place all body remains (omega (arith, less, bound))
    (subst (λ o. steps.AfterArguments h o target place rest all r) is passed)

-- ---- simple statements
assigned_lasts : {right : Right} {rest : Tasks} {j k : ℕ} (p : Program) (choices : List Choice) (r : Result) (n : ℕ) (h : Here)
    (l : Left) (place : Place) → RightLasts p.functions right j
    → RestLasts p.functions rest k → j + k ≤ suc n → steps.Assigns p h l right place rest choices r → ResultLasts p.functions n r
assigned_lasts p choices r n h l place (expressions one) remains bound (fault_of kind, evaluated, is) = it_lasts is came
assigned_lasts p choices r n h l place (expressions one) remains bound (value_of v left, evaluated, is) =
    it_lasts is (after_lasts place left (assigned h.values h.heap l v)
    (rests (raised_rest n (omega (arith, one, bound)) remains)))
assigned_lasts p [] r n h l place (allocations one) remains bound is = absurd is
assigned_lasts p (choose_input v ∷ choices) r n h l place (allocations one) remains bound is = absurd is
assigned_lasts p (choose_shape v parts ∷ choices) r n h l place (allocations one) remains bound is = absurd is
assigned_lasts p (choose_malloc zero ∷ choices) r n h l place (allocations one) remains bound is =
    it_lasts is (after_lasts place choices (assigned h.values h.heap l (Some (pos 0)))
    (rests (raised_rest n (omega (arith, one, bound)) remains)))
assigned_lasts p (choose_malloc (suc m) ∷ choices) r n h l place (allocations one) remains bound is =
    it_lasts is.2 (after_lasts place choices _ (rests (raised_rest n (omega (arith, one, bound)) remains)))
assigned_lasts p choices r n h l place (results inner less) remains bound is =
    call_lasts p choices r n h (stored l place) place inner remains (omega (arith, less, bound)) is

performed_lasts : {action : Action} {rest : Tasks} {j k : ℕ} (p : Program) (choices : List Choice) (r : Result) (n : ℕ)
    (h : Here) (place : Place) → ActionLasts p.functions action j → RestLasts p.functions rest k
    → j + k ≤ suc n → steps.Performs p h action place rest choices r → ResultLasts p.functions n r
performed_lasts p choices r n h place (assigns {l = l} right) remains bound is =
    assigned_lasts p choices r n h l place right remains bound is
performed_lasts p choices r n h place (adds one) remains bound (fault_of kind, evaluated, is) = it_lasts is came
performed_lasts p choices r n h place (adds one) remains bound (value_of v left, evaluated, is) =
    it_lasts is (after_lasts place left _ (rests (raised_rest n (omega (arith, one, bound)) remains)))
performed_lasts p choices r n h place (subtracts one) remains bound (fault_of kind, evaluated, is) = it_lasts is came
performed_lasts p choices r n h place (subtracts one) remains bound (value_of v left, evaluated, is) =
    it_lasts is (after_lasts place left _ (rests (raised_rest n (omega (arith, one, bound)) remains)))
performed_lasts p choices r n h place (calls_alone inner) remains bound is =
    call_lasts p choices r n h nowhere place inner remains (omega (arith, bound)) is

declared_lasts : {items : List Initial} {rest : Tasks} {j k : ℕ} (p : Program) (choices : List Choice) (r : Result) (n : ℕ)
    (h : Here) (place : Place) → ItemsLast p.functions items j → RestLasts p.functions rest k
    → j + k ≤ suc n → steps.DeclaresFirst p h items place rest choices r → ResultLasts p.functions n r
declared_lasts p choices r n h place no_items remains bound is = absurd is
declared_lasts p choices r n h place (undefined_item items less) remains bound is =
    it_lasts is (goes (rests (performs (declarations items) remains (omega (arith, less, bound)))))
declared_lasts {k = m} p choices r n h place (item_with_value {x = x} {k = k} right items less) remains bound is =
    assigned_lasts p choices r n h (record { variable = x; fields = [] }) place right
    (performs {n = k + m} (declarations items) remains (omega arith)) (omega (arith, less, bound)) is

-- ---- commands and returns
demanded_lasts : {fs : List Function} {rest : Tasks} {n : ℕ} (P : Type 0) (kind : FaultKind) (r : Result) (h : Here)
    (place : Place) (choices : List Choice) → TasksLast fs rest n
    → steps.Demands P kind h rest place choices r → ResultLasts fs n r
demanded_lasts P kind r h place choices lasts (inl is) = it_lasts is.1 (goes lasts)
demanded_lasts P kind r h place choices lasts (inr is) = it_lasts is.1 came

assumed_lasts : {rest : Tasks} {n : ℕ} (p : Program) (predicate : PredId) (x : ℕ) (r : Result) (h : Here) (place : Place)
    (choices : List Choice) (args : Option (List ℤ)) → TasksLast p.functions rest n
    → steps.Assumes p.defs predicate h x rest place choices args r → ResultLasts p.functions n r
assumed_lasts p predicate x r h place choices None lasts is = it_lasts is came
assumed_lasts p predicate x r h place [] (Some args) lasts is = absurd is
assumed_lasts p predicate x r h place (choose_input v ∷ choices) (Some args) lasts is = absurd is
assumed_lasts p predicate x r h place (choose_malloc m ∷ choices) (Some args) lasts is = absurd is
assumed_lasts p predicate x r h place (choose_shape v parts ∷ choices) (Some args) lasts is =
    it_lasts is.2 (after_lasts place choices (set_variable h.values (with_blocks h.heap parts) x (Some v)) lasts)

asserted_lasts : {rest : Tasks} {n : ℕ} (p : Program) (predicate : PredId) (r : Result) (h : Here) (place : Place)
    (choices : List Choice) (v : Option ℤ) (args : Option (List ℤ)) → TasksLast p.functions rest n
    → steps.Asserts p.defs predicate h rest place choices v args r → ResultLasts p.functions n r
asserted_lasts p predicate r h place choices None args lasts is = it_lasts is came
asserted_lasts p predicate r h place choices (Some v) None lasts is = it_lasts is came
asserted_lasts p predicate r h place choices (Some v) (Some args) lasts is = demanded_lasts _ _ r h place choices lasts is

return_lasts : {right : Right} {rest : Tasks} {j k : ℕ} (p : Program) (choices : List Choice) (r : Result) (n : ℕ) (h : Here)
    (place : Place) → RightLasts p.functions right j → RestLasts p.functions rest k
    → j + k ≤ suc n → steps.Returns p h (Some right) rest place choices r → ResultLasts p.functions n r
return_lasts p choices r n h place (expressions one) remains bound (fault_of kind, evaluated, is) = it_lasts is came
return_lasts p choices r n h place (expressions one) remains bound (value_of v left, evaluated, is) =
    it_lasts is (returned_lasts n h.heap place left v remains (omega (arith, one, bound)))
return_lasts p [] r n h place (allocations one) remains bound is = absurd is
return_lasts p (choose_input v ∷ choices) r n h place (allocations one) remains bound is = absurd is
return_lasts p (choose_shape v parts ∷ choices) r n h place (allocations one) remains bound is = absurd is
return_lasts p (choose_malloc zero ∷ choices) r n h place (allocations one) remains bound is =
    it_lasts is (goes (back_lasts n (Some (pos 0)) remains (omega (arith, one, bound))))
return_lasts p (choose_malloc (suc m) ∷ choices) r n h place (allocations one) remains bound is =
    it_lasts is.2 (goes (back_lasts n (Some (pos (suc m))) remains (omega (arith, one, bound))))
return_lasts p choices r n h place (results inner less) remains bound is =
    call_lasts p choices r n h (returned place) place inner remains (omega (arith, less, bound)) is

-- ---- conditions
raised_branch : {fs : List Function} {x : Branch} {k : ℕ} (n : ℕ) → k ≤ n → BranchLasts fs x k → BranchLasts fs x n
raised_branch n less (goes_on lasts) = goes_on (raised n less lasts)
raised_branch n less faults = faults
raised_branch n less stops_here = stops_here

led_lasts : {fs : List Function} {n : ℕ} {x : Branch} (h : Here) (choices : List Choice) → BranchLasts fs x n
    → ResultLasts fs n (led h x choices)
led_lasts h choices (goes_on lasts) = goes lasts
led_lasts h choices faults = came
led_lasts h choices stops_here = came

decided_lasts : {fs : List Function} {n : ℕ} {x y : Branch} (h : Here) (choices : List Choice) (holds : Bool)
    → BranchLasts fs x n → BranchLasts fs y n → ResultLasts fs n (decided h x y choices holds)
decided_lasts h choices true x y = led_lasts h choices x
decided_lasts h choices false x y = led_lasts h choices y

compared_lasts : {fs : List Function} {n : ℕ} {x y : Branch} (h : Here) (c : Comparison) (place : Place) (v w : Option ℤ)
    (choices : List Choice) → BranchLasts fs x n → BranchLasts fs y n
    → ResultLasts fs n (compared h c x y place v w choices)
compared_lasts h c place None w choices x y = came
compared_lasts h c place (Some v) None choices x y = came
compared_lasts h c place (Some v) (Some w) choices x y = decided_lasts h choices (compares c v w) x y

tested_lasts : {fs : List Function} {n : ℕ} {x y : Branch} (choices : List Choice) (r : Result) (h : Here) (c : Cond)
    → BranchLasts fs x n → BranchLasts fs y n → steps.Tests h c x y choices r → ResultLasts fs n r
tested_lasts choices r h (plain place e) x y (fault_of kind, evaluated, is) = it_lasts is came
tested_lasts choices r h (plain place e) x y (value_of v left, evaluated, is) =
    it_lasts is (compared_lasts h Unequal place v (Some (pos 0)) left x y)
tested_lasts choices r h (compare place c a b) x y (fault_of kind, evaluated, is) = it_lasts is came
tested_lasts choices r h (compare place c a b) x y (value_of v left, evaluated, (fault_of kind, other, is)) = it_lasts is came
tested_lasts choices r h (compare place c a b) x y (value_of v left, evaluated, (value_of w more, other, is)) =
    it_lasts is (compared_lasts h c place v w more x y)
tested_lasts choices r h (negation c) x y is = absurd is
tested_lasts choices r h (both c d) x y is = absurd is
tested_lasts choices r h (either c d) x y is = absurd is

-- ---- a step
executed_lasts : {a : Stmt} {rest : Tasks} {j k : ℕ} (p : Program) (choices : List Choice) (r : Result) (n : ℕ) (h : Here)
    → Lasts p.functions a j → RestLasts p.functions rest k → j + k ≤ suc n
    → steps.Executes p h a rest choices r → ResultLasts p.functions n r
executed_lasts p choices r n h (declarations {place = place} items) remains bound is =
    declared_lasts p choices r n h place items remains bound is
executed_lasts p choices r n h (blocks all) remains bound is = absurd is
executed_lasts p choices r n h empties remains bound is = absurd is
executed_lasts p choices r n h (simples {x = x} action) remains bound is =
    performed_lasts p choices r n h x.place action remains bound is
executed_lasts p choices r n h (frees one) remains bound (fault_of kind, evaluated, is) = it_lasts is came
executed_lasts p choices r n h (frees {place = place} one) remains bound (value_of v left, evaluated, is) =
    it_lasts is (after_lasts place left (steps.freed h v) (rests (raised_rest n (omega (arith, one, bound)) remains)))
executed_lasts p choices r n h (asserts less) remains bound is = absurd is
executed_lasts p choices r n h (assumes less) remains bound is = absurd is
executed_lasts p choices r n h (shapes_assumed {place = place} {predicate = predicate} {x = x} one) remains bound is =
    assumed_lasts p predicate x r h place choices _ (rests (raised_rest n (omega (arith, one, bound)) remains)) is
executed_lasts p choices r n h (shapes_asserted {place = place} {predicate = predicate} one) remains bound is =
    asserted_lasts p predicate r h place choices _ _ (rests (raised_rest n (omega (arith, one, bound)) remains)) is
executed_lasts p choices r n h (emptiness_asserted {place = place} one) remains bound is =
    demanded_lasts _ _ r h place choices (rests (raised_rest n (omega (arith, one, bound)) remains)) is
executed_lasts p choices r n h (ifs a less) remains bound is = absurd is
executed_lasts p choices r n h (ifs_else a b first second) remains bound is = absurd is
executed_lasts p choices r n h returns_nothing remains bound is =
    it_lasts is (goes (back_lasts n None remains (omega (arith, bound))))
executed_lasts p choices r n h (returns_value {place = place} right) remains bound is =
    return_lasts p choices r n h place right remains bound is

taken_lasts : {fs : List Function} {rest : Tasks} {k : ℕ} (n : ℕ) (h : Here) (target : Target) (v : Option ℤ)
    (choices : List Choice) → RestLasts fs rest k → k ≤ n → ResultLasts fs n (steps.taken h target v rest choices)
taken_lasts n h nowhere v choices remains bound = goes (rests (raised_rest n bound remains))
taken_lasts n h (stored l place) v choices remains bound =
    after_lasts place choices (assigned h.values h.heap l v) (rests (raised_rest n bound remains))
taken_lasts n h (returned place) v choices remains bound = returned_lasts n h.heap place choices v remains (omega (arith, bound))

does_last : {tasks : Tasks} {m : ℕ} (p : Program) (choices : List Choice) (r : Result) (n : ℕ) (h : Here)
    → TasksLast p.functions tasks m → m ≤ suc n → Does p h tasks choices r → ResultLasts p.functions n r
does_last p choices r n h (over one) bound is = it_lasts is came
does_last p choices r n h (tests {c = c} x y first second) bound is =
    let an = an_atom c in
    tested_lasts choices r h c (raised_branch n (omega (arith, first, bound, an)) x)
    (raised_branch n (omega (arith, second, bound, an)) y) is
does_last p choices r n h (rests (ends two)) bound is = it_lasts is came
does_last p choices r n h (rests (performs a rest less)) bound is =
    executed_lasts p choices r n h a rest (omega (arith, less, bound)) is
does_last p choices r n h (rests (ends_block rest)) bound is = absurd is
does_last p choices r n h (rests (ends_call rest less)) bound is = absurd is
does_last p choices r n h (rests (takes {target = target} {v = v} rest less)) bound is =
    it_lasts is (taken_lasts n h target v choices rest (omega (arith, less, bound)))

-- ---- runs
gone_on : {fs : List Function} {n : ℕ} {d : Config} {rest : List Choice} → ResultLasts fs n (next d rest) → TasksLast fs d.tasks n
gone_on (goes lasts) = lasts

-- a run comes to its end within the steps that are left
pub runs_last : (p : Program) (k n : ℕ) (c : Config) (choices : List Choice) (f : Final) → TasksLast p.functions c.tasks n
    → Reaches (Step p) k c choices f → Reaches (Step p) n c choices f
runs_last p zero n c choices f lasts run = absurd run
runs_last p (suc k) zero c choices f lasts run = absurd (let one : 1 ≤ 0 = one_left lasts in omega (arith, one))
runs_last p (suc k) (suc n) c choices f lasts (inl step) = inl step
runs_last p (suc k) (suc n) c choices f lasts (inr (d, rest, (values, tasks, path, does), run)) =
    let less =
    does_last p choices (next d rest) n (record { values = values; heap = c.heap }) (arrives_last lasts path)
    (omega arith) does in
    inr (d, rest, (values, tasks, path, does), runs_last p k n d rest f (gone_on less) run)

-- the entry's body, and a step for its end
pub entry_lasts : {fs : List Function} {k : ℕ} (f : Function) (n : ℕ) → AllLast fs f.body k → 2 + k ≤ n
    → TasksLast fs (steps.start f).tasks n
entry_lasts f n body bound = rests (row_lasts f.body n body (ends {n = 2} (omega arith)) (omega (arith, bound)))
