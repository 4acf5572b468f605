-- What a step does: a declarator, another simple statement, a command, a `return`, the passing of arguments, the taking of a
-- result, or an atomic condition.
use Rattle.std.specs.Prelude.{◌≡◌, ◌==◌, ◌⊎◌, ℕ, zero, suc, ℤ, pos, ◌+ℤ◌, ◌-ℤ◌, Bool, List, [], ◌∷◌, Option, Some, None, map, if◌then◌else◌, slice_get}
use Rattle.std.specs.FinMap as map
use Rattle.mc_base.specs.declared.ids.PredId.{PredId}
use Rattle.mc_base.specs.declared.plain.FaultKind.{FaultKind}
use Rattle.mc_base.specs.declared.plain.FaultKind.TheVariants.{Uninit, BadFree, Assertion, Shape, NotEmpty}
use Rattle.mc_base.specs.declared.text.place.Place.{Place}
use Rattle.mc_flow.specs.Runs.{next, last, ended, stopped, fault, IsSafeFrom}
use Rattle.mc_flow.specs.Heap.Heap.{Block, Heap, IsAddress, region_of}
use Rattle.mc_flow.specs.Heap.Access.{fresh_block}
use Rattle.mc_flow.specs.Heap.Adding.{AreFree, part_of, with_blocks}
use Rattle.mc_flow.specs.Heap.Choices.{Choice, input as choose_input, malloc as choose_malloc, shape as choose_shape}
use Rattle.mc_flow.specs.Heap.Parts.{IsEmpty}
use Rattle.mc_flow.specs.declared.defs.rules.Def.{Def}
use Rattle.mc_flow.specs.Defs.Meaning.{Sat, HoldsSomewhere}
use Rattle.mc_flow.specs.Values.{address, all_there}
use Rattle.mc_c_syntax.specs.declared.ast.trees.Comparison.{Comparison}
use Rattle.mc_c_syntax.specs.declared.ast.trees.Comparison.TheVariants.{Unequal}
use Rattle.mc_semantics.specs.Values.{Evaluated, fault_of, value_of}
use Rattle.mc_semantics.specs.Steps.{Arguments, no_arguments, arguments, AfterFirst, compares}
use Rattle.mc_semantics.specs.Resolved.Programs.{Left, Expr, Cond, plain, compare, negation, both, either, Call, Right}
use Rattle.mc_semantics.specs.Resolved.Programs.{expression, result_of, allocation, Action, assign, add, subtract, call}
use Rattle.mc_semantics.specs.Resolved.Programs.{Initial, Argument, variable, constant, Stmt, declaration, block, empty}
use Rattle.mc_semantics.specs.Resolved.Programs.{simple, free, assert, assume, assume_shape, assert_shape, assert_empty}
use Rattle.mc_semantics.specs.Resolved.Programs.{if_only, if_else, while_loop, do_loop, for_loop, break_loop, continue_loop}
use Rattle.mc_semantics.specs.Resolved.Programs.{returns, Local, Function, Program}
use Rattle.mc_semantics.specs.Resolved.Configs.{Values, held, with_variable, Target, nowhere, stored, returned, perform}
use Rattle.mc_semantics.specs.Resolved.Configs.{again, test, always, end_block, end_loop, end_turn, end_call, take_result}
use Rattle.mc_semantics.specs.Resolved.Configs.{Tasks, done, task, Branch, go_on, fails, stops, Config, Result}
use Rattle.mc_semantics.specs.Resolved.Values.{Evaluates, Changed, fault_in, changed, set_variable, assigned, combined}
use Rattle.mc_semantics.specs.Resolved.Moves.{in_a_row, given, Arrives}

-- what the variables hold and the heap, where something is computed
pub record Here : Type 0 where
  pub values : Values
  pub heap : Heap

-- ---- what a step leads to
-- the run goes on with these tasks, or faults at the place
abbrev pub after : Tasks → Place → List Choice → Changed → Result
after tasks place choices (fault_in kind) = last (fault kind place)
after tasks place choices (changed values heap) = next (record { tasks = tasks; values = values; heap = heap }) choices

-- an expression is evaluated, and its value used
abbrev pub AfterValue : Place → (Option ℤ → List Choice → Result → Type 0) → Evaluated → Result → Type 0
AfterValue place go (fault_of kind) r = r ≡ last (fault kind place)
AfterValue place go (value_of v choices) r = go v choices r

abbrev pub WithValue : Here → Expr → Place → List Choice → (Option ℤ → List Choice → Result → Type 0) → Result → Type 0
WithValue h e place choices go r = (one : Evaluated) × Evaluates h.values h.heap e choices one × AfterValue place go one r

-- the function goes back with its result; from the entry the run comes to its end
abbrev pub returning : Tasks → Option ℤ → Values × Tasks
returning done v = ([], done)
returning (task (end_call saved target) rest) v = (saved, given target v rest)
returning (task (perform a) rest) v = returning rest v
returning (task (again c a ends) rest) v = returning rest v
returning (task (test c a b) rest) v = returning rest v
returning (task (always go) rest) v = returning rest v
returning (task (end_block xs) rest) v = returning rest v
returning (task (end_loop xs) rest) v = returning rest v
returning (task end_turn rest) v = returning rest v
returning (task (take_result target w) rest) v = returning rest v

abbrev pub gone_back : Heap → Tasks → Option ℤ → List Choice → Result
gone_back heap tasks v choices = next (record { tasks = (returning tasks v).1; values = (returning tasks v).0; heap = heap }) choices

-- ---- memory
-- malloc's answer is a choice: null, or an address that is not allocated, where a new block is
abbrev pub Allocates : Heap → (shape fields : ℕ) → List Choice → (ℤ → Heap → List Choice → Result → Type 0) → Result → Type 0
Allocates heap shape fields [] go r = ⊥
Allocates heap shape fields (choose_input v ∷ choices) go r = ⊥
Allocates heap shape fields (choose_shape v blocks ∷ choices) go r = ⊥
Allocates heap shape fields (choose_malloc zero ∷ choices) go r = go (pos 0) heap choices r
Allocates heap shape fields (choose_malloc (suc n) ∷ choices) go r =
    IsAddress (suc n) × (region_of heap (suc n) ≡ None)
    × go (pos (suc n)) (map.insert heap (suc n) (fresh_block shape fields)) choices r

-- a block is freed; null is let alone, and what is not allocated can't be freed
abbrev pub freed_at : Here → ℕ → Option Block → Changed
freed_at h at None = fault_in BadFree
freed_at h at (Some b) = changed h.values (map.remove h.heap at)

abbrev pub freed : Here → Option ℤ → Changed
freed h None = fault_in Uninit
freed h (Some p) = if address p == 0 then changed h.values h.heap else freed_at h (address p) (region_of h.heap (address p))

-- ---- calls
abbrev pub EvaluateAll : Here → List Expr → List Choice → Arguments → Type 0
EvaluateAll h [] choices r = r ≡ arguments [] choices
EvaluateAll h (e ∷ es) choices r =
    (one : Evaluated) × Evaluates h.values h.heap e choices one × AfterFirst (λ rest others. EvaluateAll h es rest others) one r

-- the parameters hold the arguments, and the other variables are undefined
abbrev pub passed : ℕ → List Local → List ℤ → Values
passed parameters [] vs = []
passed zero (x ∷ xs) vs = None ∷ passed zero xs vs
passed (suc more) (x ∷ xs) [] = None ∷ passed more xs []
passed (suc more) (x ∷ xs) (v ∷ vs) = Some v ∷ passed more xs vs

abbrev pub begun : Here → Function → Target → Place → Tasks → List Choice → Option (List ℤ) → Result
begun h f target place rest choices None = last (fault Uninit place)
begun h f target place rest choices (Some vs) =
    next (record {
      tasks = in_a_row f.body
          (task (end_call h.values target) rest);
      values = passed f.parameters f.locals vs;
      heap = h.heap;
    }) choices

abbrev pub AfterArguments : Here → Option Function → Target → Place → Tasks → Arguments → Result → Type 0
AfterArguments h f target place rest (no_arguments kind) r = r ≡ last (fault kind place)
AfterArguments h None target place rest (arguments vs choices) r = ⊥
AfterArguments h (Some f) target place rest (arguments vs choices) r = r ≡ begun h f target place rest choices (all_there vs)

-- the arguments are evaluated and passed, and the function begins
abbrev pub Passes : Program → Here → Call → Target → Place → Tasks → List Choice → Result → Type 0
Passes p h c target place rest choices r =
    (all : Arguments) × EvaluateAll h c.arguments choices all × AfterArguments h (slice_get p.functions c.function) target place rest all r

-- ---- simple statements
abbrev pub Assigns : Program → Here → Left → Right → Place → Tasks → List Choice → Result → Type 0
Assigns p h l (expression e) place rest choices r =
    WithValue h e place choices (λ v left other. other ≡ after rest place left (assigned h.values h.heap l v)) r
Assigns p h l (result_of c) place rest choices r = Passes p h c (stored l place) place rest choices r
Assigns p h l (allocation shape fields) place rest choices r =
    Allocates h.heap shape fields choices (λ v heap left other. other ≡ after rest place left (assigned h.values heap l (Some v))) r

abbrev pub Combines : (ℤ → ℤ → ℤ) → Here → Left → Expr → Place → Tasks → List Choice → Result → Type 0
Combines operation h l e place rest choices r =
    WithValue h e place choices (λ v left other. other ≡ after rest place left (combined operation h.values h.heap l v)) r

abbrev pub Performs : Program → Here → Action → Place → Tasks → List Choice → Result → Type 0
Performs p h (assign l right) place rest choices r = Assigns p h l right place rest choices r
Performs p h (add l e) place rest choices r = Combines (λ a b. a +ℤ b) h l e place rest choices r
Performs p h (subtract l e) place rest choices r = Combines (λ a b. a -ℤ b) h l e place rest choices r
Performs p h (call c) place rest choices r = Passes p h c nowhere place rest choices r

-- the first declarator of several: without a value its variable is undefined
abbrev pub Declares : Program → Here → Initial → Place → Tasks → List Choice → Option Right → Result → Type 0
Declares p h x place rest choices None r = r
    ≡ next (record { tasks = rest; values = with_variable h.values x.variable None; heap = h.heap }) choices
Declares p h x place rest choices (Some right) r = Assigns p h (record { variable = x.variable; fields = [] }) right place rest choices r

abbrev pub DeclaresFirst : Program → Here → List Initial → Place → Tasks → List Choice → Result → Type 0
DeclaresFirst p h [] place rest choices r = ⊥
DeclaresFirst p h (x ∷ xs) place rest choices r = Declares p h x place (task (perform (declaration place xs)) rest) choices x.value r

-- ---- shapes
abbrev pub argument_value : Values → Argument → Option ℤ
argument_value values (variable x) = held values x
argument_value values (constant v) = Some v

-- a value with blocks at free addresses is a choice, where the predicate holds of the value on these blocks
abbrev pub AddsShape : List Def → PredId → List ℤ → Here → ℕ → Tasks → Place → List Choice → Result → Type 0
AddsShape defs predicate args h x rest place [] r = ⊥
AddsShape defs predicate args h x rest place (choose_input v ∷ choices) r = ⊥
AddsShape defs predicate args h x rest place (choose_malloc n ∷ choices) r = ⊥
AddsShape defs predicate args h x rest place (choose_shape v blocks ∷ choices) r =
    AreFree h.heap blocks × Sat defs predicate v args (part_of blocks)
    × (r ≡ after rest place choices (set_variable h.values (with_blocks h.heap blocks) x (Some v)))

-- a shape is assumed: the arguments are taken before the choice is asked for
abbrev pub Assumes : List Def → PredId → Here → ℕ → Tasks → Place → List Choice → Option (List ℤ) → Result → Type 0
Assumes defs predicate h x rest place choices None r = r ≡ last (fault Uninit place)
Assumes defs predicate h x rest place choices (Some args) r = AddsShape defs predicate args h x rest place choices r

-- the run goes on where this holds, and has this fault where it does not
abbrev pub Demands : Type 0 → FaultKind → Here → Tasks → Place → List Choice → Result → Type 0
Demands P kind h rest place choices r = (P × (r ≡ after rest place choices (changed h.values h.heap)))
    ⊎ ((¬ P) × (r ≡ last (fault kind place)))

-- a shape is asserted: the value is taken, then the arguments, and the predicate is to hold of them on some part of the heap
abbrev pub Asserts : List Def → PredId → Here → Tasks → Place → List Choice → Option ℤ → Option (List ℤ) → Result → Type 0
Asserts defs predicate h rest place choices None args r = r ≡ last (fault Uninit place)
Asserts defs predicate h rest place choices (Some v) None r = r ≡ last (fault Uninit place)
Asserts defs predicate h rest place choices (Some v) (Some args) r =
    Demands (HoldsSomewhere defs predicate v args (region_of h.heap)) Shape h rest place choices r

-- ---- returns and results
abbrev pub returned_value : Heap → Tasks → Place → List Choice → Option ℤ → Result
returned_value heap rest place choices None = last (fault Uninit place)
returned_value heap rest place choices (Some v) = gone_back heap rest (Some v) choices

abbrev pub Returns : Program → Here → Option Right → Tasks → Place → List Choice → Result → Type 0
Returns p h None rest place choices r = r ≡ gone_back h.heap rest None choices
Returns p h (Some (expression e)) rest place choices r = WithValue h e place choices
    (λ v left other. other ≡ returned_value h.heap rest place left v) r
Returns p h (Some (result_of c)) rest place choices r = Passes p h c (returned place) place rest choices r
Returns p h (Some (allocation shape fields)) rest place choices r =
    Allocates h.heap shape fields choices (λ v heap left other. other ≡ gone_back heap rest (Some v) left) r

-- the result of a call is taken
abbrev pub taken : Here → Target → Option ℤ → Tasks → List Choice → Result
taken h nowhere v rest choices = next (record { tasks = rest; values = h.values; heap = h.heap }) choices
taken h (stored l place) v rest choices = after rest place choices (assigned h.values h.heap l v)
taken h (returned place) v rest choices = returned_value h.heap rest place choices v

-- ---- conditions
-- where a condition leads that is true, or false
abbrev pub led : Here → Branch → List Choice → Result
led h (go_on tasks) choices = next (record { tasks = tasks; values = h.values; heap = h.heap }) choices
led h (fails place) choices = last (fault Assertion place)
led h stops choices = last stopped

abbrev pub decided : Here → Branch → Branch → List Choice → Bool → Result
decided h a b choices holds = if holds then led h a choices else led h b choices

abbrev pub compared : Here → Comparison → Branch → Branch → Place → Option ℤ → Option ℤ → List Choice → Result
compared h c a b place None y choices = last (fault Uninit place)
compared h c a b place (Some x) None choices = last (fault Uninit place)
compared h c a b place (Some x) (Some y) choices = decided h a b choices (compares c x y)

-- an atomic condition; the others are taken apart before
abbrev pub Tests : Here → Cond → Branch → Branch → List Choice → Result → Type 0
Tests h (plain p e) a b choices r =
    WithValue h e p choices (λ v left other. other ≡ compared h Unequal a b p v (Some (pos 0)) left) r
Tests h (compare p c x y) a b choices r =
    WithValue h x p choices (λ v left other. WithValue h y p left (λ w more ends. ends ≡ compared h c a b p v w more) other) r
Tests h (negation c) a b choices r = ⊥
Tests h (both c d) a b choices r = ⊥
Tests h (either c d) a b choices r = ⊥

-- ---- steps
-- a statement that is a step
abbrev pub Executes : Program → Here → Stmt → Tasks → List Choice → Result → Type 0
Executes p h (declaration place items) rest choices r = DeclaresFirst p h items place rest choices r
Executes p h (simple x) rest choices r = Performs p h x.action x.place rest choices r
Executes p h (free place e) rest choices r = WithValue h e place choices (λ v left other. other ≡ after rest place left (freed h v)) r
Executes p h (assume_shape place predicate x args) rest choices r =
    Assumes p.defs predicate h x rest place choices (all_there (map (argument_value h.values) args)) r
Executes p h (assert_shape place predicate a args) rest choices r =
    Asserts p.defs predicate h rest place choices (argument_value h.values a) (all_there (map (argument_value h.values) args)) r
Executes p h (assert_empty place) rest choices r = Demands (IsEmpty (region_of h.heap)) NotEmpty h rest place choices r
Executes p h (returns place right) rest choices r = Returns p h right rest place choices r
Executes p h (block xs ss) rest choices r = ⊥
Executes p h empty rest choices r = ⊥
Executes p h (assert place c) rest choices r = ⊥
Executes p h (assume place c) rest choices r = ⊥
Executes p h (if_only place c a) rest choices r = ⊥
Executes p h (if_else place c a b) rest choices r = ⊥
Executes p h (while_loop place c a) rest choices r = ⊥
Executes p h (do_loop place a c) rest choices r = ⊥
Executes p h (for_loop head a) rest choices r = ⊥
Executes p h (break_loop place) rest choices r = ⊥
Executes p h (continue_loop place) rest choices r = ⊥

-- the step of the first task, where it is one
abbrev pub Does : Program → Here → Tasks → List Choice → Result → Type 0
Does p h done choices r = r ≡ last ended
Does p h (task (perform a) rest) choices r = Executes p h a rest choices r
Does p h (task (again c a ends) rest) choices r = ⊥
Does p h (task (test c a b) rest) choices r = Tests h c a b choices r
Does p h (task (always go) rest) choices r = r ≡ next (record { tasks = go; values = h.values; heap = h.heap }) choices
Does p h (task (end_block xs) rest) choices r = ⊥
Does p h (task (end_loop xs) rest) choices r = ⊥
Does p h (task end_turn rest) choices r = ⊥
Does p h (task (end_call saved target) rest) choices r = ⊥
Does p h (task (take_result target v) rest) choices r = r ≡ taken h target v rest choices

-- one step: what belongs to it is done first
abbrev pub Step : Program → Config → List Choice → Result → Type 0
Step p c choices r =
    (values : Values) × (tasks : Tasks) × Arrives c.values c.tasks values tasks
    × Does p (record { values = values; heap = c.heap }) tasks choices r

-- a function without arguments begins, no variable defined and nothing allocated
abbrev pub start : Function → Config
start f = record { tasks = in_a_row f.body done; values = passed 0 f.locals []; heap = map.empty }

-- no run of the program, of any length and for any choices, has a fault
abbrev pub IsSafeProgram : Program → Function → Type 0
IsSafeProgram p entry = IsSafeFrom (Step p) (start entry)
