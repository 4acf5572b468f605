-- What a step does: a declarator, another simple statement, a command, a `return`, the passing of arguments, the taking of a result, or an atomic condition.
use Rattle.std.specs.Prelude.{◌≡◌, ◌==◌, ◌⊎◌, ℕ, zero, suc, ℤ, pos, ◌+ℤ◌, ◌-ℤ◌, int_le, Bool, not, List, [], ◌∷◌}
use Rattle.std.specs.Prelude.{Option, Some, None, map, reverse, position, option_map, if◌then◌else◌, slice_get}
use Rattle.std.specs.Prelude.{unwrap_or, length}
use Rattle.std.specs.Option.{option_map_or}
use Rattle.std.specs.Ordering.{int_eq}
use Rattle.std.specs.FinMap as map
use Rattle.mc_base.specs.declared.ids.PredId.{PredId}
use Rattle.mc_base.specs.declared.plain.FaultKind.{FaultKind}
use Rattle.mc_base.specs.declared.plain.FaultKind.TheVariants.{Uninit, BadFree, Assertion, Shape, NotEmpty}
use Rattle.mc_base.specs.declared.text.place.Place.{Place}
use Rattle.mc_flow.specs.Runs.{next, last, ended, stopped, fault, IsSafeFrom}
use Rattle.mc_flow.specs.Heap.Heap.{Block, Heap, IsAddress, region_of}
use Rattle.mc_flow.specs.Heap.Access.{fresh_block}
use Rattle.mc_flow.specs.Heap.Adding.{AreFree, part_of, with_blocks}
use Rattle.mc_flow.specs.Heap.Choices.{Choice, input as choose_input, malloc as choose_malloc, shape as choose_shape}
use Rattle.mc_flow.specs.Heap.Parts.{IsEmpty}
use Rattle.mc_flow.specs.declared.defs.rules.Def.{Def}
use Rattle.mc_flow.specs.Defs.Meaning.{Sat, HoldsSomewhere}
use Rattle.mc_flow.specs.Values.{address, all_there}
use Rattle.mc_c_syntax.specs.declared.ast.trees.Name.{Name}
use Rattle.mc_c_syntax.specs.declared.ast.trees.Base.{Base}
use Rattle.mc_c_syntax.specs.declared.ast.trees.Malloc.{Malloc}
use Rattle.mc_c_syntax.specs.declared.ast.trees.Comparison.{Comparison}
use Rattle.mc_c_syntax.specs.declared.ast.trees.Argument.{Argument}
use Rattle.mc_c_syntax.specs.Ast.Trees.{Left, Expr, Cond, plain, compare, negation, enclosed, both, either, CallTree, Right}
use Rattle.mc_c_syntax.specs.Ast.Trees.{expression, result_of, allocation, InitialTree, SimpleTree, assign, add, subtract}
use Rattle.mc_c_syntax.specs.Ast.Trees.{increment, decrement, increment_first, decrement_first, call, Stmt, declaration}
use Rattle.mc_c_syntax.specs.Ast.Trees.{block, empty, simple, free, assert, assume, assume_shape, assert_shape, assert_empty}
use Rattle.mc_c_syntax.specs.Ast.Trees.{if_only, if_else, while_loop, do_loop, for_loop, break_loop, continue_loop, returns}
use Rattle.mc_c_syntax.specs.Ast.Trees.{stmts_of, FunctionTree, UnitTree}
use Rattle.mc_c_syntax.specs.Ast.Names.{is_same}
use Rattle.mc_c_types.specs.declared.types.BaseType.{BaseType}
use Rattle.mc_c_types.specs.Tables.{Tables, Variable, variable_of, fields_of, parameters_of, called_function, tables_of}
use Rattle.mc_c_types.specs.Scopes.{Scope, visible, declare}
use Rattle.mc_c_types.specs.Faults.{first_place, size_meaning}
use Rattle.mc_semantics.specs.Configs.{Program, Values, no_values, with_variable, Target, nowhere, stored, returned}
use Rattle.mc_semantics.specs.Configs.{perform, declare_all, finish_turn, again, test, always, end_block, end_loop}
use Rattle.mc_semantics.specs.Configs.{end_turn, end_call, take_result, Tasks, done, task, Branch, go_on, fails}
use Rattle.mc_semantics.specs.Configs.{stops, Config, Result}
use Rattle.mc_semantics.specs.Values.{Here, held, Evaluated, fault_of, value_of, Evaluates, Changed, fault_in, changed, set_variable, assigned, combined}
use Rattle.mc_semantics.specs.Moves.{in_a_row, given, Arrives}

-- where something is computed
abbrev pub where_is : Tables → List Variable → Values → Heap → Here
where_is t vs values heap = record { tables = t; variables = vs; values = values; heap = heap }

-- ---- what a step leads to
-- the run goes on with these tasks, or faults at the place
abbrev pub after : Tasks → Place → List Choice → Changed → Result
after tasks place choices (fault_in kind) = last (fault kind place)
after tasks place choices (changed values heap) = next (record { tasks = tasks; values = values; heap = heap }) choices

-- the same for what an expression leads to
abbrev pub AfterValue : Place → (Option ℤ → List Choice → Result → Type 0) → Evaluated → Result → Type 0
AfterValue place go (fault_of kind) r = r ≡ last (fault kind place)
AfterValue place go (value_of v choices) r = go v choices r

-- an expression is evaluated, and its value used
abbrev pub WithValue : Here → Expr → Place → List Choice → (Option ℤ → List Choice → Result → Type 0) → Result → Type 0
WithValue h e place choices go r = (one : Evaluated) × Evaluates h e choices one × AfterValue place go one r

-- the function goes back with its result; from the entry the run comes to its end
abbrev pub returning : Tasks → Option ℤ → Values × Tasks
returning done v = (no_values, done)
returning (task (end_call saved target) rest) v = (saved, given target v rest)
returning (task (perform s a) rest) v = returning rest v
returning (task (declare_all s p b items) rest) v = returning rest v
returning (task (finish_turn vs x) rest) v = returning rest v
returning (task (again s a) rest) v = returning rest v
returning (task (test vs c a b) rest) v = returning rest v
returning (task (always a) rest) v = returning rest v
returning (task (end_block vs) rest) v = returning rest v
returning (task (end_loop vs) rest) v = returning rest v
returning (task end_turn rest) v = returning rest v
returning (task (take_result target w) rest) v = returning rest v

abbrev pub gone_back : Heap → Tasks → Option ℤ → List Choice → Result
gone_back heap tasks v choices = next (record { tasks = (returning tasks v).1; values = (returning tasks v).0; heap = heap }) choices

-- ---- memory
-- the struct that is allocated, and the number of its fields
abbrev pub struct_of : BaseType → ℕ
struct_of (BaseType.Typed type) = 0
struct_of (BaseType.Struct s) = s.0
struct_of BaseType.Undefined = 0

abbrev pub field_count : Tables → ℕ → ℕ
field_count t s = option_map_or (λ tree. length (fields_of t tree)) (slice_get t.structs s) 0

-- malloc's answer is a choice: null, or an address that is not allocated, where a new block is
abbrev pub Allocates : Here → Malloc → List Choice → (ℤ → Heap → List Choice → Result → Type 0) → Result → Type 0
Allocates h m [] go r = ⊥
Allocates h m (choose_input v ∷ choices) go r = ⊥
Allocates h m (choose_shape v blocks ∷ choices) go r = ⊥
Allocates h m (choose_malloc zero ∷ choices) go r = go (pos 0) h.heap choices r
Allocates h m (choose_malloc (suc n) ∷ choices) go r =
    IsAddress (suc n) × (region_of h.heap (suc n) ≡ None)
    × go (pos (suc n)) (map.insert h.heap (suc n)
    (fresh_block (struct_of (size_meaning h.tables h.variables m.size))
    (field_count h.tables (struct_of (size_meaning h.tables h.variables m.size))))) choices r

-- a block is freed; null is let alone, and what is not allocated can't be freed
abbrev pub freed_at : Here → ℕ → Option Block → Changed
freed_at h at None = fault_in BadFree
freed_at h at (Some b) = changed h.values (map.remove h.heap at)

abbrev pub freed : Here → Option ℤ → Changed
freed h None = fault_in Uninit
freed h (Some p) = if address p == 0 then changed h.values h.heap else freed_at h (address p) (region_of h.heap (address p))

-- ---- calls
-- what comes of all arguments, from left to right
pub data Arguments : Type 0 where
  no_arguments : FaultKind → Arguments
  arguments : List (Option ℤ) → List Choice → Arguments

abbrev pub put_before : Option ℤ → Arguments → Arguments
put_before v (no_arguments kind) = no_arguments kind
put_before v (arguments vs choices) = arguments (v ∷ vs) choices

abbrev pub AfterFirst : (List Choice → Arguments → Type 0) → Evaluated → Arguments → Type 0
AfterFirst more (fault_of kind) r = r ≡ no_arguments kind
AfterFirst more (value_of v choices) r = (others : Arguments) × more choices others × (r ≡ put_before v others)

abbrev pub EvaluateAll : Here → List Expr → List Choice → Arguments → Type 0
EvaluateAll h [] choices r = r ≡ arguments [] choices
EvaluateAll h (e ∷ es) choices r = (one : Evaluated) × Evaluates h e choices one
    × AfterFirst (λ rest others. EvaluateAll h es rest others) one r

-- the parameters hold the arguments
abbrev pub passed : List Variable → List ℤ → Values
passed [] vs = no_values
passed (x ∷ xs) [] = no_values
passed (x ∷ xs) (v ∷ vs) = with_variable (passed xs vs) x.place (Some v)

-- the body of a function, with its parameters in scope
abbrev pub body_of : Tables → FunctionTree → Tasks → Tasks
body_of t f rest =
    option_map_or (λ body. in_a_row t (record { heads = []; own = reverse (parameters_of t f); outer = [] })
    (stmts_of body.statements) rest) f.body rest

abbrev pub begun : Here → FunctionTree → Target → Place → Tasks → List Choice → Option (List ℤ) → Result
begun h f target place rest choices None = last (fault Uninit place)
begun h f target place rest choices (Some vs) =
    next (record {
      tasks = body_of h.tables f (task (end_call h.values target) rest);
      values = passed
          (parameters_of h.tables f) vs;
      heap = h.heap;
    }) choices

abbrev pub AfterArguments : Here → Option FunctionTree → Target → Place → Tasks → Arguments → Result → Type 0
AfterArguments h f target place rest (no_arguments kind) r = r ≡ last (fault kind place)
AfterArguments h None target place rest (arguments vs choices) r = ⊥
AfterArguments h (Some f) target place rest (arguments vs choices) r = r ≡ begun h f target place rest choices (all_there vs)

-- the arguments are evaluated and passed, and the function begins
abbrev pub Passes : Here → CallTree → Target → Place → Tasks → List Choice → Result → Type 0
Passes h c target place rest choices r =
    (all : Arguments) × EvaluateAll h c.arguments choices all
    × AfterArguments h (called_function h.tables c.function.text) target place rest all r

-- ---- simple statements
-- a variable, one of these, or a field after it gets what a right side comes to
abbrev pub Assigns : Here → List Variable → Left → Right → Place → Tasks → List Choice → Result → Type 0
Assigns h vs l (expression e) place rest choices r =
    WithValue h e place choices (λ v left other. other ≡ after rest place left (assigned (where_is h.tables vs h.values h.heap) l v)) r
Assigns h vs l (result_of c) place rest choices r = Passes h c (stored vs l place) place rest choices r
Assigns h vs l (allocation m) place rest choices r =
    Allocates h m choices (λ v heap left other. other ≡ after rest place left (assigned (where_is h.tables vs h.values heap) l (Some v))) r

-- a variable or field and the value of an expression are combined
abbrev pub Combines : (ℤ → ℤ → ℤ) → Here → Left → Expr → Place → Tasks → List Choice → Result → Type 0
Combines operation h l e place rest choices r =
    WithValue h e place choices (λ v left other. other ≡ after rest place left (combined operation h l v)) r

abbrev pub Performs : Here → SimpleTree → Place → Tasks → List Choice → Result → Type 0
Performs h (assign l right) place rest choices r = Assigns h h.variables l right place rest choices r
Performs h (add l e) place rest choices r = Combines (λ a b. a +ℤ b) h l e place rest choices r
Performs h (subtract l e) place rest choices r = Combines (λ a b. a -ℤ b) h l e place rest choices r
Performs h (increment l) place rest choices r = r ≡ after rest place choices (combined (λ a b. a +ℤ b) h l (Some (pos 1)))
Performs h (decrement l) place rest choices r = r ≡ after rest place choices (combined (λ a b. a -ℤ b) h l (Some (pos 1)))
Performs h (increment_first p l) place rest choices r = r ≡ after rest place choices (combined (λ a b. a +ℤ b) h l (Some (pos 1)))
Performs h (decrement_first p l) place rest choices r = r ≡ after rest place choices (combined (λ a b. a -ℤ b) h l (Some (pos 1)))
Performs h (call c) place rest choices r = Passes h c nowhere place rest choices r

abbrev pub simple_place : SimpleTree → Place
simple_place (assign l right) = l.name.place
simple_place (add l e) = l.name.place
simple_place (subtract l e) = l.name.place
simple_place (increment l) = l.name.place
simple_place (decrement l) = l.name.place
simple_place (increment_first p l) = p
simple_place (decrement_first p l) = p
simple_place (call c) = c.function.place

-- a variable is declared: without a value it is undefined, and a value goes to it whatever else has its name
abbrev pub Declares : Here → Variable → Option Right → Place → Tasks → List Choice → Result → Type 0
Declares h x None place rest choices r = r
    ≡ next (record { tasks = rest; values = with_variable h.values x.place None; heap = h.heap }) choices
Declares h x (Some right) place rest choices r =
    Assigns h (x ∷ []) (record { name = record { text = x.name; place = x.place }; fields = [] }) right place rest choices r

-- ---- shapes
-- the value of an argument of a shape command
abbrev pub argument_value : Here → Argument → Option ℤ
argument_value h (Argument.Name name) = held h name
argument_value h (Argument.Null p) = Some (pos 0)
argument_value h (Argument.Number n p) = Some (pos n)
argument_value h (Argument.Negative n p) = Some (pos 0 -ℤ pos n)

-- the predicate of this name
abbrev pub predicate_of : List Def → Name → PredId
predicate_of defs name = unwrap_or (option_map (λ n. record { 0 = n }) (position (λ d. is_same d.name name.text) defs)) (record { 0 = 0 })

-- a value with blocks at free addresses is a choice, where the predicate holds of the value on these blocks
abbrev pub AddsShape : List Def → Name → List ℤ → Here → Name → Tasks → Place → List Choice → Result → Type 0
AddsShape defs predicate args h x rest place [] r = ⊥
AddsShape defs predicate args h x rest place (choose_input v ∷ choices) r = ⊥
AddsShape defs predicate args h x rest place (choose_malloc n ∷ choices) r = ⊥
AddsShape defs predicate args h x rest place (choose_shape v blocks ∷ choices) r =
    AreFree h.heap blocks × Sat defs (predicate_of defs predicate) v args (part_of blocks)
    × (r ≡ after rest place choices
    (set_variable
    (record
    { tables = h.tables; variables = h.variables; values = h.values; heap = with_blocks h.heap blocks }) x
    (Some v)))

-- a shape is assumed: the arguments are taken before the choice is asked for
abbrev pub Assumes : List Def → Name → Here → Name → Tasks → Place → List Choice → Option (List ℤ) → Result → Type 0
Assumes defs predicate h x rest place choices None r = r ≡ last (fault Uninit place)
Assumes defs predicate h x rest place choices (Some args) r = AddsShape defs predicate args h x rest place choices r

-- the run goes on where this holds, and has this fault where it does not
abbrev pub Demands : Type 0 → FaultKind → Here → Tasks → Place → List Choice → Result → Type 0
Demands P kind h rest place choices r = (P × (r ≡ after rest place choices (changed h.values h.heap)))
    ⊎ ((¬ P) × (r ≡ last (fault kind place)))

-- a shape is asserted: the value is taken, then the arguments, and the predicate is to hold of them on some part of the heap
abbrev pub Asserts : List Def → Name → Here → Tasks → Place → List Choice → Option ℤ → Option (List ℤ) → Result → Type 0
Asserts defs predicate h rest place choices None args r = r ≡ last (fault Uninit place)
Asserts defs predicate h rest place choices (Some v) None r = r ≡ last (fault Uninit place)
Asserts defs predicate h rest place choices (Some v) (Some args) r =
    Demands (HoldsSomewhere defs (predicate_of defs predicate) v args (region_of h.heap)) Shape h rest place choices r

-- ---- returns and results
-- the function goes back with a value, which is to be defined
abbrev pub returned_value : Heap → Tasks → Place → List Choice → Option ℤ → Result
returned_value heap rest place choices None = last (fault Uninit place)
returned_value heap rest place choices (Some v) = gone_back heap rest (Some v) choices

abbrev pub Returns : Here → Option Right → Tasks → Place → List Choice → Result → Type 0
Returns h None rest place choices r = r ≡ gone_back h.heap rest None choices
Returns h (Some (expression e)) rest place choices r = WithValue h e place choices
    (λ v left other. other ≡ returned_value h.heap rest place left v) r
Returns h (Some (result_of c)) rest place choices r = Passes h c (returned place) place rest choices r
Returns h (Some (allocation m)) rest place choices r = Allocates h m choices
    (λ v heap left other. other ≡ gone_back heap rest (Some v) left) r

-- the result of a call is taken
abbrev pub taken : Here → Target → Option ℤ → Tasks → List Choice → Result
taken h nowhere v rest choices = next (record { tasks = rest; values = h.values; heap = h.heap }) choices
taken h (stored vs l place) v rest choices = after rest place choices
    (assigned (record { tables = h.tables; variables = vs; values = h.values; heap = h.heap }) l v)
taken h (returned place) v rest choices = returned_value h.heap rest place choices v

-- ---- conditions
-- where a condition leads that is true, or false
abbrev pub led : Here → Branch → List Choice → Result
led h (go_on tasks) choices = next (record { tasks = tasks; values = h.values; heap = h.heap }) choices
led h (fails place) choices = last (fault Assertion place)
led h stops choices = last stopped

abbrev pub decided : Here → Branch → Branch → List Choice → Bool → Result
decided h a b choices holds = if holds then led h a choices else led h b choices

-- a comparison of two numbers
abbrev pub compares : Comparison → ℤ → ℤ → Bool
compares Comparison.Equal x y = int_eq x y
compares Comparison.Unequal x y = not (int_eq x y)
compares Comparison.Below x y = not (int_le y x)
compares Comparison.AtMost x y = int_le x y
compares Comparison.Above x y = not (int_le x y)
compares Comparison.AtLeast x y = int_le y x

abbrev pub compared : Here → Comparison → Branch → Branch → Place → Option ℤ → Option ℤ → List Choice → Result
compared h c a b place None y choices = last (fault Uninit place)
compared h c a b place (Some x) None choices = last (fault Uninit place)
compared h c a b place (Some x) (Some y) choices = decided h a b choices (compares c x y)

-- an atomic condition; the others are taken apart before
abbrev pub Tests : Here → Cond → Branch → Branch → List Choice → Result → Type 0
Tests h (plain e) a b choices r =
    WithValue h e (first_place e) choices
    (λ v left other. other ≡ compared h Comparison.Unequal a b (first_place e) v (Some (pos 0)) left) r
Tests h (compare c x y) a b choices r =
    WithValue h x (first_place x) choices
    (λ v left other. WithValue h y (first_place x) left (λ w more last. last ≡ compared h c a b (first_place x) v w more) other) r
Tests h (negation p c) a b choices r = ⊥
Tests h (enclosed p c) a b choices r = ⊥
Tests h (both c d) a b choices r = ⊥
Tests h (either c d) a b choices r = ⊥

-- ---- steps
-- a statement that is a step
abbrev pub Executes : List Def → Here → Stmt → Tasks → List Choice → Result → Type 0
Executes defs h (simple x) rest choices r = Performs h x (simple_place x) rest choices r
Executes defs h (free p e) rest choices r = WithValue h e p choices (λ v left other. other ≡ after rest p left (freed h v)) r
Executes defs h (assume_shape p predicate x args) rest choices r = Assumes defs predicate h x rest p choices
    (all_there (map (argument_value h) args)) r
Executes defs h (assert_shape p predicate a args) rest choices r =
    Asserts defs predicate h rest p choices (argument_value h a) (all_there (map (argument_value h) args)) r
Executes defs h (assert_empty p) rest choices r = Demands (IsEmpty (region_of h.heap)) NotEmpty h rest p choices r
Executes defs h (returns p right) rest choices r = Returns h right rest p choices r
Executes defs h (declaration d) rest choices r = ⊥
Executes defs h (block p ss) rest choices r = ⊥
Executes defs h (empty p) rest choices r = ⊥
Executes defs h (assert p c) rest choices r = ⊥
Executes defs h (assume p c) rest choices r = ⊥
Executes defs h (if_only p c a) rest choices r = ⊥
Executes defs h (if_else p c a b) rest choices r = ⊥
Executes defs h (while_loop p c a) rest choices r = ⊥
Executes defs h (do_loop p a c) rest choices r = ⊥
Executes defs h (for_loop head a) rest choices r = ⊥
Executes defs h (break_loop p) rest choices r = ⊥
Executes defs h (continue_loop p) rest choices r = ⊥

-- the first declarator of several
abbrev pub DeclaresFirst : Tables → Scope → Place → Base → List InitialTree → Values → Heap → Tasks → List Choice → Result → Type 0
DeclaresFirst t s place base [] values heap rest choices r = ⊥
DeclaresFirst t s place base (item ∷ items) values heap rest choices r =
    Declares (where_is t (visible (declare s x)) values heap) x item.value place
    (task (declare_all (declare s x) place base items) rest) choices r
  where
    x : Variable
    x = variable_of t base item.declarator

-- the step of the first task, where it is one
abbrev pub Does : Program → Values → Heap → Tasks → List Choice → Result → Type 0
Does p values heap done choices r = r ≡ last ended
Does p values heap (task (perform s a) rest) choices r = Executes p.defs (where_is p.tables (visible s) values heap) a rest choices r
Does p values heap
    (task (declare_all s place base items) rest) choices r = DeclaresFirst p.tables s place base items values heap rest choices r
Does p values heap (task (finish_turn vs x) rest) choices r = Performs (where_is p.tables vs values heap) x (simple_place x) rest choices r
Does p values heap (task (again s a) rest) choices r = ⊥
Does p values heap (task (test vs c a b) rest) choices r = Tests (where_is p.tables vs values heap) c a b choices r
Does p values heap (task (always go) rest) choices r = r ≡ next (record { tasks = go; values = values; heap = heap }) choices
Does p values heap (task (end_block vs) rest) choices r = ⊥
Does p values heap (task (end_loop vs) rest) choices r = ⊥
Does p values heap (task end_turn rest) choices r = ⊥
Does p values heap (task (end_call saved target) rest) choices r = ⊥
Does p values heap (task (take_result target v) rest) choices r = r ≡ taken (where_is p.tables [] values heap) target v rest choices

-- one step: what belongs to it is done first
abbrev pub Step : Program → Config → List Choice → Result → Type 0
Step p c choices r = (values : Values) × (tasks : Tasks) × Arrives p.tables c.values c.tasks values tasks
    × Does p values c.heap tasks choices r

-- a program begins with the body of its entry, no variable defined and nothing allocated
abbrev pub start : Program → FunctionTree → Config
start p entry = record { tasks = body_of p.tables entry done; values = no_values; heap = map.empty }

-- no run of the program, of any length and for any choices, has a fault
abbrev pub IsSafeProgram : Program → FunctionTree → Type 0
IsSafeProgram p entry = IsSafeFrom (Step p) (start p entry)

-- a whole text with its definitions
abbrev pub program_of : UnitTree → List Def → Program
program_of unit defs = record { tables = tables_of unit; defs = defs }
