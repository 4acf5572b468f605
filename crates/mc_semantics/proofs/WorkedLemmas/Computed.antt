-- Runs of programs that ask for no choice and use no memory, computed.
use Rattle.std.proofs.Common.{◌≡◌, ℕ, zero, suc, ℤ, pos, ◌+ℤ◌, ◌-ℤ◌, ◌*ℤ◌, List, [], ◌∷◌, Option, Some, None, refl, inl, inr, subst}
use Rattle.std.specs.Prelude.{option_map}
use Rattle.mc_base.specs.declared.text.place.Place.{Place}
use Rattle.mc_flow.specs.Runs.{next, last, Final, fault, Reaches}
use Rattle.mc_flow.specs.Heap.Choices.{Choice}
use Rattle.mc_flow.specs.Heap.Heap.{Heap}
use Rattle.mc_flow.specs.declared.defs.rules.Def.{Def}
use Rattle.mc_flow.specs.Values.{all_there}
use Rattle.mc_c_syntax.specs.declared.ast.trees.Comparison.TheVariants as Comparison
use Rattle.mc_c_syntax.specs.Ast.Trees.{Left, Expr, number, null, input, value, minus, parens, times, plus, difference, Cond, plain, compare, negation, enclosed, both, either, CallTree, Right, expression, result_of, allocation, SimpleTree, assign, add, subtract, increment, decrement, increment_first, decrement_first, call, Stmt, declaration, block, empty, simple, free, assert, assume, assume_shape, assert_shape, assert_empty, if_only, if_else, while_loop, do_loop, for_loop, break_loop, continue_loop, returns, FunctionTree}
use Rattle.mc_c_types.specs.Tables.{Tables, Variable, variable_of, called_function}
use Rattle.mc_c_types.specs.Scopes.{visible, declare}
use Rattle.mc_c_types.specs.Faults.{first_place}
use Rattle.mc_semantics.specs.Configs.{Program, Values, Target, stored, returned, nowhere, perform, declare_all, finish_turn, again, test, always, end_block, end_loop, end_turn, end_call, take_result, Tasks, done, task, Branch, Config, Result}
use Rattle.mc_semantics.specs.Values.{Here, Evaluated, fault_of, value_of, evaluated, left_value, right_operand, AfterLeft, Evaluates, assigned, combined}
use Rattle.mc_semantics.specs.Moves.{moved, Arrives, here, there}
use Rattle.mc_semantics.specs.Steps.{start, program_of, where_is, after, AfterValue, WithValue, Arguments, no_arguments, arguments, put_before, AfterFirst, EvaluateAll, begun, AfterArguments, Passes, Assigns, Performs, Declares, Returns, returned_value, gone_back, taken, compared, Tests, Executes, Does, Step, simple_place}
use Rattle.mc_semantics.specs.Examples.{main_of}
use Rattle.mc_semantics.specs.Worked.Variables.{with_functions, RunsTo}

-- something with this property, where it was found
abbrev Found : {X : Type 0} → (X → Type 0) → Type 0
Found {X} P = Option ((x : X) × P x)

abbrev told : {X Y : Type 0} {P : X → Type 0} {Q : Y → Type 0} → ((x : X) → P x → (y : Y) × Q y) → Found P → Found Q
told go o = option_map (λ x. go x.0 x.1) o

abbrev onward : {X Y : Type 0} {P : X → Type 0} {Q : Y → Type 0} → ((x : X) → P x → Found Q) → Found P → Found Q
onward go None = None
onward go (Some x) = go x.0 x.1

-- ---- values
abbrev after_left : (h : Here) (operation : ℤ → ℤ → ℤ) (b : Expr) → ((rest : List Choice) → Found (Evaluates h b rest)) → (one : Evaluated) → Found (AfterLeft operation (λ rest two. Evaluates h b rest two) one)
after_left h operation b right (fault_of kind) = Some (fault_of kind, refl)
after_left h operation b right (value_of v rest) = told (λ two is. (right_operand operation v two, (two, is, refl))) (right rest)

abbrev operated : (h : Here) (operation : ℤ → ℤ → ℤ) (a b : Expr) (choices : List Choice) → Found (Evaluates h a choices) → ((rest : List Choice) → Found (Evaluates h b rest))
    → Found (λ r. (one : Evaluated) × Evaluates h a choices one × AfterLeft operation (λ rest two. Evaluates h b rest two) one r)
operated h operation a b choices left right = onward (λ one is. told (λ r comes. (r, (one, is, comes))) (after_left h operation b right one)) left

abbrev evaluate : (h : Here) (e : Expr) (choices : List Choice) → Found (Evaluates h e choices)
evaluate h (number n p) choices = Some (value_of (Some (pos n)) choices, refl)
evaluate h (null p) choices = Some (value_of (Some (pos 0)) choices, refl)
evaluate h (input p) choices = None
evaluate h (value l) choices = Some (evaluated (left_value h l) choices, refl)
evaluate h (minus p e) choices = told (λ one is. (right_operand (λ x y. x -ℤ y) (Some (pos 0)) one, (one, is, refl))) (evaluate h e choices)
evaluate h (parens p e) choices = evaluate h e choices
evaluate h (times a b) choices = operated h (λ x y. x *ℤ y) a b choices (evaluate h a choices) (λ rest. evaluate h b rest)
evaluate h (plus a b) choices = operated h (λ x y. x +ℤ y) a b choices (evaluate h a choices) (λ rest. evaluate h b rest)
evaluate h (difference a b) choices = operated h (λ x y. x -ℤ y) a b choices (evaluate h a choices) (λ rest. evaluate h b rest)

abbrev after_value : (place : Place) (go : Option ℤ → List Choice → Result → Type 0) → ((v : Option ℤ) (left : List Choice) → Found (go v left)) → (one : Evaluated) → Found (AfterValue place go one)
after_value place go each (fault_of kind) = Some (last (fault kind place), refl)
after_value place go each (value_of v left) = each v left

abbrev with_value : (h : Here) (e : Expr) (place : Place) (choices : List Choice) (go : Option ℤ → List Choice → Result → Type 0) → ((v : Option ℤ) (left : List Choice) → Found (go v left)) → Found (WithValue h e place choices go)
with_value h e place choices go each = onward (λ one is. told (λ r comes. (r, (one, is, comes))) (after_value place go each one)) (evaluate h e choices)

-- ---- calls
abbrev after_first : (more : List Choice → Arguments → Type 0) → ((rest : List Choice) → Found (more rest)) → (one : Evaluated) → Found (AfterFirst more one)
after_first more each (fault_of kind) = Some (no_arguments kind, refl)
after_first more each (value_of v rest) = told (λ others are. (put_before v others, (others, are, refl))) (each rest)

abbrev evaluate_all : (h : Here) (es : List Expr) (choices : List Choice) → Found (EvaluateAll h es choices)
evaluate_all h [] choices = Some (arguments [] choices, refl)
evaluate_all h (e ∷ es) choices =
    onward (λ one is. told (λ r comes. (r, (one, is, comes))) (after_first (λ rest others. EvaluateAll h es rest others) (λ rest. evaluate_all h es rest) one)) (evaluate h e choices)

abbrev after_arguments : (h : Here) (f : Option FunctionTree) (target : Target) (place : Place) (rest : Tasks) (all : Arguments) → Found (AfterArguments h f target place rest all)
after_arguments h f target place rest (no_arguments kind) = Some (last (fault kind place), refl)
after_arguments h None target place rest (arguments vs choices) = None
after_arguments h (Some f) target place rest (arguments vs choices) = Some (begun h f target place rest choices (all_there vs), refl)

abbrev passes : (h : Here) (c : CallTree) (target : Target) (place : Place) (rest : Tasks) (choices : List Choice) → Found (Passes h c target place rest choices)
passes h c target place rest choices =
    onward (λ all are. told (λ r comes. (r, (all, are, comes))) (after_arguments h (called_function h.tables c.function.text) target place rest all)) (evaluate_all h c.arguments choices)

-- ---- statements
abbrev assigns : (h : Here) (vs : List Variable) (l : Left) (right : Right) (place : Place) (rest : Tasks) (choices : List Choice) → Found (Assigns h vs l right place rest choices)
assigns h vs l (expression e) place rest choices = with_value h e place choices _ (λ v left. Some (after rest place left (assigned (where_is h.tables vs h.values h.heap) l v), refl))
assigns h vs l (result_of c) place rest choices = passes h c (stored vs l place) place rest choices
assigns h vs l (allocation m) place rest choices = None

abbrev performs : (h : Here) (x : SimpleTree) (place : Place) (rest : Tasks) (choices : List Choice) → Found (Performs h x place rest choices)
performs h (assign l right) place rest choices = assigns h h.variables l right place rest choices
performs h (add l e) place rest choices = with_value h e place choices _ (λ v left. Some (after rest place left (combined (λ a b. a +ℤ b) h l v), refl))
performs h (subtract l e) place rest choices = with_value h e place choices _ (λ v left. Some (after rest place left (combined (λ a b. a -ℤ b) h l v), refl))
performs h (increment l) place rest choices = Some (after rest place choices (combined (λ a b. a +ℤ b) h l (Some (pos 1))), refl)
performs h (decrement l) place rest choices = Some (after rest place choices (combined (λ a b. a -ℤ b) h l (Some (pos 1))), refl)
performs h (increment_first p l) place rest choices = Some (after rest place choices (combined (λ a b. a +ℤ b) h l (Some (pos 1))), refl)
performs h (decrement_first p l) place rest choices = Some (after rest place choices (combined (λ a b. a -ℤ b) h l (Some (pos 1))), refl)
performs h (call c) place rest choices = passes h c nowhere place rest choices

abbrev declares : (h : Here) (x : Variable) (right : Option Right) (place : Place) (rest : Tasks) (choices : List Choice) → Found (Declares h x right place rest choices)
declares h x None place rest choices = Some (_, refl)
declares h x (Some right) place rest choices = assigns h (x ∷ []) (record { name = record { text = x.name; place = x.place }; fields = [] }) right place rest choices

abbrev goes_back : (h : Here) (right : Option Right) (rest : Tasks) (place : Place) (choices : List Choice) → Found (Returns h right rest place choices)
goes_back h None rest place choices = Some (gone_back h.heap rest None choices, refl)
goes_back h (Some (expression e)) rest place choices = with_value h e place choices _ (λ v left. Some (returned_value h.heap rest place left v, refl))
goes_back h (Some (result_of c)) rest place choices = passes h c (returned place) place rest choices
goes_back h (Some (allocation m)) rest place choices = None

abbrev tests : (h : Here) (c : Cond) (a b : Branch) (choices : List Choice) → Found (Tests h c a b choices)
tests h (plain e) a b choices = with_value h e (first_place e) choices _ (λ v left. Some (compared h Comparison.Unequal a b (first_place e) v (Some (pos 0)) left, refl))
tests h (compare c x y) a b choices =
    with_value h x (first_place x) choices _ (λ v left. with_value h y (first_place x) left _ (λ w more. Some (compared h c a b (first_place x) v w more, refl)))
tests h (negation p c) a b choices = None
tests h (enclosed p c) a b choices = None
tests h (both c d) a b choices = None
tests h (either c d) a b choices = None

abbrev executes : (defs : List Def) (h : Here) (a : Stmt) (rest : Tasks) (choices : List Choice) → Found (Executes defs h a rest choices)
executes defs h (simple x) rest choices = performs h x (simple_place x) rest choices
executes defs h (returns p right) rest choices = goes_back h right rest p choices
executes defs h (free p e) rest choices = None
executes defs h (assume_shape p predicate x args) rest choices = None
executes defs h (assert_shape p predicate a args) rest choices = None
executes defs h (assert_empty p) rest choices = None
executes defs h (declaration d) rest choices = None
executes defs h (block p ss) rest choices = None
executes defs h (empty p) rest choices = None
executes defs h (assert p c) rest choices = None
executes defs h (assume p c) rest choices = None
executes defs h (if_only p c a) rest choices = None
executes defs h (if_else p c a b) rest choices = None
executes defs h (while_loop p c a) rest choices = None
executes defs h (do_loop p a c) rest choices = None
executes defs h (for_loop head a) rest choices = None
executes defs h (break_loop p) rest choices = None
executes defs h (continue_loop p) rest choices = None

-- ---- steps
abbrev does : (p : Program) (values : Values) (heap : Heap) (tasks : Tasks) (choices : List Choice) → Found (Does p values heap tasks choices)
does p values heap done choices = Some (_, refl)
does p values heap (task (perform s a) rest) choices = executes p.defs (where_is p.tables (visible s) values heap) a rest choices
does p values heap (task (declare_all s place base []) rest) choices = None
does p values heap (task (declare_all s place base (item ∷ items)) rest) choices =
    declares (where_is p.tables (visible (declare s (variable_of p.tables base item.declarator))) values heap) (variable_of p.tables base item.declarator) item.value place
    (task (declare_all (declare s (variable_of p.tables base item.declarator)) place base items) rest) choices
does p values heap (task (finish_turn vs x) rest) choices = performs (where_is p.tables vs values heap) x (simple_place x) rest choices
does p values heap (task (again s a) rest) choices = None
does p values heap (task (test vs c a b) rest) choices = tests (where_is p.tables vs values heap) c a b choices
does p values heap (task (always go) rest) choices = Some (_, refl)
does p values heap (task (end_block vs) rest) choices = None
does p values heap (task (end_loop vs) rest) choices = None
does p values heap (task end_turn rest) choices = None
does p values heap (task (end_call saved target) rest) choices = None
does p values heap (task (take_result target v) rest) choices = Some (taken (where_is p.tables [] values heap) target v rest choices, refl)

-- the tasks at which the next step is, within so many moves
abbrev arrive : ℕ → (t : Tables) (values : Values) (tasks : Tasks) (o : Option (Values × Tasks)) → moved t values tasks ≡ o → Option ((later : Values) × (ready : Tasks) × Arrives t values tasks later ready)
arrive n t values tasks None e = Some (values, tasks, here e)
arrive zero t values tasks (Some onward) e = None
arrive (suc n) t values tasks (Some onward) e = option_map (λ a. (a.0, a.1, there e a.2)) (arrive n t onward.0 onward.1 (moved t onward.0 onward.1) refl)

abbrev step : (p : Program) (c : Config) (choices : List Choice) → Found (Step p c choices)
step p c choices = stepped (arrive 20 p.tables c.values c.tasks (moved p.tables c.values c.tasks) refl)
  where
    stepped : Option ((values : Values) × (tasks : Tasks) × Arrives p.tables c.values c.tasks values tasks) → Found (Step p c choices)
    stepped None = None
    stepped (Some a) = told (λ r does_so. (r, (a.0, a.1, a.2, does_so))) (does p a.0 c.heap a.1 choices)

-- what a run comes to after a step
abbrev behind : (n : ℕ) (p : Program) (c : Config) (choices : List Choice) (r : Result) → Step p c choices r → ((d : Config) (rest : List Choice) → Found (Reaches (Step p) n d rest)) → Found (Reaches (Step p) (suc n) c choices)
behind n p c choices (last f) is more = Some (f, inl is)
behind n p c choices (next d rest) is more = told (λ f comes. (f, inr (d, rest, is, comes))) (more d rest)

-- what a run comes to within so many steps
abbrev run : (n : ℕ) (p : Program) (c : Config) (choices : List Choice) → Found (Reaches (Step p) n c choices)
run zero p c choices = None
run (suc n) p c choices = onward (λ r is. behind n p c choices r is (λ d rest. run n p d rest)) (step p c choices)

reached : {P : Final → Type 0} (o : Found P) (f : Final) → option_map (λ x. x.0) o ≡ Some f → P f
reached None f e = cc
reached {P = P} (Some x) f e = (let same : x.0 ≡ f = cc in subst P same x.1)

pub runs : (functions : List FunctionTree) (ss : List Stmt) (n : ℕ) (f : Final)
    → option_map (λ x. x.0) (run n (program_of (with_functions functions ss) []) (start (program_of (with_functions functions ss) []) (main_of ss)) []) ≡ Some f → RunsTo functions ss n f
runs functions ss n f e = reached (run n (program_of (with_functions functions ss) []) (start (program_of (with_functions functions ss) []) (main_of ss)) []) f e
