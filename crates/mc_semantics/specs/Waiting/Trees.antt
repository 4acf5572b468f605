-- What the steps of a program ask for.
use Rattle.std.specs.Prelude.{◌≡◌, ◌⊎◌, ℤ, List, [], ◌∷◌, Option, Some, None, map}
use Rattle.mc_flow.specs.Heap.Choices.{Choice}
use Rattle.mc_flow.specs.Heap.Heap.{Heap}
use Rattle.mc_flow.specs.declared.defs.rules.Def.{Def}
use Rattle.mc_flow.specs.Values.{all_there}
use Rattle.mc_c_syntax.specs.declared.ast.trees.Base.{Base}
use Rattle.mc_c_syntax.specs.Ast.Trees.{Expr, number, null, input, value, minus, parens, times, plus, difference, Cond}
use Rattle.mc_c_syntax.specs.Ast.Trees.{plain, compare, negation, enclosed, both, either, Right, expression, result_of}
use Rattle.mc_c_syntax.specs.Ast.Trees.{allocation, InitialTree, SimpleTree, assign, add, subtract, increment, decrement}
use Rattle.mc_c_syntax.specs.Ast.Trees.{increment_first, decrement_first, call, Stmt, declaration, block, empty, simple}
use Rattle.mc_c_syntax.specs.Ast.Trees.{free, assert, assume, assume_shape, assert_shape, assert_empty, if_only, if_else}
use Rattle.mc_c_syntax.specs.Ast.Trees.{while_loop, do_loop, for_loop, break_loop, continue_loop, returns}
use Rattle.mc_c_types.specs.Scopes.{Scope, visible, declare}
use Rattle.mc_c_types.specs.Tables.{Tables, variable_of}
use Rattle.mc_semantics.specs.Configs.{Program, Values, perform, declare_all, finish_turn, again, test, always, end_block, end_loop, end_turn, end_call, take_result, Tasks, done, task, Config}
use Rattle.mc_semantics.specs.Moves.{Arrives}
use Rattle.mc_semantics.specs.Steps.{where_is, argument_value, predicate_of}
use Rattle.mc_semantics.specs.Values.{Here, value_of, Evaluates}
use Rattle.mc_semantics.specs.Waiting.Requests.{Request, an_input, an_address, a_shape}

-- ---- expressions
-- the expression has a value, and then this asks with the choices that are left
abbrev pub AsksBehind : Here → Expr → List Choice → (List Choice → Type 0) → Type 0
AsksBehind h e choices Asks =
    (v : Option ℤ) × (rest : List Choice) × Evaluates h e choices (value_of v rest) × Asks rest

-- the expression comes to an `input()` when these choices are left
abbrev pub ValueAsks : Here → Expr → List Choice → List Choice → Type 0
ValueAsks h (number n p) choices left = ⊥
ValueAsks h (null p) choices left = ⊥
ValueAsks h (input p) choices left = left ≡ choices
ValueAsks h (value l) choices left = ⊥
ValueAsks h (minus p e) choices left = ValueAsks h e choices left
ValueAsks h (parens p e) choices left = ValueAsks h e choices left
ValueAsks h (times a b) choices left =
    ValueAsks h a choices left ⊎ AsksBehind h a choices (λ rest. ValueAsks h b rest left)
ValueAsks h (plus a b) choices left =
    ValueAsks h a choices left ⊎ AsksBehind h a choices (λ rest. ValueAsks h b rest left)
ValueAsks h (difference a b) choices left =
    ValueAsks h a choices left ⊎ AsksBehind h a choices (λ rest. ValueAsks h b rest left)

-- the same for arguments one after the other
abbrev pub ArgumentsAsk : Here → List Expr → List Choice → List Choice → Type 0
ArgumentsAsk h [] choices left = ⊥
ArgumentsAsk h (e ∷ es) choices left =
    ValueAsks h e choices left ⊎ AsksBehind h e choices (λ rest. ArgumentsAsk h es rest left)

-- ---- statements
abbrev pub RightAsks : Here → Right → List Choice → Request → List Choice → Type 0
RightAsks h (expression e) choices request left = (request ≡ an_input) × ValueAsks h e choices left
RightAsks h (result_of c) choices request left = (request ≡ an_input) × ArgumentsAsk h c.arguments choices left
RightAsks h (allocation m) choices request left = (request ≡ an_address h.heap) × (left ≡ choices)

abbrev pub MaybeRightAsks : Here → Option Right → List Choice → Request → List Choice → Type 0
MaybeRightAsks h None choices request left = ⊥
MaybeRightAsks h (Some right) choices request left = RightAsks h right choices request left

abbrev pub SimpleAsks : Here → SimpleTree → List Choice → Request → List Choice → Type 0
SimpleAsks h (assign l right) choices request left = RightAsks h right choices request left
SimpleAsks h (add l e) choices request left = (request ≡ an_input) × ValueAsks h e choices left
SimpleAsks h (subtract l e) choices request left = (request ≡ an_input) × ValueAsks h e choices left
SimpleAsks h (increment l) choices request left = ⊥
SimpleAsks h (decrement l) choices request left = ⊥
SimpleAsks h (increment_first p l) choices request left = ⊥
SimpleAsks h (decrement_first p l) choices request left = ⊥
SimpleAsks h (call c) choices request left = (request ≡ an_input) × ArgumentsAsk h c.arguments choices left

-- the arguments of a shape are taken before it is asked for
abbrev pub StatementAsks : List Def → Here → Stmt → List Choice → Request → List Choice → Type 0
StatementAsks defs h (simple x) choices request left = SimpleAsks h x choices request left
StatementAsks defs h (free p e) choices request left = (request ≡ an_input) × ValueAsks h e choices left
StatementAsks defs h (assume_shape p predicate x args) choices request left =
    (vs : List ℤ) × (all_there (map (argument_value h) args) ≡ Some vs)
    × (request ≡ a_shape defs (predicate_of defs predicate) vs h.heap) × (left ≡ choices)
StatementAsks defs h (returns p right) choices request left = MaybeRightAsks h right choices request left
StatementAsks defs h (assert_shape p predicate a args) choices request left = ⊥
StatementAsks defs h (assert_empty p) choices request left = ⊥
StatementAsks defs h (declaration d) choices request left = ⊥
StatementAsks defs h (block p ss) choices request left = ⊥
StatementAsks defs h (empty p) choices request left = ⊥
StatementAsks defs h (assert p c) choices request left = ⊥
StatementAsks defs h (assume p c) choices request left = ⊥
StatementAsks defs h (if_only p c a) choices request left = ⊥
StatementAsks defs h (if_else p c a b) choices request left = ⊥
StatementAsks defs h (while_loop p c a) choices request left = ⊥
StatementAsks defs h (do_loop p a c) choices request left = ⊥
StatementAsks defs h (for_loop head a) choices request left = ⊥
StatementAsks defs h (break_loop p) choices request left = ⊥
StatementAsks defs h (continue_loop p) choices request left = ⊥

-- ---- conditions
-- an atomic condition; the others are taken apart before
abbrev pub ConditionAsks : Here → Cond → List Choice → Request → List Choice → Type 0
ConditionAsks h (plain e) choices request left = (request ≡ an_input) × ValueAsks h e choices left
ConditionAsks h (compare c x y) choices request left =
    (request ≡ an_input) × (ValueAsks h x choices left ⊎ AsksBehind h x choices (λ rest. ValueAsks h y rest left))
ConditionAsks h (negation p c) choices request left = ⊥
ConditionAsks h (enclosed p c) choices request left = ⊥
ConditionAsks h (both c d) choices request left = ⊥
ConditionAsks h (either c d) choices request left = ⊥

-- ---- steps
abbrev pub DeclaratorAsks : Tables → Scope → Base → List InitialTree → Values → Heap → List Choice → Request → List Choice → Type 0
DeclaratorAsks t s base [] values heap choices request left = ⊥
DeclaratorAsks t s base (item ∷ items) values heap choices request left =
    MaybeRightAsks
    (where_is t (visible (declare s (variable_of t base item.declarator))) values heap)
    item.value choices request left

-- the first task asks for this, when these choices are left
abbrev pub TaskAsks : Program → Values → Heap → Tasks → List Choice → Request → List Choice → Type 0
TaskAsks p values heap done choices request left = ⊥
TaskAsks p values heap (task (perform s a) rest) choices request left =
    StatementAsks p.defs (where_is p.tables (visible s) values heap) a choices request left
TaskAsks p values heap (task (declare_all s place base items) rest) choices request left =
    DeclaratorAsks p.tables s base items values heap choices request left
TaskAsks p values heap (task (finish_turn vs x) rest) choices request left =
    SimpleAsks (where_is p.tables vs values heap) x choices request left
TaskAsks p values heap (task (again s a) rest) choices request left = ⊥
TaskAsks p values heap (task (test vs c a b) rest) choices request left =
    ConditionAsks (where_is p.tables vs values heap) c choices request left
TaskAsks p values heap (task (always go) rest) choices request left = ⊥
TaskAsks p values heap (task (end_block vs) rest) choices request left = ⊥
TaskAsks p values heap (task (end_loop vs) rest) choices request left = ⊥
TaskAsks p values heap (task end_turn rest) choices request left = ⊥
TaskAsks p values heap (task (end_call saved target) rest) choices request left = ⊥
TaskAsks p values heap (task (take_result target v) rest) choices request left = ⊥

-- the step of the configuration asks for this, when these choices are left
abbrev pub Asks : Program → Config → List Choice → Request → List Choice → Type 0
Asks p c choices request left =
    (values : Values) × (tasks : Tasks) × Arrives p.tables c.values c.tasks values tasks
    × TaskAsks p values c.heap tasks choices request left
