-- What the steps of a resolved program ask for.
use Rattle.std.specs.Prelude.{◌≡◌, ◌⊎◌, ℤ, List, [], ◌∷◌, Option, Some, None, map}
use Rattle.mc_flow.specs.Heap.Choices.{Choice}
use Rattle.mc_flow.specs.Heap.Heap.{Heap}
use Rattle.mc_flow.specs.declared.defs.rules.Def.{Def}
use Rattle.mc_flow.specs.Values.{all_there}
use Rattle.mc_semantics.specs.Waiting.Requests.{Request, an_input, an_address, a_shape}
use Rattle.mc_semantics.specs.Resolved.Programs.{Expr, Cond, plain, compare, negation, both, either, Right, expression}
use Rattle.mc_semantics.specs.Resolved.Programs.{result_of, allocation, Action, assign, add, subtract, call, Initial}
use Rattle.mc_semantics.specs.Resolved.Programs.{Stmt, declaration, block, empty, simple, free, assert, assume, assume_shape}
use Rattle.mc_semantics.specs.Resolved.Programs.{assert_shape, assert_empty, if_only, if_else, while_loop, do_loop, for_loop}
use Rattle.mc_semantics.specs.Resolved.Programs.{break_loop, continue_loop, returns, Program}
use Rattle.mc_semantics.specs.Resolved.Configs.{Values, perform, again, test, always, end_block, end_loop, end_turn, end_call}
use Rattle.mc_semantics.specs.Resolved.Configs.{take_result, Tasks, done, task, Config}
use Rattle.mc_semantics.specs.Resolved.Moves.{Arrives}
use Rattle.mc_semantics.specs.Resolved.Steps.{Here, argument_value}
use Rattle.mc_run_values.specs.Values.Asking.{ArgumentsAsk, AsksBehind, ValueAsks}

-- an expression asks for an input
abbrev pub AsksInput : Here → Expr → List Choice → Request → List Choice → Type 0
AsksInput h e choices request left = (request ≡ an_input) × ValueAsks h.values h.heap e choices left

abbrev pub RightAsks : Values → Heap → Right → List Choice → Request → List Choice → Type 0
RightAsks values heap (expression e) choices request left = (request ≡ an_input) × ValueAsks values heap e choices left
RightAsks values heap (result_of c) choices request left =
    (request ≡ an_input) × ArgumentsAsk values heap c.arguments choices left
RightAsks values heap (allocation shape fields) choices request left =
    (request ≡ an_address heap) × (left ≡ choices)

abbrev pub MaybeRightAsks : Values → Heap → Option Right → List Choice → Request → List Choice → Type 0
MaybeRightAsks values heap None choices request left = ⊥
MaybeRightAsks values heap (Some right) choices request left = RightAsks values heap right choices request left

abbrev pub ActionAsks : Values → Heap → Action → List Choice → Request → List Choice → Type 0
ActionAsks values heap (assign l right) choices request left = RightAsks values heap right choices request left
ActionAsks values heap (add l e) choices request left = (request ≡ an_input) × ValueAsks values heap e choices left
ActionAsks values heap (subtract l e) choices request left = (request ≡ an_input) × ValueAsks values heap e choices left
ActionAsks values heap (call c) choices request left =
    (request ≡ an_input) × ArgumentsAsk values heap c.arguments choices left

-- the first declarator of several
abbrev pub DeclaratorAsks : Values → Heap → List Initial → List Choice → Request → List Choice → Type 0
DeclaratorAsks values heap [] choices request left = ⊥
DeclaratorAsks values heap (x ∷ xs) choices request left = MaybeRightAsks values heap x.value choices request left

-- the arguments of a shape are taken before it is asked for
abbrev pub StatementAsks : List Def → Values → Heap → Stmt → List Choice → Request → List Choice → Type 0
StatementAsks defs values heap (declaration p items) choices request left =
    DeclaratorAsks values heap items choices request left
StatementAsks defs values heap (simple x) choices request left = ActionAsks values heap x.action choices request left
StatementAsks defs values heap (free p e) choices request left =
    (request ≡ an_input) × ValueAsks values heap e choices left
StatementAsks defs values heap (assume_shape p predicate x args) choices request left =
    (vs : List ℤ) × (all_there (map (argument_value values) args) ≡ Some vs)
    × (request ≡ a_shape defs predicate vs heap) × (left ≡ choices)
StatementAsks defs values heap (returns p right) choices request left =
    MaybeRightAsks values heap right choices request left
StatementAsks defs values heap (assert_shape p predicate a args) choices request left = ⊥
StatementAsks defs values heap (assert_empty p) choices request left = ⊥
StatementAsks defs values heap (block xs ss) choices request left = ⊥
StatementAsks defs values heap empty choices request left = ⊥
StatementAsks defs values heap (assert p c) choices request left = ⊥
StatementAsks defs values heap (assume p c) choices request left = ⊥
StatementAsks defs values heap (if_only p c a) choices request left = ⊥
StatementAsks defs values heap (if_else p c a b) choices request left = ⊥
StatementAsks defs values heap (while_loop p c a) choices request left = ⊥
StatementAsks defs values heap (do_loop p a c) choices request left = ⊥
StatementAsks defs values heap (for_loop h a) choices request left = ⊥
StatementAsks defs values heap (break_loop p) choices request left = ⊥
StatementAsks defs values heap (continue_loop p) choices request left = ⊥

-- an atomic condition; the others are taken apart before
abbrev pub ConditionAsks : Values → Heap → Cond → List Choice → Request → List Choice → Type 0
ConditionAsks values heap (plain p e) choices request left =
    (request ≡ an_input) × ValueAsks values heap e choices left
ConditionAsks values heap (compare p c x y) choices request left =
    (request ≡ an_input)
    × (ValueAsks values heap x choices left
    ⊎ AsksBehind values heap x choices (λ rest. ValueAsks values heap y rest left))
ConditionAsks values heap (negation c) choices request left = ⊥
ConditionAsks values heap (both c d) choices request left = ⊥
ConditionAsks values heap (either c d) choices request left = ⊥

-- the first task asks for this, when these choices are left
abbrev pub TaskAsks : List Def → Values → Heap → Tasks → List Choice → Request → List Choice → Type 0
TaskAsks defs values heap done choices request left = ⊥
TaskAsks defs values heap (task (perform a) rest) choices request left =
    StatementAsks defs values heap a choices request left
TaskAsks defs values heap (task (test c a b) rest) choices request left =
    ConditionAsks values heap c choices request left
TaskAsks defs values heap (task (again c a ends) rest) choices request left = ⊥
TaskAsks defs values heap (task (always go) rest) choices request left = ⊥
TaskAsks defs values heap (task (end_block xs) rest) choices request left = ⊥
TaskAsks defs values heap (task (end_loop xs) rest) choices request left = ⊥
TaskAsks defs values heap (task end_turn rest) choices request left = ⊥
TaskAsks defs values heap (task (end_call saved target) rest) choices request left = ⊥
TaskAsks defs values heap (task (take_result target v) rest) choices request left = ⊥

-- the step of the configuration asks for this, when these choices are left
abbrev pub Asks : Program → Config → List Choice → Request → List Choice → Type 0
Asks p c choices request left =
    (values : Values) × (tasks : Tasks) × Arrives c.values c.tasks values tasks
    × TaskAsks p.defs values c.heap tasks choices request left
