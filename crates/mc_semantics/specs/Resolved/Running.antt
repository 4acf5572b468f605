-- What a run of a program and a run of the resolved program have in common.
use Rattle.std.specs.Prelude.{◌≡◌, ◌<◌, ◌↔◌, ℕ, ℤ, List, [], ◌∷◌, Option, Some, None, length, map, option_map, slice_get}
use Rattle.mc_base.specs.declared.text.place.Place.{Place}
use Rattle.mc_flow.specs.Runs.{Final, next, last, Reaches}
use Rattle.mc_flow.specs.Heap.Choices.{Choice}
use Rattle.mc_flow.specs.Heap.Heap.{Heap}
use Rattle.mc_flow.specs.declared.defs.rules.Def.{Def}
use Rattle.mc_c_syntax.specs.declared.ast.trees.Base.{Base}
use Rattle.mc_c_syntax.specs.declared.ast.trees.Name.{Name}
use Rattle.mc_c_syntax.specs.Ast.Trees as tree
use Rattle.mc_c_types.specs.Tables.{Tables, Variable, variable_of as declared_variable}
use Rattle.mc_c_types.specs.Scopes.{Scope, visible, behind, behind_start}
use Rattle.mc_semantics.specs.Configs as named
use Rattle.mc_semantics.specs.Moves as named_moves
use Rattle.mc_semantics.specs.Steps as named_steps
use Rattle.mc_semantics.specs.Steps.{where_is}
use Rattle.mc_semantics.specs.Values as named_values
use Rattle.mc_semantics.specs.Values.{Evaluated}
use Rattle.mc_semantics.specs.Resolved.Programs.{Function, declaration, simple}
use Rattle.mc_semantics.specs.Resolved.Configs.{Values, held, Target, nowhere, stored, returned, Task, perform, again, test}
use Rattle.mc_semantics.specs.Resolved.Configs.{always, end_block, end_loop, end_turn, end_call, take_result, Tasks, done}
use Rattle.mc_semantics.specs.Resolved.Configs.{task, Branch, go_on, fails, stops, Config, Result}
use Rattle.mc_semantics.specs.Resolved.Steps.{Step, start}
use Rattle.mc_semantics.specs.Resolved.Moves.{Arrives}
use Rattle.mc_semantics.specs.Resolved.Values.{Evaluates}
use Rattle.mc_semantics.specs.Resolved.Resolving.{Naming, statement_variables, number_in, numbers_in, resolved_variable, resolved_expression, resolved_left, resolved_condition, resolved_simple, resolved_items, resolved_statement, resolved_program}

-- a variable is one of these, by its place
abbrev pub IsKnown : List Variable → Place → Type 0
IsKnown locals place = number_in locals place < length locals

abbrev pub AreKnown : List Variable → List Variable → Type 0
AreKnown locals [] = Unit {0}
AreKnown locals (v ∷ vs) = IsKnown locals v.place × AreKnown locals vs

-- each of these variables holds the same by its place and by its number
pub record Agree (locals : List Variable) (values : named.Values) (numbered : Values) : Type 0 where
  pub same_length : length numbered ≡ length locals
  pub same : (place : Place) → IsKnown locals place → held numbered (number_in locals place) ≡ values place

abbrev pub naming : Tables → List Def → List Variable → Naming
naming t defs locals = record { tables = t; defs = defs; locals = locals }

-- where a result goes, in a function with these variables
pub data SameTarget (t : Tables) (defs : List Def) (locals : List Variable) : named.Target → Target → Type 0 where
  same_nowhere : SameTarget t defs locals named.nowhere nowhere
  same_stored : {vs : List Variable} {l : tree.Left} {p : Place} → AreKnown locals vs
      → SameTarget t defs locals (named.stored vs l p) (stored (resolved_left (naming t defs locals) vs l) p)
  same_returned : {p : Place} → SameTarget t defs locals (named.returned p) (returned p)

mutual
  -- what is left to do in a function with these variables, and then in its callers
  pub data SameTasks (t : Tables) (defs : List Def) : List Variable → named.Tasks → Tasks → Type 0 where
    same_done : {locals : List Variable} → SameTasks t defs locals named.done done
    same_task : {locals : List Variable} {a : named.Task} {b : Task} {rest : named.Tasks} {more : Tasks} → SameTask t defs locals a b
        → SameTasks t defs locals rest more → SameTasks t defs locals (named.task a rest) (task b more)
    ends_call : {locals caller : List Variable} {saved : named.Values} {values : Values} {target : named.Target}
        {goal : Target} {rest : named.Tasks} {more : Tasks}
        → Agree caller saved values → SameTarget t defs caller target goal → SameTasks t defs caller rest more
        → SameTasks t defs locals (named.task (named.end_call saved target) rest) (task (end_call values goal) more)
    -- nothing is left after a test but its branches
    tests : {locals vs : List Variable} {c : tree.Cond} {a b : named.Branch} {x y : Branch} → AreKnown locals vs
        → SameBranch t defs locals a x → SameBranch t defs locals b y
        → SameTasks t defs locals (named.task (named.test vs c a b) named.done)
        (task (test (resolved_condition (naming t defs locals) vs c) x y) done)

  pub data SameTask (t : Tables) (defs : List Def) : List Variable → named.Task → Task → Type 0 where
    performs : {locals : List Variable} {s : Scope} {a : tree.Stmt} → AreKnown locals (visible s)
        → AreKnown locals (statement_variables t a)
        → SameTask t defs locals (named.perform s a) (perform (resolved_statement (naming t defs locals) s a))
    declares : {locals : List Variable} {s : Scope} {p : Place} {base : Base} {items : List tree.InitialTree} → AreKnown locals (visible s)
        → AreKnown locals (map (λ item. declared_variable t base item.declarator) items)
        → SameTask t defs locals (named.declare_all s p base items)
        (perform (declaration p (resolved_items (naming t defs locals) s base items)))
    finishes : {locals vs : List Variable} {x : tree.SimpleTree} → AreKnown locals vs
        → SameTask t defs locals (named.finish_turn vs x) (perform (simple (resolved_simple (naming t defs locals) vs x)))
    again_while : {locals : List Variable} {s : Scope} {p : Place} {c : tree.Cond} {a : tree.Stmt}
        → AreKnown locals (visible s) → AreKnown locals (statement_variables t a)
        → SameTask t defs locals (named.again s (tree.while_loop p c a))
        (again (Some (resolved_condition (naming t defs locals) (visible s) c)) (resolved_statement (naming t defs locals) s a) None)
    again_do : {locals : List Variable} {s : Scope} {p : Place} {c : tree.Cond} {a : tree.Stmt}
        → AreKnown locals (visible s) → AreKnown locals (statement_variables t a)
        → SameTask t defs locals (named.again s (tree.do_loop p a c))
        (again (Some (resolved_condition (naming t defs locals) (visible (behind t s a)) c))
        (resolved_statement (naming t defs locals) s a) None)
    again_for : {locals : List Variable} {s : Scope} {h : tree.Head} {a : tree.Stmt} → AreKnown locals (visible s)
        → AreKnown locals (statement_variables t (tree.for_loop h a))
        → SameTask t defs locals (named.again s (tree.for_loop h a))
        (again (option_map (resolved_condition (naming t defs locals) (visible (behind_start t s h.start))) h.condition)
        (resolved_statement (naming t defs locals) (behind_start t s h.start) a)
        (option_map (resolved_simple (naming t defs locals) (visible (behind_start t s h.start))) h.last))
    goes : {locals : List Variable} {go : named.Tasks} {on : Tasks} → SameTasks t defs locals go on
        → SameTask t defs locals (named.always go) (always on)
    ends_block : {locals vs : List Variable} → AreKnown locals vs
        → SameTask t defs locals (named.end_block vs) (end_block (numbers_in locals vs))
    ends_loop : {locals vs : List Variable} → AreKnown locals vs
        → SameTask t defs locals (named.end_loop vs) (end_loop (numbers_in locals vs))
    ends_turn : {locals : List Variable} → SameTask t defs locals named.end_turn end_turn
    takes : {locals : List Variable} {target : named.Target} {goal : Target} {v : Option ℤ} → SameTarget t defs locals target goal
        → SameTask t defs locals (named.take_result target v) (take_result goal v)

  pub data SameBranch (t : Tables) (defs : List Def) : List Variable → named.Branch → Branch → Type 0 where
    same_tasks : {locals : List Variable} {go : named.Tasks} {on : Tasks} → SameTasks t defs locals go on
        → SameBranch t defs locals (named.go_on go) (go_on on)
    same_fault : {locals : List Variable} {p : Place} → SameBranch t defs locals (named.fails p) (fails p)
    same_stop : {locals : List Variable} → SameBranch t defs locals named.stops stops

-- the same is left to do, variables hold the same, and the heap is the same
pub record Match (t : Tables) (defs : List Def) (c : named.Config) (d : Config) : Type 0 where
  pub locals : List Variable
  pub tasks : SameTasks t defs locals c.tasks d.tasks
  pub values : Agree locals c.values d.values
  pub heap : d.heap ≡ c.heap

-- both runs go on with the same choices, or both come to the same end
pub data SameResult (t : Tables) (defs : List Def) : named.Result → Result → Type 0 where
  both_go : {c : named.Config} {d : Config} {choices : List Choice} → Match t defs c d → SameResult t defs (next c choices) (next d choices)
  both_end : {f : Final} → SameResult t defs (last f) (last f)

-- where two programs are at these places, each name and each expression has the same value in both
pub record ValuesAlike (t : Tables) (defs : List Def) (locals vs : List Variable) (values : named.Values)
    (numbered : Values) (heap : Heap) : Type 0 where
  pub names : (name : Name) → held numbered (resolved_variable (naming t defs locals) vs name)
      ≡ named_values.held (where_is t vs values heap) name
  pub expressions : (e : tree.Expr) (choices : List Choice) (one : Evaluated)
      → named_values.Evaluates (where_is t vs values heap) e choices one
      ↔ Evaluates numbered heap (resolved_expression (naming t defs locals) vs e) choices one

-- both are at a step, with the same left to do
pub record AtStep (t : Tables) (defs : List Def) (values : named.Values) (ts : named.Tasks) (numbered : Values) (us : Tasks) : Type 0 where
  pub locals : List Variable
  pub agree : Agree locals values numbered
  pub same : SameTasks t defs locals ts us
  pub stays : named_moves.moved t values ts ≡ None

-- where the one comes to its next step, the other comes to the same step
pub record ArriveAlike (t : Tables) (defs : List Def) (c : named.Config) (d : Config) : Type 0 where
  pub forth : (values : named.Values) (ts : named.Tasks) → named_moves.Arrives t c.values c.tasks values ts
      → (numbered : Values) × (us : Tasks) × Arrives d.values d.tasks numbered us × AtStep t defs values ts numbered us
  pub back : (numbered : Values) (us : Tasks) → Arrives d.values d.tasks numbered us
      → (values : named.Values) × (ts : named.Tasks) × named_moves.Arrives t c.values c.tasks values ts
      × AtStep t defs values ts numbered us

abbrev pub program : Tables → List Def → named.Program
program t defs = record { tables = t; defs = defs }

-- where two configurations match, each step of the one has one of the other that comes to the same: so they have the same ends and
-- faults, and one waits for a choice where the other does
pub record StepAlike (t : Tables) (defs : List Def) (entry : List ℕ) (c : named.Config) (d : Config) (choices : List Choice) : Type 0 where
  pub forth : (r : named.Result) → named_steps.Step (program t defs) c choices r → (s : Result)
      × Step (resolved_program t defs entry) d choices s × SameResult t defs r s
  pub back : (s : Result) → Step (resolved_program t defs entry) d choices s → (r : named.Result)
      × named_steps.Step (program t defs) c choices r × SameResult t defs r s

-- the function of this name has a number, and its runs begin alike and come to the same ends in the same numbers of steps
pub record RunAlike (t : Tables) (defs : List Def) (entry : List ℕ) (f : tree.FunctionTree) : Type 0 where
  pub function : Function
  pub there : slice_get (resolved_program t defs entry).functions (resolved_program t defs entry).entry ≡ Some function
  pub begin : Match t defs (named_steps.start (program t defs) f) (start function)
  pub ends : (n : ℕ) (choices : List Choice) (final : Final)
      → Reaches (named_steps.Step (program t defs)) n (named_steps.start (program t defs) f) choices final
      ↔ Reaches (Step (resolved_program t defs entry)) n (start function) choices final
