-- What is known of the tasks of a well typed program: what is left to do has no faults, and loops are around what leaves them.
use Rattle.std.proofs.Common.{◌≡◌, List, [], Option, Some, Bool, true, false, refl}
use Rattle.mc_c_syntax.specs.Ast.Trees.{Stmt, declaration, block, empty, simple, free, assert, assume, assume_shape, assert_shape, assert_empty, if_only, if_else, while_loop, do_loop, for_loop, break_loop, continue_loop, returns, Stmts, no_more, then}
use Rattle.mc_c_types.specs.declared.types.VariableType.{VariableType}
use Rattle.mc_c_types.specs.Faults.{Context, items_faults, simple_faults, statement_faults, statements_faults}
use Rattle.mc_c_types.specs.Scopes.{Scope, behind}
use Rattle.mc_c_types.specs.Tables.{Tables, Variable}
use Rattle.mc_semantics.specs.Configs.{Values, without, perform, declare_all, finish_turn, again, test, always, end_block, end_loop, end_turn, end_call, take_result, Task, Tasks, done, task, Branch, go_on, fails, stops}
use Rattle.mc_semantics.specs.Moves.{in_a_row, behind_loop, at_turn}
use Rattle.mc_semantics.proofs.WaitingLemmas.Faultless.{none_left, none_right}

-- a loop is around, and so is one of its turns
abbrev pub HasLoop : Tasks → Type 0
HasLoop done = ⊥
HasLoop (task (end_loop vs) rest) = Unit {0}
HasLoop (task (end_call saved target) rest) = ⊥
HasLoop (task (perform s a) rest) = HasLoop rest
HasLoop (task (declare_all s p base items) rest) = HasLoop rest
HasLoop (task (finish_turn vs x) rest) = HasLoop rest
HasLoop (task (again s a) rest) = HasLoop rest
HasLoop (task (test vs c a b) rest) = HasLoop rest
HasLoop (task (always go) rest) = HasLoop rest
HasLoop (task (end_block vs) rest) = HasLoop rest
HasLoop (task end_turn rest) = HasLoop rest
HasLoop (task (take_result target v) rest) = HasLoop rest

abbrev pub HasTurn : Tasks → Type 0
HasTurn done = ⊥
HasTurn (task end_turn rest) = Unit {0}
HasTurn (task (end_call saved target) rest) = ⊥
HasTurn (task (perform s a) rest) = HasTurn rest
HasTurn (task (declare_all s p base items) rest) = HasTurn rest
HasTurn (task (finish_turn vs x) rest) = HasTurn rest
HasTurn (task (again s a) rest) = HasTurn rest
HasTurn (task (test vs c a b) rest) = HasTurn rest
HasTurn (task (always go) rest) = HasTurn rest
HasTurn (task (end_block vs) rest) = HasTurn rest
HasTurn (task (end_loop vs) rest) = HasTurn rest
HasTurn (task (take_result target v) rest) = HasTurn rest

pub leaves_loop : (v : Values) (ts : Tasks) → HasLoop ts → (p : Values × Tasks) × (behind_loop v ts ≡ Some p)
leaves_loop v done h = absurd h
leaves_loop v (task (end_loop vs) rest) h = (_, refl)
leaves_loop v (task (end_call saved target) rest) h = absurd h
leaves_loop v (task (perform s a) rest) h = leaves_loop v rest h
leaves_loop v (task (declare_all s p base items) rest) h = leaves_loop v rest h
leaves_loop v (task (finish_turn vs x) rest) h = leaves_loop v rest h
leaves_loop v (task (again s a) rest) h = leaves_loop v rest h
leaves_loop v (task (test vs c a b) rest) h = leaves_loop v rest h
leaves_loop v (task (always go) rest) h = leaves_loop v rest h
leaves_loop v (task (end_block vs) rest) h = leaves_loop (without vs v) rest h
leaves_loop v (task end_turn rest) h = leaves_loop v rest h
leaves_loop v (task (take_result target w) rest) h = leaves_loop v rest h

pub leaves_turn : (v : Values) (ts : Tasks) → HasTurn ts → (p : Values × Tasks) × (at_turn v ts ≡ Some p)
leaves_turn v done h = absurd h
leaves_turn v (task end_turn rest) h = (_, refl)
leaves_turn v (task (end_call saved target) rest) h = absurd h
leaves_turn v (task (perform s a) rest) h = leaves_turn v rest h
leaves_turn v (task (declare_all s p base items) rest) h = leaves_turn v rest h
leaves_turn v (task (finish_turn vs x) rest) h = leaves_turn v rest h
leaves_turn v (task (again s a) rest) h = leaves_turn v rest h
leaves_turn v (task (test vs c a b) rest) h = leaves_turn v rest h
leaves_turn v (task (always go) rest) h = leaves_turn v rest h
leaves_turn v (task (end_block vs) rest) h = leaves_turn (without vs v) rest h
leaves_turn v (task (end_loop vs) rest) h = leaves_turn v rest h
leaves_turn v (task (take_result target w) rest) h = leaves_turn v rest h

-- statements that stand in a loop have one around
abbrev pub AreAround : Bool → Tasks → Type 0
AreAround true rest = HasLoop rest × HasTurn rest
AreAround false rest = Unit {0}

abbrev pub in_context : Tables → Option VariableType → Bool → Context
in_context t result b = record { tables = t; result = result; in_loop = b }

abbrev pub IsLoop : Stmt → Type 0
IsLoop (while_loop p c a) = Unit {0}
IsLoop (do_loop p a c) = Unit {0}
IsLoop (for_loop h a) = Unit {0}
IsLoop (declaration d) = ⊥
IsLoop (block p ss) = ⊥
IsLoop (empty p) = ⊥
IsLoop (simple x) = ⊥
IsLoop (free p e) = ⊥
IsLoop (assert p c) = ⊥
IsLoop (assume p c) = ⊥
IsLoop (assume_shape p predicate x args) = ⊥
IsLoop (assert_shape p predicate a args) = ⊥
IsLoop (assert_empty p) = ⊥
IsLoop (if_only p c a) = ⊥
IsLoop (if_else p c a b) = ⊥
IsLoop (break_loop p) = ⊥
IsLoop (continue_loop p) = ⊥
IsLoop (returns p r) = ⊥

-- a statement that is to be performed before these tasks
abbrev pub IsFaultless : Tables → Scope → Stmt → Tasks → Type 0
IsFaultless t s a rest = (result : Option VariableType) × (b : Bool) × (statement_faults (in_context t result b) s a ≡ []) × AreAround b rest

abbrev mutual
  pub Fine : Tables → Tasks → Type 0
  Fine t done = Unit {0}
  Fine t (task x rest) = FineTask t x rest × Fine t rest

  pub FineTask : Tables → Task → Tasks → Type 0
  FineTask t (perform s a) rest = IsFaultless t s a rest
  FineTask t (declare_all s p base items) rest = items_faults t base s items ≡ []
  FineTask t (finish_turn vs x) rest = simple_faults t vs x ≡ []
  FineTask t (again s a) rest = IsLoop a × HasLoop rest × ((result : Option VariableType) × (b : Bool) × (statement_faults (in_context t result b) s a ≡ []))
  FineTask t (test vs c a b) rest = FineBranch t a × FineBranch t b
  FineTask t (always go) rest = Fine t go
  FineTask t (end_block vs) rest = Unit {0}
  FineTask t (end_loop vs) rest = Unit {0}
  FineTask t end_turn rest = Unit {0}
  FineTask t (end_call saved target) rest = Unit {0}
  FineTask t (take_result target v) rest = Unit {0}

  pub FineBranch : Tables → Branch → Type 0
  FineBranch t (go_on tasks) = Fine t tasks
  FineBranch t (fails place) = Unit {0}
  FineBranch t stops = Unit {0}

row_loop : (t : Tables) (s : Scope) (ss : Stmts) (rest : Tasks) → HasLoop rest → HasLoop (in_a_row t s ss rest)
row_loop t s no_more rest h = h
row_loop t s (then a more) rest h = row_loop t (behind t s a) more rest h

row_turn : (t : Tables) (s : Scope) (ss : Stmts) (rest : Tasks) → HasTurn rest → HasTurn (in_a_row t s ss rest)
row_turn t s no_more rest h = h
row_turn t s (then a more) rest h = row_turn t (behind t s a) more rest h

row_around : (b : Bool) (t : Tables) (s : Scope) (ss : Stmts) (rest : Tasks) → AreAround b rest → AreAround b (in_a_row t s ss rest)
row_around true t s ss rest h = (row_loop t s ss rest h.0, row_turn t s ss rest h.1)
row_around false t s ss rest h = tt

pub block_around : (b : Bool) (vs : List Variable) (rest : Tasks) → AreAround b rest → AreAround b (task (end_block vs) rest)
block_around true vs rest h = h
block_around false vs rest h = tt

pub statement_around : (b : Bool) (s : Scope) (a : Stmt) (rest : Tasks) → AreAround b rest → AreAround b (task (perform s a) rest)
statement_around true s a rest h = h
statement_around false s a rest h = tt

pub fine_row : (t : Tables) (result : Option VariableType) (b : Bool) (s : Scope) (ss : Stmts) (rest : Tasks) → statements_faults (in_context t result b) s ss ≡ [] → AreAround b rest → Fine t rest → Fine t (in_a_row t s ss rest)
fine_row t result b s no_more rest e around fine = fine
fine_row t result b s (then a more) rest e around fine =
    ((result, b, none_left _ _ e, row_around b t (behind t s a) more rest around), fine_row t result b (behind t s a) more rest (none_right _ _ e) around fine)
