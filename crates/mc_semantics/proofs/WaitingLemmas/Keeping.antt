-- What is known of the tasks of a well typed program stays so.
use Rattle.std.proofs.Common.{◌≡◌, ◌++◌, zero, suc, ℤ, pos, List, [], ◌∷◌, Option, Some, None, Bool, true, false, refl, sym, subst, inl, inr}
use Rattle.std.specs.Prelude.{reverse}
use Rattle.std.specs.Option.{option_map_or}
use Rattle.mc_base.specs.declared.plain.FaultKind.{FaultKind}
use Rattle.mc_base.specs.declared.text.place.Place.{Place}
use Rattle.mc_flow.specs.Runs.{next, last}
use Rattle.mc_flow.specs.Heap.Adding.{with_blocks}
use Rattle.mc_flow.specs.Heap.Choices.{Choice, input as choose_input, malloc as choose_malloc, shape as choose_shape}
use Rattle.mc_flow.specs.Heap.Heap.{Heap}
use Rattle.mc_flow.specs.declared.defs.rules.Def.{Def}
use Rattle.mc_flow.specs.Values.{all_there}
use Rattle.mc_c_syntax.specs.declared.ast.trees.Comparison.{Comparison}
use Rattle.mc_c_syntax.specs.declared.ast.trees.Malloc.{Malloc}
use Rattle.mc_c_syntax.specs.declared.ast.trees.Name.{Name}
use Rattle.mc_c_syntax.specs.Ast.Trees.{Left, Expr, Cond, plain, compare, negation, enclosed, both, either, CallTree, Right, expression, result_of, allocation, InitialTree, SimpleTree, assign, add, subtract, increment, decrement, increment_first, decrement_first, call, Start, nothing, declares, performs, Head, Stmt, declaration, block, empty, simple, free, assert, assume, assume_shape, assert_shape, assert_empty, if_only, if_else, while_loop, do_loop, for_loop, break_loop, continue_loop, returns, stmts_of, BodyTree, FunctionTree}
use Rattle.mc_c_types.specs.declared.faults.Fault.{Fault}
use Rattle.mc_c_types.specs.declared.types.VariableType.{VariableType}
use Rattle.mc_c_types.specs.Faults.{body_faults, start_faults, maybe_condition_faults, maybe_simple_faults, condition_faults, item_faults, head_faults, statement_faults}
use Rattle.mc_c_types.specs.Scopes.{Scope, visible, declare, inside, behind, behind_start}
use Rattle.mc_c_types.specs.Tables.{Tables, Variable, variable_of, called_function, parameters_of, returned_type}
use Rattle.mc_semantics.specs.Configs.{Program, Values, without, Target, nowhere, stored, returned, perform, declare_all, finish_turn, again, test, always, end_block, end_loop, end_turn, end_call, take_result, Tasks, done, task, Branch, go_on, fails, stops, Config, Result}
use Rattle.mc_semantics.specs.Moves.{in_a_row, block_variables, started, finished, for_turn, tested, behind_loop, at_turn, given, entered, at_condition, taken_apart, declared_all, moved, Arrives, here, there}
use Rattle.mc_semantics.specs.Steps.{where_is, after, AfterValue, WithValue, returning, returned_value, Allocates, Arguments, no_arguments, arguments, body_of, begun, AfterArguments, Passes, Assigns, Performs, Declares, AddsShape, Assumes, Demands, Asserts, Returns, taken, led, decided, compares, compared, Tests, Executes, Does, Step, simple_place}
use Rattle.mc_semantics.specs.Values.{Here, Evaluated, fault_of, value_of, Changed, fault_in, changed, set_variable}
use Rattle.mc_semantics.proofs.WaitingLemmas.Faultless.{none_left, none_right, AreFaultless}
use Rattle.mc_semantics.proofs.WaitingLemmas.Fine.{HasLoop, AreAround, in_context, Fine, FineBranch, block_around, fine_row}

-- ---- before a step
abbrev pub FineThere : Tables → Option (Values × Tasks) → Type 0
FineThere t None = Unit {0}
FineThere t (Some p) = Fine t p.1

fine_loop : (t : Tables) (v : Values) (ts : Tasks) → Fine t ts → FineThere t (behind_loop v ts)
fine_loop t v done fine = tt
fine_loop t v (task (end_loop vs) rest) fine = fine.1
fine_loop t v (task (end_call saved target) rest) fine = tt
fine_loop t v (task (perform s a) rest) fine = fine_loop t v rest fine.1
fine_loop t v (task (declare_all s p base items) rest) fine = fine_loop t v rest fine.1
fine_loop t v (task (finish_turn vs x) rest) fine = fine_loop t v rest fine.1
fine_loop t v (task (again s a) rest) fine = fine_loop t v rest fine.1
fine_loop t v (task (test vs c a b) rest) fine = fine_loop t v rest fine.1
fine_loop t v (task (always go) rest) fine = fine_loop t v rest fine.1
fine_loop t v (task (end_block vs) rest) fine = fine_loop t (without vs v) rest fine.1
fine_loop t v (task end_turn rest) fine = fine_loop t v rest fine.1
fine_loop t v (task (take_result target w) rest) fine = fine_loop t v rest fine.1

fine_turn : (t : Tables) (v : Values) (ts : Tasks) → Fine t ts → FineThere t (at_turn v ts)
fine_turn t v done fine = tt
fine_turn t v (task end_turn rest) fine = fine.1
fine_turn t v (task (end_call saved target) rest) fine = tt
fine_turn t v (task (perform s a) rest) fine = fine_turn t v rest fine.1
fine_turn t v (task (declare_all s p base items) rest) fine = fine_turn t v rest fine.1
fine_turn t v (task (finish_turn vs x) rest) fine = fine_turn t v rest fine.1
fine_turn t v (task (again s a) rest) fine = fine_turn t v rest fine.1
fine_turn t v (task (test vs c a b) rest) fine = fine_turn t v rest fine.1
fine_turn t v (task (always go) rest) fine = fine_turn t v rest fine.1
fine_turn t v (task (end_block vs) rest) fine = fine_turn t (without vs v) rest fine.1
fine_turn t v (task (end_loop vs) rest) fine = fine_turn t v rest fine.1
fine_turn t v (task (take_result target w) rest) fine = fine_turn t v rest fine.1

fine_given : (t : Tables) (target : Target) (v : Option ℤ) (rest : Tasks) → Fine t rest → Fine t (given target v rest)
fine_given t nowhere v rest fine = fine
fine_given t (stored vs l p) v rest fine = (tt, fine)
fine_given t (returned p) v rest fine = (tt, fine)

fine_start : (t : Tables) (s : Scope) (h : Start) (rest : Tasks) → start_faults t s h ≡ [] → Fine t rest → Fine t (started s h rest)
fine_start t s nothing rest e fine = fine
fine_start t s (declares d) rest e fine = (e, fine)
fine_start t s (performs x) rest e fine = (e, fine)

fine_entered : (t : Tables) (v : Values) (s : Scope) (a : Stmt) (rest : Tasks) (result : Option VariableType) (b : Bool) → statement_faults (in_context t result b) s a ≡ [] → AreAround b rest → Fine t rest
    → FineThere t (entered t v s a rest)
fine_entered t v s (declaration d) rest result b e around fine = (e, fine)
fine_entered t v s (block p ss) rest result b e around fine =
    fine_row t result b (inside s) ss (task (end_block (block_variables t (inside s) ss)) rest) e (block_around b (block_variables t (inside s) ss) rest around) (tt, fine)
fine_entered t v s (empty p) rest result b e around fine = fine
fine_entered t v s (simple x) rest result b e around fine = tt
fine_entered t v s (free p x) rest result b e around fine = tt
fine_entered t v s (assert p c) rest result b e around fine = ((fine, tt), tt)
fine_entered t v s (assume p c) rest result b e around fine = ((fine, tt), tt)
fine_entered t v s (assume_shape p predicate x args) rest result b e around fine = tt
fine_entered t v s (assert_shape p predicate a args) rest result b e around fine = tt
fine_entered t v s (assert_empty p) rest result b e around fine = tt
fine_entered t v s (if_only p c a) rest result b e around fine = ((((result, b, none_right (condition_faults t (visible s) c) (statement_faults (in_context t result b) s a) e, around), fine), fine), tt)
fine_entered t v s (if_else p c x y) rest result b e around fine =
    (let first : List Fault = statement_faults (in_context t result b) s x in
    let second : List Fault = statement_faults (in_context t result b) (behind t s x) y in
    let test : List Fault = condition_faults t (visible s) c in
    ((((result, b, none_right test first (none_left (test ++ first) second e), around), fine), ((result, b, none_right (test ++ first) second e, around), fine)), tt))
fine_entered t v s (while_loop p c a) rest result b e around fine = ((tt, tt, (result, b, e)), (tt, fine))
fine_entered t v s (do_loop p a c) rest result b e around fine = ((result, true, none_left (statement_faults (in_context t result true) s a) (condition_faults t (visible (behind t s a)) c) e, (tt, tt)), (tt, ((tt, tt, (result, b, e)), (tt, fine))))
fine_entered t v s (for_loop h a) rest result b e around fine =
    fine_start t s h.start _ (none_left (start_faults t s h.start) _ (none_left (start_faults t s h.start ++ maybe_condition_faults t (visible (behind_start t s h.start)) h.condition) _ (none_left (head_faults t s h) _ e))) ((tt, tt, (result, b, e)), (tt, fine))
fine_entered t v s (break_loop p) rest result b e around fine = fine_loop t v rest fine
fine_entered t v s (continue_loop p) rest result b e around fine = fine_turn t v rest fine
fine_entered t v s (returns p r) rest result b e around fine = tt

fine_tested : (t : Tables) (vs : List Variable) (o : Option Cond) (go rest : Tasks) → Fine t go → Fine t rest → Fine t (tested vs o go rest)
fine_tested t vs None go rest fine other = (fine, tt)
fine_tested t vs (Some c) go rest fine other = ((fine, other), tt)

fine_for : (t : Tables) (s : Scope) (h : Head) (a : Stmt) (rest : Tasks) (result : Option VariableType) (o : Option SimpleTree) → maybe_simple_faults t (visible (behind_start t s h.start)) o ≡ [] → HasLoop rest
    → Fine t (task (again s (for_loop h a)) rest) → Fine t (finished (visible (behind_start t s h.start)) o (task (again s (for_loop h a)) rest)) × HasLoop (finished (visible (behind_start t s h.start)) o (task (again s (for_loop h a)) rest))
fine_for t s h a rest result None at_end loop fine = (fine, loop)
fine_for t s h a rest result (Some x) at_end loop fine = ((at_end, fine), loop)

fine_again : (t : Tables) (v : Values) (s : Scope) (a : Stmt) (rest : Tasks) → Fine t (task (again s a) rest) → FineThere t (at_condition t v s a rest)
fine_again t v s (while_loop p c a) rest fine = (
  let known = fine.0.2 in
      (((known.0, true, none_right (condition_faults t (visible s) c) (statement_faults (in_context t known.0 true) s a) known.2, (fine.0.1, tt)), (tt, fine)), fine.1),
  tt,
)
fine_again t v s (do_loop p a c) rest fine = (
  let known = fine.0.2 in
      (((known.0, true, none_left (statement_faults (in_context t known.0 true) s a) (condition_faults t (visible (behind t s a)) c) known.2, (fine.0.1, tt)), (tt, fine)), fine.1),
  tt,
)
fine_again t v s (for_loop h a) rest fine =
    (let known = fine.0.2 in
    let inner = behind_start t s h.start in
    let of_last : List Fault = maybe_simple_faults t (visible inner) h.last in
    let of_condition : List Fault = maybe_condition_faults t (visible inner) h.condition in
    let of_body : List Fault = statement_faults (in_context t known.0 true) inner a in
    let head = none_right (start_faults t s h.start ++ of_condition) of_last (none_left (head_faults t s h) of_body known.2) in
    let behind_it = fine_for t s h a rest known.0 h.last head fine.0.1 fine in
    fine_tested t (visible (behind_start t s h.start)) h.condition (for_turn t s h a rest) rest ((known.0, true, none_right (head_faults t s h) of_body known.2, (behind_it.1, tt)), (tt, behind_it.0)) fine.1)
fine_again t v s (declaration d) rest fine = tt
fine_again t v s (block p ss) rest fine = tt
fine_again t v s (empty p) rest fine = tt
fine_again t v s (simple x) rest fine = tt
fine_again t v s (free p e) rest fine = tt
fine_again t v s (assert p c) rest fine = tt
fine_again t v s (assume p c) rest fine = tt
fine_again t v s (assume_shape p predicate x args) rest fine = tt
fine_again t v s (assert_shape p predicate a args) rest fine = tt
fine_again t v s (assert_empty p) rest fine = tt
fine_again t v s (if_only p c a) rest fine = tt
fine_again t v s (if_else p c a b) rest fine = tt
fine_again t v s (break_loop p) rest fine = tt
fine_again t v s (continue_loop p) rest fine = tt
fine_again t v s (returns p r) rest fine = tt

fine_apart : (t : Tables) (v : Values) (vs : List Variable) (c : Cond) (a b : Branch) → FineBranch t a → FineBranch t b → FineThere t (taken_apart v vs c a b)
fine_apart t v vs (plain e) a b one other = tt
fine_apart t v vs (compare c x y) a b one other = tt
fine_apart t v vs (negation p c) a b one other = ((other, one), tt)
fine_apart t v vs (enclosed p c) a b one other = ((one, other), tt)
fine_apart t v vs (both c d) a b one other = ((((one, other), tt), other), tt)
fine_apart t v vs (either c d) a b one other = ((one, ((one, other), tt)), tt)

fine_declared : (t : Tables) (v : Values) (items : List InitialTree) (rest : Tasks) → Fine t rest → FineThere t (declared_all v items rest)
fine_declared t v [] rest fine = fine
fine_declared t v (item ∷ items) rest fine = tt

pub fine_moved : (t : Tables) (v : Values) (ts : Tasks) → Fine t ts → FineThere t (moved t v ts)
fine_moved t v done fine = tt
fine_moved t v (task (perform s a) rest) fine = fine_entered t v s a rest fine.0.0 fine.0.1 fine.0.2 fine.0.3 fine.1
fine_moved t v (task (declare_all s p base items) rest) fine = fine_declared t v items rest fine.1
fine_moved t v (task (finish_turn vs x) rest) fine = tt
fine_moved t v (task (again s a) rest) fine = fine_again t v s a rest fine
fine_moved t v (task (test vs c a b) rest) fine = fine_apart t v vs c a b fine.0.0 fine.0.1
fine_moved t v (task (always go) rest) fine = tt
fine_moved t v (task (end_block vs) rest) fine = fine.1
fine_moved t v (task (end_loop vs) rest) fine = fine.1
fine_moved t v (task end_turn rest) fine = fine.1
fine_moved t v (task (end_call saved target) rest) fine = fine_given t target None rest fine.1
fine_moved t v (task (take_result target w) rest) fine = tt

pub fine_arrived : (t : Tables) {v w : Values} {ts us : Tasks} → Arrives t v ts w us → Fine t ts → Fine t us
fine_arrived t (here e) fine = fine
fine_arrived t {v = v} {ts = ts} (there {later = later} {next = onward} e more) fine =
    (let P : Option (Values × Tasks) → Type 0 = λ o. FineThere t o in fine_arrived t more (subst P e (fine_moved t v ts fine)))

-- ---- after a step
abbrev pub FineResult : Tables → Result → Type 0
FineResult t (next d rest) = Fine t d.tasks
FineResult t (last f) = Unit {0}

fine_equal : (t : Tables) (r s : Result) → s ≡ r → FineResult t r → FineResult t s
fine_equal t r s e fine = (let P : Result → Type 0 = λ x. FineResult t x in subst P (sym e) fine)

fine_after : (t : Tables) (rest : Tasks) (place : Place) (choices : List Choice) (c : Changed) → Fine t rest → FineResult t (after rest place choices c)
fine_after t rest place choices (fault_in kind) fine = tt
fine_after t rest place choices (changed values heap) fine = fine

fine_back : (t : Tables) (rest : Tasks) (v : Option ℤ) → Fine t rest → Fine t (returning rest v).1
fine_back t done v fine = tt
fine_back t (task (end_call saved target) rest) v fine = fine_given t target v rest fine.1
fine_back t (task (perform s a) rest) v fine = fine_back t rest v fine.1
fine_back t (task (declare_all s p base items) rest) v fine = fine_back t rest v fine.1
fine_back t (task (finish_turn vs x) rest) v fine = fine_back t rest v fine.1
fine_back t (task (again s a) rest) v fine = fine_back t rest v fine.1
fine_back t (task (test vs c a b) rest) v fine = fine_back t rest v fine.1
fine_back t (task (always go) rest) v fine = fine_back t rest v fine.1
fine_back t (task (end_block vs) rest) v fine = fine_back t rest v fine.1
fine_back t (task (end_loop vs) rest) v fine = fine_back t rest v fine.1
fine_back t (task end_turn rest) v fine = fine_back t rest v fine.1
fine_back t (task (take_result target w) rest) v fine = fine_back t rest v fine.1

fine_returned : (t : Tables) (heap : Heap) (rest : Tasks) (place : Place) (choices : List Choice) (v : Option ℤ) → Fine t rest → FineResult t (returned_value heap rest place choices v)
fine_returned t heap rest place choices None fine = tt
fine_returned t heap rest place choices (Some v) fine = fine_back t rest (Some v) fine

-- a step that begins with a value
fine_value : (t : Tables) (h : Here) (e : Expr) (place : Place) (choices : List Choice) (go : Option ℤ → List Choice → Result → Type 0) → ((v : Option ℤ) (left : List Choice) (r : Result) → go v left r → FineResult t r)
    → (r : Result) → WithValue h e place choices go r → FineResult t r
fine_value t h e place choices go each r is = behind_it is.0 is.2
  where
    behind_it : (one : Evaluated) → AfterValue place go one r → FineResult t r
    behind_it (fault_of kind) a = fine_equal t (last _) r a tt
    behind_it (value_of v left) a = each v left r a

fine_allocates : (t : Tables) (h : Here) (m : Malloc) (choices : List Choice) (go : ℤ → Heap → List Choice → Result → Type 0) → ((v : ℤ) (heap : Heap) (left : List Choice) (r : Result) → go v heap left r → FineResult t r)
    → (r : Result) → Allocates h m choices go r → FineResult t r
fine_allocates t h m [] go each r is = absurd is
fine_allocates t h m (choose_input v ∷ choices) go each r is = absurd is
fine_allocates t h m (choose_shape v blocks ∷ choices) go each r is = absurd is
fine_allocates t h m (choose_malloc zero ∷ choices) go each r is = each _ _ _ r is
fine_allocates t h m (choose_malloc (suc n) ∷ choices) go each r is = each _ _ _ r is.2

pub fine_body : (t : Tables) (f : FunctionTree) (rest : Tasks) (o : Option BodyTree) → f.body ≡ o → body_faults t f o ≡ [] → Fine t rest → Fine t (body_of t f rest)
fine_body t f rest None e none fine = (let P : Option BodyTree → Type 0 = λ o. Fine t (row_of o) in subst P (sym e) fine)
  where
    row_of : Option BodyTree → Tasks
    row_of o = option_map_or (λ body. in_a_row t (record { heads = []; own = reverse (parameters_of t f); outer = [] }) (stmts_of body.statements) rest) o rest
fine_body t f rest (Some body) e none fine = (let P : Option BodyTree → Type 0 = λ o. Fine t (row_of o) in subst P (sym e) (fine_row t (returned_type t f.returned) false (record { heads = []; own = reverse (parameters_of t f); outer = [] }) (stmts_of body.statements) rest none tt fine))
  where
    row_of : Option BodyTree → Tasks
    row_of o = option_map_or (λ b. in_a_row t (record { heads = []; own = reverse (parameters_of t f); outer = [] }) (stmts_of b.statements) rest) o rest

fine_begun : (h : Here) (f : FunctionTree) (target : Target) (place : Place) (rest : Tasks) (choices : List Choice) (vs : Option (List ℤ)) → body_faults h.tables f f.body ≡ [] → Fine h.tables rest
    → FineResult h.tables (begun h f target place rest choices vs)
fine_begun h f target place rest choices None none fine = tt
fine_begun h f target place rest choices (Some vs) none fine = fine_body h.tables f (task (end_call h.values target) rest) f.body refl none (tt, fine)

fine_passes : (h : Here) → AreFaultless h.tables → (c : CallTree) (target : Target) (place : Place) (rest : Tasks) (choices : List Choice) (r : Result) → Fine h.tables rest → Passes h c target place rest choices r → FineResult h.tables r
fine_passes h bodies c target place rest choices r fine is = behind_it is.0 (called_function h.tables c.function.text) refl is.2
  where
    behind_it : (all : Arguments) (o : Option FunctionTree) → called_function h.tables c.function.text ≡ o → AfterArguments h o target place rest all r → FineResult h.tables r
    behind_it (no_arguments kind) o e a = fine_equal h.tables (last _) r a tt
    behind_it (arguments vs left) None e a = absurd a
    behind_it (arguments vs left) (Some f) e a = fine_equal h.tables _ r a (fine_begun h f target place rest left (all_there vs) (bodies c.function.text f e) fine)

fine_assigns : (h : Here) → AreFaultless h.tables → (vs : List Variable) (l : Left) (right : Right) (place : Place) (rest : Tasks) (choices : List Choice) (r : Result) → Fine h.tables rest → Assigns h vs l right place rest choices r → FineResult h.tables r
fine_assigns h bodies vs l (expression e) place rest choices r fine is = fine_value h.tables h e place choices _ (λ v left s i. fine_equal h.tables _ s i (fine_after h.tables rest place left _ fine)) r is
fine_assigns h bodies vs l (result_of c) place rest choices r fine is = fine_passes h bodies c _ place rest choices r fine is
fine_assigns h bodies vs l (allocation m) place rest choices r fine is = fine_allocates h.tables h m choices _ (λ v heap left s i. fine_equal h.tables _ s i (fine_after h.tables rest place left _ fine)) r is

fine_performs : (h : Here) → AreFaultless h.tables → (x : SimpleTree) (place : Place) (rest : Tasks) (choices : List Choice) (r : Result) → Fine h.tables rest → Performs h x place rest choices r → FineResult h.tables r
fine_performs h bodies (assign l right) place rest choices r fine is = fine_assigns h bodies h.variables l right place rest choices r fine is
fine_performs h bodies (add l e) place rest choices r fine is = fine_value h.tables h e place choices _ (λ v left s i. fine_equal h.tables _ s i (fine_after h.tables rest place left _ fine)) r is
fine_performs h bodies (subtract l e) place rest choices r fine is = fine_value h.tables h e place choices _ (λ v left s i. fine_equal h.tables _ s i (fine_after h.tables rest place left _ fine)) r is
fine_performs h bodies (increment l) place rest choices r fine is = fine_equal h.tables _ r is (fine_after h.tables rest place choices _ fine)
fine_performs h bodies (decrement l) place rest choices r fine is = fine_equal h.tables _ r is (fine_after h.tables rest place choices _ fine)
fine_performs h bodies (increment_first p l) place rest choices r fine is = fine_equal h.tables _ r is (fine_after h.tables rest place choices _ fine)
fine_performs h bodies (decrement_first p l) place rest choices r fine is = fine_equal h.tables _ r is (fine_after h.tables rest place choices _ fine)
fine_performs h bodies (call c) place rest choices r fine is = fine_passes h bodies c _ place rest choices r fine is

fine_declares : (h : Here) → AreFaultless h.tables → (x : Variable) (right : Option Right) (place : Place) (rest : Tasks) (choices : List Choice) (r : Result) → Fine h.tables rest → Declares h x right place rest choices r → FineResult h.tables r
fine_declares h bodies x None place rest choices r fine is = fine_equal h.tables _ r is fine
fine_declares h bodies x (Some right) place rest choices r fine is = fine_assigns h bodies (x ∷ []) (record { name = record { text = x.name; place = x.place }; fields = [] }) right place rest choices r fine is

fine_adds : (t : Tables) (defs : List Def) (predicate : Name) (args : List ℤ) (h : Here) (x : Name) (rest : Tasks) (place : Place) (choices : List Choice) (r : Result) → Fine t rest → AddsShape defs predicate args h x rest place choices r → FineResult t r
fine_adds t defs predicate args h x rest place [] r fine is = absurd is
fine_adds t defs predicate args h x rest place (choose_input v ∷ choices) r fine is = absurd is
fine_adds t defs predicate args h x rest place (choose_malloc n ∷ choices) r fine is = absurd is
fine_adds t defs predicate args h x rest place (choose_shape v blocks ∷ choices) r fine is =
    fine_equal t (after rest place choices (set_variable (where_is h.tables h.variables h.values (with_blocks h.heap blocks)) x (Some v))) r is.2
    (fine_after t rest place choices (set_variable (where_is h.tables h.variables h.values (with_blocks h.heap blocks)) x (Some v)) fine)

fine_assumes : (t : Tables) (defs : List Def) (predicate : Name) (h : Here) (x : Name) (rest : Tasks) (place : Place) (choices : List Choice) (args : Option (List ℤ)) (r : Result) → Fine t rest → Assumes defs predicate h x rest place choices args r → FineResult t r
fine_assumes t defs predicate h x rest place choices None r fine is = fine_equal t (last _) r is tt
fine_assumes t defs predicate h x rest place choices (Some args) r fine is = fine_adds t defs predicate args h x rest place choices r fine is

fine_demands : (t : Tables) (P : Type 0) (kind : FaultKind) (h : Here) (rest : Tasks) (place : Place) (choices : List Choice) (r : Result) → Fine t rest → Demands P kind h rest place choices r → FineResult t r
fine_demands t P kind h rest place choices r fine (inl is) = fine_equal t _ r is.1 fine
fine_demands t P kind h rest place choices r fine (inr is) = fine_equal t (last _) r is.1 tt

fine_asserts : (t : Tables) (defs : List Def) (predicate : Name) (h : Here) (rest : Tasks) (place : Place) (choices : List Choice) (v : Option ℤ) (args : Option (List ℤ)) (r : Result) → Fine t rest → Asserts defs predicate h rest place choices v args r → FineResult t r
fine_asserts t defs predicate h rest place choices None args r fine is = fine_equal t (last _) r is tt
fine_asserts t defs predicate h rest place choices (Some v) None r fine is = fine_equal t (last _) r is tt
fine_asserts t defs predicate h rest place choices (Some v) (Some args) r fine is = fine_demands t _ _ h rest place choices r fine is

fine_returns : (h : Here) → AreFaultless h.tables → (right : Option Right) (rest : Tasks) (place : Place) (choices : List Choice) (r : Result) → Fine h.tables rest → Returns h right rest place choices r → FineResult h.tables r
fine_returns h bodies None rest place choices r fine is = fine_equal h.tables _ r is (fine_back h.tables rest None fine)
fine_returns h bodies (Some (expression e)) rest place choices r fine is = fine_value h.tables h e place choices _ (λ v left s i. fine_equal h.tables _ s i (fine_returned h.tables h.heap rest place left v fine)) r is
fine_returns h bodies (Some (result_of c)) rest place choices r fine is = fine_passes h bodies c _ place rest choices r fine is
fine_returns h bodies (Some (allocation m)) rest place choices r fine is = fine_allocates h.tables h m choices _ (λ v heap left s i. fine_equal h.tables _ s i (fine_back h.tables rest (Some v) fine)) r is

fine_led : (t : Tables) (h : Here) (a : Branch) (choices : List Choice) → FineBranch t a → FineResult t (led h a choices)
fine_led t h (go_on tasks) choices fine = fine
fine_led t h (fails place) choices fine = tt
fine_led t h stops choices fine = tt

fine_decided : (t : Tables) (h : Here) (a b : Branch) (choices : List Choice) (holds : Bool) → FineBranch t a → FineBranch t b → FineResult t (decided h a b choices holds)
fine_decided t h a b choices true one other = fine_led t h a choices one
fine_decided t h a b choices false one other = fine_led t h b choices other

fine_compared : (t : Tables) (h : Here) (c : Comparison) (a b : Branch) (place : Place) (x y : Option ℤ) (choices : List Choice) → FineBranch t a → FineBranch t b → FineResult t (compared h c a b place x y choices)
fine_compared t h c a b place None y choices one other = tt
fine_compared t h c a b place (Some x) None choices one other = tt
fine_compared t h c a b place (Some x) (Some y) choices one other = fine_decided t h a b choices (compares c x y) one other

fine_tests : (t : Tables) (h : Here) (c : Cond) (a b : Branch) (choices : List Choice) (r : Result) → FineBranch t a → FineBranch t b → Tests h c a b choices r → FineResult t r
fine_tests t h (plain e) a b choices r one other is = fine_value t h e _ choices _ (λ v left s i. fine_equal t _ s i (fine_compared t h Comparison.Unequal a b _ v (Some (pos 0)) left one other)) r is
fine_tests t h (compare c x y) a b choices r one other is =
    fine_value t h x _ choices _ (λ v left s i. fine_value t h y _ left _ (λ w more u j. fine_equal t _ u j (fine_compared t h c a b _ v w more one other)) s i) r is
fine_tests t h (negation p c) a b choices r one other is = absurd is
fine_tests t h (enclosed p c) a b choices r one other is = absurd is
fine_tests t h (both c d) a b choices r one other is = absurd is
fine_tests t h (either c d) a b choices r one other is = absurd is

fine_executes : (defs : List Def) (h : Here) → AreFaultless h.tables → (a : Stmt) (rest : Tasks) (choices : List Choice) (r : Result) → Fine h.tables rest → Executes defs h a rest choices r → FineResult h.tables r
fine_executes defs h bodies (simple x) rest choices r fine is = fine_performs h bodies x (simple_place x) rest choices r fine is
fine_executes defs h bodies (free p e) rest choices r fine is = fine_value h.tables h e p choices _ (λ v left s i. fine_equal h.tables _ s i (fine_after h.tables rest p left _ fine)) r is
fine_executes defs h bodies (assume_shape p predicate x args) rest choices r fine is = fine_assumes h.tables defs predicate h x rest p choices _ r fine is
fine_executes defs h bodies (assert_shape p predicate a args) rest choices r fine is = fine_asserts h.tables defs predicate h rest p choices _ _ r fine is
fine_executes defs h bodies (assert_empty p) rest choices r fine is = fine_demands h.tables _ _ h rest p choices r fine is
fine_executes defs h bodies (returns p right) rest choices r fine is = fine_returns h bodies right rest p choices r fine is
fine_executes defs h bodies (declaration d) rest choices r fine is = absurd is
fine_executes defs h bodies (block p ss) rest choices r fine is = absurd is
fine_executes defs h bodies (empty p) rest choices r fine is = absurd is
fine_executes defs h bodies (assert p c) rest choices r fine is = absurd is
fine_executes defs h bodies (assume p c) rest choices r fine is = absurd is
fine_executes defs h bodies (if_only p c a) rest choices r fine is = absurd is
fine_executes defs h bodies (if_else p c a b) rest choices r fine is = absurd is
fine_executes defs h bodies (while_loop p c a) rest choices r fine is = absurd is
fine_executes defs h bodies (do_loop p a c) rest choices r fine is = absurd is
fine_executes defs h bodies (for_loop head a) rest choices r fine is = absurd is
fine_executes defs h bodies (break_loop p) rest choices r fine is = absurd is
fine_executes defs h bodies (continue_loop p) rest choices r fine is = absurd is

fine_taken : (t : Tables) (h : Here) (target : Target) (v : Option ℤ) (rest : Tasks) (choices : List Choice) → Fine t rest → FineResult t (taken h target v rest choices)
fine_taken t h nowhere v rest choices fine = fine
fine_taken t h (stored vs l place) v rest choices fine = fine_after t rest place choices _ fine
fine_taken t h (returned place) v rest choices fine = fine_returned t h.heap rest place choices v fine

fine_does : (p : Program) → AreFaultless p.tables → (values : Values) (heap : Heap) (tasks : Tasks) (choices : List Choice) (r : Result) → Fine p.tables tasks → Does p values heap tasks choices r → FineResult p.tables r
fine_does p bodies values heap done choices r fine is = fine_equal p.tables (last _) r is tt
fine_does p bodies values heap (task (perform s a) rest) choices r fine is = fine_executes p.defs (where_is p.tables (visible s) values heap) bodies a rest choices r fine.1 is
fine_does p bodies values heap (task (declare_all s place base []) rest) choices r fine is = absurd is
fine_does p bodies values heap (task (declare_all s place base (item ∷ items)) rest) choices r fine is =
    (let x = variable_of p.tables base item.declarator in
    fine_declares (where_is p.tables (visible (declare s x)) values heap) bodies x item.value place (task (declare_all (declare s x) place base items) rest) choices r (none_right (item_faults p.tables base s item) _ fine.0, fine.1) is)
fine_does p bodies values heap (task (finish_turn vs x) rest) choices r fine is = fine_performs (where_is p.tables vs values heap) bodies x (simple_place x) rest choices r fine.1 is
fine_does p bodies values heap (task (again s a) rest) choices r fine is = absurd is
fine_does p bodies values heap (task (test vs c a b) rest) choices r fine is = fine_tests p.tables (where_is p.tables vs values heap) c a b choices r fine.0.0 fine.0.1 is
fine_does p bodies values heap (task (always go) rest) choices r fine is = fine_equal p.tables _ r is fine.0
fine_does p bodies values heap (task (end_block vs) rest) choices r fine is = absurd is
fine_does p bodies values heap (task (end_loop vs) rest) choices r fine is = absurd is
fine_does p bodies values heap (task end_turn rest) choices r fine is = absurd is
fine_does p bodies values heap (task (end_call saved target) rest) choices r fine is = absurd is
fine_does p bodies values heap (task (take_result target v) rest) choices r fine is = fine_equal p.tables _ r is (fine_taken p.tables (where_is p.tables [] values heap) target v rest choices fine.1)

pub fine_step : (p : Program) → AreFaultless p.tables → (c : Config) (choices : List Choice) (r : Result) → Fine p.tables c.tasks → Step p c choices r → FineResult p.tables r
fine_step p bodies c choices r fine is = fine_does p bodies is.0 c.heap is.1 choices r (fine_arrived p.tables is.2 fine) is.3
