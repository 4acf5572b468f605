-- A step is determined by its choices.
use Rattle.std.proofs.Common.{◌≡◌, zero, suc, ℤ, pos, ◌-ℤ◌, List, [], ◌∷◌, Option, Some, None, refl, ap, sym, ◌∙◌, subst, inl, inr}
use Rattle.mc_base.specs.declared.plain.FaultKind.{FaultKind}
use Rattle.mc_base.specs.declared.text.place.Place.{Place}
use Rattle.mc_flow.specs.Heap.Heap.{Heap}
use Rattle.mc_flow.specs.Heap.Choices.{Choice, input as choose_input, malloc as choose_malloc, shape as choose_shape}
use Rattle.mc_flow.specs.declared.defs.rules.Def.{Def}
use Rattle.mc_c_syntax.specs.declared.ast.trees.Name.{Name}
use Rattle.mc_c_syntax.specs.declared.ast.trees.Malloc.{Malloc}
use Rattle.mc_c_syntax.specs.Ast.Trees.{Left, Expr, number, null, input, value, minus, parens, times, plus, difference, Cond, plain, compare, negation, enclosed, both, either, CallTree, Right, expression, result_of, allocation, SimpleTree, assign, add, subtract, increment, decrement, increment_first, decrement_first, call, Stmt, declaration, block, empty, simple, free, assert, assume, assume_shape, assert_shape, assert_empty, if_only, if_else, while_loop, do_loop, for_loop, break_loop, continue_loop, returns, FunctionTree}
use Rattle.mc_c_types.specs.Tables.{Tables, Variable, variable_of, called_function}
use Rattle.mc_c_types.specs.Scopes.{visible, declare}
use Rattle.mc_semantics.specs.Configs.{Program, Values, Target, perform, declare_all, finish_turn, again, test, always, end_block, end_loop, end_turn, end_call, take_result, Tasks, done, task, Branch, Config, Result}
use Rattle.mc_semantics.specs.Values.{Here, Evaluated, fault_of, value_of, IsInput, right_operand, AfterLeft, Evaluates}
use Rattle.mc_semantics.specs.Moves.{Arrives, here, there}
use Rattle.mc_semantics.specs.Steps.{put_before, AfterValue, WithValue, Allocates, Arguments, no_arguments, arguments, AfterFirst, EvaluateAll, AfterArguments, Passes, Assigns, Performs, Declares, AddsShape, Assumes, Demands, Asserts, Returns, Tests, Executes, Does, Step, where_is, simple_place}

-- two that are equal to a third are equal
pub joined : {X : Type 0} {x y z : X} → x ≡ z → y ≡ z → x ≡ y
joined e f = e ∙ sym f

pub one_input : (choices : List Choice) {r s : Evaluated} → IsInput choices r → IsInput choices s → r ≡ s
one_input [] i j = elim i [ ]
one_input (choose_input v ∷ choices) i j = joined i.1 j.1
one_input (choose_malloc n ∷ choices) i j = elim i [ ]
one_input (choose_shape v blocks ∷ choices) i j = elim i [ ]

-- what comes of it is determined
abbrev pub IsDetermined : {X : Type 0} → (X → Type 0) → Type 0
IsDetermined {X} P = (x y : X) → P x → P y → x ≡ y

after_left : (operation : ℤ → ℤ → ℤ) (right : List Choice → Evaluated → Type 0) (one : Evaluated) → ((left : List Choice) → IsDetermined (right left)) → IsDetermined (AfterLeft operation right one)
after_left operation right (fault_of kind) same r s i j = joined i j
after_left operation right (value_of v choices) same r s (x, is, e) (y, is', f) = e ∙ ap (right_operand operation v) (same choices x y is is') ∙ sym f

-- two operands, one after the other, and the operand of a minus
pub operated_once : (operation : ℤ → ℤ → ℤ) (first second : List Choice → Evaluated → Type 0) (choices : List Choice) → IsDetermined (first choices) → ((left : List Choice) → IsDetermined (second left))
    → IsDetermined (λ r. (one : Evaluated) × first choices one × AfterLeft operation second one r)
operated_once operation first second choices same_a same_b r s (x, is, rest) (y, is', rest') =
    after_left operation second x same_b r s rest (subst (λ z. AfterLeft operation second z s) (sym (same_a x y is is')) rest')

pub negated_once : (first : List Choice → Evaluated → Type 0) (choices : List Choice) → IsDetermined (first choices)
    → IsDetermined (λ r. (one : Evaluated) × first choices one × (r ≡ right_operand (λ x y. x -ℤ y) (Some (pos 0)) one))
negated_once first choices same r s (x, is, i) (y, is', j) = i ∙ ap (right_operand (λ x y. x -ℤ y) (Some (pos 0))) (same x y is is') ∙ sym j

pub one_value : (h : Here) (e : Expr) (choices : List Choice) → IsDetermined (Evaluates h e choices)
one_value h (number n p) choices = λ r s i j. joined i j
one_value h (null p) choices = λ r s i j. joined i j
one_value h (input p) choices = λ r s i j. one_input choices i j
one_value h (value l) choices = λ r s i j. joined i j
one_value h (minus p e) choices = negated_once (Evaluates h e) choices (one_value h e choices)
one_value h (parens p e) choices = one_value h e choices
one_value h (times a b) choices = operated_once _ (Evaluates h a) (Evaluates h b) choices (one_value h a choices) (λ left. one_value h b left)
one_value h (plus a b) choices = operated_once _ (Evaluates h a) (Evaluates h b) choices (one_value h a choices) (λ left. one_value h b left)
one_value h (difference a b) choices = operated_once _ (Evaluates h a) (Evaluates h b) choices (one_value h a choices) (λ left. one_value h b left)

after_value : (place : Place) (go : Option ℤ → List Choice → Result → Type 0) (one : Evaluated) → ((v : Option ℤ) (left : List Choice) → IsDetermined (go v left)) → IsDetermined (AfterValue place go one)
after_value place go (fault_of kind) same r s i j = joined i j
after_value place go (value_of v choices) same r s i j = same v choices r s i j

pub with_value : (h : Here) (e : Expr) (place : Place) (choices : List Choice) (go : Option ℤ → List Choice → Result → Type 0) → ((v : Option ℤ) (left : List Choice) → IsDetermined (go v left)) → IsDetermined (WithValue h e place choices go)
with_value h e place choices go same r s (x, is, rest) (y, is', rest') =
    after_value place go x same r s rest (subst (λ z. AfterValue place go z s) (sym (one_value h e choices x y is is')) rest')

allocates : (h : Here) (m : Malloc) (choices : List Choice) (go : ℤ → Heap → List Choice → Result → Type 0) → ((v : ℤ) (heap : Heap) (left : List Choice) → IsDetermined (go v heap left)) → IsDetermined (Allocates h m choices go)
allocates h m [] go same r s i j = elim i [ ]
allocates h m (choose_input v ∷ choices) go same r s i j = elim i [ ]
allocates h m (choose_shape v blocks ∷ choices) go same r s i j = elim i [ ]
allocates h m (choose_malloc zero ∷ choices) go same r s i j = same _ _ _ r s i j
allocates h m (choose_malloc (suc n) ∷ choices) go same r s (a, b, i) (c, d, j) = same _ _ _ r s i j

pub after_first : (one : Evaluated) (more : List Choice → Arguments → Type 0) → ((left : List Choice) → IsDetermined (more left)) → IsDetermined (AfterFirst more one)
after_first (fault_of kind) more same r s i j = joined i j
after_first (value_of v choices) more same r s (x, is, e) (y, is', f) = e ∙ ap (λ z. put_before v z) (same choices x y is is') ∙ sym f

evaluate_all : (h : Here) (es : List Expr) (choices : List Choice) → IsDetermined (EvaluateAll h es choices)
evaluate_all h [] choices r s i j = joined i j
evaluate_all h (e ∷ es) choices r s (x, is, rest) (y, is', rest') =
    after_first x _ (λ left. evaluate_all h es left) r s rest (subst (λ z. AfterFirst (λ left others. EvaluateAll h es left others) z s) (sym (one_value h e choices x y is is')) rest')

after_arguments : (h : Here) (f : Option FunctionTree) (target : Target) (place : Place) (rest : Tasks) (all : Arguments) → IsDetermined (AfterArguments h f target place rest all)
after_arguments h f target place rest (no_arguments kind) r s i j = joined i j
after_arguments h None target place rest (arguments vs choices) r s i j = elim i [ ]
after_arguments h (Some f) target place rest (arguments vs choices) r s i j = joined i j

passes : (h : Here) (c : CallTree) (target : Target) (place : Place) (rest : Tasks) (choices : List Choice) → IsDetermined (Passes h c target place rest choices)
passes h c target place rest choices r s (x, is, i) (y, is', j) =
    after_arguments h (called_function h.tables c.function.text) target place rest x r s i
    (subst (λ z. AfterArguments h (called_function h.tables c.function.text) target place rest z s) (sym (evaluate_all h c.arguments choices x y is is')) j)

assigns : (h : Here) (vs : List Variable) (l : Left) (right : Right) (place : Place) (rest : Tasks) (choices : List Choice) → IsDetermined (Assigns h vs l right place rest choices)
assigns h vs l (expression e) place rest choices = with_value h e place choices _ (λ v left r s i j. joined i j)
assigns h vs l (result_of c) place rest choices = passes h c _ place rest choices
assigns h vs l (allocation m) place rest choices = allocates h m choices _ (λ v heap left r s i j. joined i j)

performs : (h : Here) (x : SimpleTree) (place : Place) (rest : Tasks) (choices : List Choice) → IsDetermined (Performs h x place rest choices)
performs h (assign l right) place rest choices = assigns h h.variables l right place rest choices
performs h (add l e) place rest choices = with_value h e place choices _ (λ v left r s i j. joined i j)
performs h (subtract l e) place rest choices = with_value h e place choices _ (λ v left r s i j. joined i j)
performs h (increment l) place rest choices = λ r s i j. joined i j
performs h (decrement l) place rest choices = λ r s i j. joined i j
performs h (increment_first p l) place rest choices = λ r s i j. joined i j
performs h (decrement_first p l) place rest choices = λ r s i j. joined i j
performs h (call c) place rest choices = passes h c _ place rest choices

declares : (h : Here) (x : Variable) (right : Option Right) (place : Place) (rest : Tasks) (choices : List Choice) → IsDetermined (Declares h x right place rest choices)
declares h x None place rest choices = λ r s i j. joined i j
declares h x (Some right) place rest choices = assigns h (x ∷ []) (record { name = record { text = x.name; place = x.place }; fields = [] }) right place rest choices

adds_shape : (defs : List Def) (predicate : Name) (args : List ℤ) (h : Here) (x : Name) (rest : Tasks) (place : Place) (choices : List Choice) → IsDetermined (AddsShape defs predicate args h x rest place choices)
adds_shape defs predicate args h x rest place [] r s i j = elim i [ ]
adds_shape defs predicate args h x rest place (choose_input v ∷ choices) r s i j = elim i [ ]
adds_shape defs predicate args h x rest place (choose_malloc n ∷ choices) r s i j = elim i [ ]
adds_shape defs predicate args h x rest place (choose_shape v blocks ∷ choices) r s (a, b, i) (c, d, j) = joined i j

assumes : (defs : List Def) (predicate : Name) (h : Here) (x : Name) (rest : Tasks) (place : Place) (choices : List Choice) (args : Option (List ℤ)) → IsDetermined (Assumes defs predicate h x rest place choices args)
assumes defs predicate h x rest place choices None = λ r s i j. joined i j
assumes defs predicate h x rest place choices (Some args) = adds_shape defs predicate args h x rest place choices

demands : (P : Type 0) (kind : FaultKind) (h : Here) (rest : Tasks) (place : Place) (choices : List Choice) → IsDetermined (Demands P kind h rest place choices)
demands P kind h rest place choices r s (inl i) (inl j) = joined i.1 j.1
demands P kind h rest place choices r s (inl i) (inr j) = absurd (j.0 i.0)
demands P kind h rest place choices r s (inr i) (inl j) = absurd (i.0 j.0)
demands P kind h rest place choices r s (inr i) (inr j) = joined i.1 j.1

asserts : (defs : List Def) (predicate : Name) (h : Here) (rest : Tasks) (place : Place) (choices : List Choice) (v : Option ℤ) (args : Option (List ℤ)) → IsDetermined (Asserts defs predicate h rest place choices v args)
asserts defs predicate h rest place choices None args = λ r s i j. joined i j
asserts defs predicate h rest place choices (Some v) None = λ r s i j. joined i j
asserts defs predicate h rest place choices (Some v) (Some args) = demands _ _ h rest place choices

returns_one : (h : Here) (right : Option Right) (rest : Tasks) (place : Place) (choices : List Choice) → IsDetermined (Returns h right rest place choices)
returns_one h None rest place choices = λ r s i j. joined i j
returns_one h (Some (expression e)) rest place choices = with_value h e place choices _ (λ v left r s i j. joined i j)
returns_one h (Some (result_of c)) rest place choices = passes h c _ place rest choices
returns_one h (Some (allocation m)) rest place choices = allocates h m choices _ (λ v heap left r s i j. joined i j)

tests : (h : Here) (c : Cond) (a b : Branch) (choices : List Choice) → IsDetermined (Tests h c a b choices)
tests h (plain e) a b choices = with_value h e _ choices _ (λ v left r s i j. joined i j)
tests h (compare c x y) a b choices = with_value h x _ choices _ (λ v left. with_value h y _ left _ (λ w more r s i j. joined i j))
tests h (negation p c) a b choices = λ r s i j. elim i [ ]
tests h (enclosed p c) a b choices = λ r s i j. elim i [ ]
tests h (both c d) a b choices = λ r s i j. elim i [ ]
tests h (either c d) a b choices = λ r s i j. elim i [ ]

executes : (defs : List Def) (h : Here) (a : Stmt) (rest : Tasks) (choices : List Choice) → IsDetermined (Executes defs h a rest choices)
executes defs h (simple x) rest choices = performs h x (simple_place x) rest choices
executes defs h (free p e) rest choices = with_value h e p choices _ (λ v left r s i j. joined i j)
executes defs h (assume_shape p predicate x args) rest choices = assumes defs predicate h x rest p choices _
executes defs h (assert_shape p predicate a args) rest choices = asserts defs predicate h rest p choices _ _
executes defs h (assert_empty p) rest choices = demands _ _ h rest p choices
executes defs h (returns p right) rest choices = returns_one h right rest p choices
executes defs h (declaration d) rest choices = λ r s i j. elim i [ ]
executes defs h (block p ss) rest choices = λ r s i j. elim i [ ]
executes defs h (empty p) rest choices = λ r s i j. elim i [ ]
executes defs h (assert p c) rest choices = λ r s i j. elim i [ ]
executes defs h (assume p c) rest choices = λ r s i j. elim i [ ]
executes defs h (if_only p c a) rest choices = λ r s i j. elim i [ ]
executes defs h (if_else p c a b) rest choices = λ r s i j. elim i [ ]
executes defs h (while_loop p c a) rest choices = λ r s i j. elim i [ ]
executes defs h (do_loop p a c) rest choices = λ r s i j. elim i [ ]
executes defs h (for_loop head a) rest choices = λ r s i j. elim i [ ]
executes defs h (break_loop p) rest choices = λ r s i j. elim i [ ]
executes defs h (continue_loop p) rest choices = λ r s i j. elim i [ ]

does : (p : Program) (values : Values) (heap : Heap) (tasks : Tasks) (choices : List Choice) → IsDetermined (Does p values heap tasks choices)
does p values heap done choices = λ r s i j. joined i j
does p values heap (task (perform s a) rest) choices = executes p.defs (where_is p.tables (visible s) values heap) a rest choices
does p values heap (task (declare_all s place base []) rest) choices = λ r t i j. elim i [ ]
does p values heap (task (declare_all s place base (item ∷ items)) rest) choices = declares (where_is p.tables (visible (declare s (variable_of p.tables base item.declarator))) values heap) (variable_of p.tables base item.declarator) item.value place (task (declare_all (declare s (variable_of p.tables base item.declarator)) place base items) rest) choices
does p values heap (task (finish_turn vs x) rest) choices = performs (where_is p.tables vs values heap) x (simple_place x) rest choices
does p values heap (task (again s a) rest) choices = λ r t i j. elim i [ ]
does p values heap (task (test vs c a b) rest) choices = tests (where_is p.tables vs values heap) c a b choices
does p values heap (task (always go) rest) choices = λ r s i j. joined i j
does p values heap (task (end_block vs) rest) choices = λ r t i j. elim i [ ]
does p values heap (task (end_loop vs) rest) choices = λ r t i j. elim i [ ]
does p values heap (task end_turn rest) choices = λ r t i j. elim i [ ]
does p values heap (task (end_call saved target) rest) choices = λ r t i j. elim i [ ]
does p values heap (task (take_result target v) rest) choices = λ r s i j. joined i j

-- the parts of a pair, if there is one
abbrev pub first_of : {A B : Type 0} → A → Option (A × B) → A
first_of a None = a
first_of a (Some p) = p.0

abbrev pub second_of : {A B : Type 0} → B → Option (A × B) → B
second_of b None = b
second_of b (Some p) = p.1

pub never_both : {X : Type 0} {o : Option X} {p : X} → o ≡ None → o ≡ Some p → ⊥
never_both none some = cc (none, some)

-- there is one place at which the next step is
pub one_arrival : (t : Tables) {v w v' : Values} {ts us us' : Tasks} → Arrives t v ts w us → Arrives t v ts v' us' → (w ≡ v') × (us ≡ us')
one_arrival t (here none) (here none') = (refl, refl)
one_arrival t (here none) (there some path) = absurd (never_both none some)
one_arrival t (there some path) (here none) = absurd (never_both none some)
one_arrival t {v' = v'} {us' = us'} (there {later = later} {next = next} some path) (there {later = later'} {next = next'} some' path') =
    let e : Some (later', next') ≡ Some (later, next) = sym some' ∙ some in
    let first : later' ≡ later = ap (first_of later) e in
    let second : next' ≡ next = ap (second_of next) e in
    one_arrival t path (subst (λ z. Arrives t z next v' us') first (subst (λ z. Arrives t later' z v' us') second path'))

pub one_step : (p : Program) (c : Config) (choices : List Choice) → IsDetermined (Step p c choices)
one_step p c choices r s (v, ts, is, i) (w, us, is', j) =
    let same = one_arrival p.tables is is' in
    does p v c.heap ts choices r s i (subst (λ z. Does p z c.heap ts choices s) (sym same.0) (subst (λ z. Does p w c.heap z choices s) (sym same.1) j))
