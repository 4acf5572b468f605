-- Where the next step is, it is made, or waits for a choice; never both.
use Rattle.std.proofs.Common.{◌≡◌, zero, suc, ℤ, pos, List, [], ◌∷◌, Option, Some, None, Bool, true, false, refl, sym, ◌∙◌, subst, inl, inr}
use Rattle.std.specs.Prelude.{map}
use Rattle.mc_base.specs.declared.plain.FaultKind.{FaultKind}
use Rattle.mc_base.specs.declared.text.place.Place.{Place}
use Rattle.mc_flow.specs.Heap.Adding.{AreFree, part_of}
use Rattle.mc_flow.specs.Heap.Choices.{Choice, input as choose_input, malloc as choose_malloc, shape as choose_shape}
use Rattle.mc_flow.specs.Heap.Heap.{Heap, IsAddress, region_of}
use Rattle.mc_flow.specs.declared.defs.rules.Def.{Def}
use Rattle.mc_flow.specs.Defs.Meaning.{Sat}
use Rattle.mc_flow.specs.Values.{all_there}
use Rattle.mc_c_syntax.specs.declared.ast.trees.Malloc.{Malloc}
use Rattle.mc_c_syntax.specs.declared.ast.trees.Name.{Name}
use Rattle.mc_c_syntax.specs.Ast.Trees.{Left, Expr, Cond, plain, compare, negation, enclosed, both, either, CallTree, Right, expression, result_of, allocation, SimpleTree, assign, add, subtract, increment, decrement, increment_first, decrement_first, call, Stmt, declaration, block, empty, simple, free, assert, assume, assume_shape, assert_shape, assert_empty, if_only, if_else, while_loop, do_loop, for_loop, break_loop, continue_loop, returns, FunctionTree}
use Rattle.mc_c_types.specs.declared.faults.FaultName.TheVariants.{Mismatch}
use Rattle.mc_c_types.specs.Faults.{unless}
use Rattle.mc_c_types.specs.Scopes.{Scope, visible, declare}
use Rattle.mc_c_types.specs.Tables.{Tables, Variable, variable_of, called_function}
use Rattle.mc_semantics.specs.Configs.{Program, Values, Target, perform, declare_all, finish_turn, again, test, always, end_block, end_loop, end_turn, end_call, take_result, Tasks, done, task, Branch, Result}
use Rattle.mc_semantics.specs.Laws.{ValuesAreDetermined}
use Rattle.mc_semantics.specs.Moves.{moved}
use Rattle.mc_semantics.specs.Steps.{where_is, WithValue, Allocates, Arguments, no_arguments, arguments, AfterArguments, Passes, Assigns, Performs, Declares, AddsShape, Assumes, Demands, Asserts, Returns, Tests, Executes, Does, argument_value, predicate_of, simple_place}
use Rattle.mc_semantics.specs.Values.{Here}
use Rattle.mc_semantics.specs.Waiting.Requests.{Request, an_input, an_address, a_shape, IsUnanswered}
use Rattle.mc_semantics.specs.Waiting.Trees.{ValueAsks, ArgumentsAsk, RightAsks, MaybeRightAsks, SimpleAsks, StatementAsks, ConditionAsks, TaskAsks}
use Rattle.mc_semantics.proofs.WaitingLemmas.Deciding.{either_way, StepsOr}
use Rattle.mc_semantics.proofs.WaitingLemmas.Faultless.{IsCalled, RightIsCalled, MaybeIsCalled, SimpleIsCalled, simple_is, item_is, return_is}
use Rattle.mc_semantics.proofs.WaitingLemmas.Fine.{leaves_loop, leaves_turn, AreAround, HasLoop, HasTurn, Fine}
use Rattle.mc_semantics.proofs.WaitingLemmas.Values.{arguments_or, with_value_or, arguments_alone, with_value_alone, with_value_behind}

-- ---- one of the two
module _ (Asks : Request → List Choice → Type 0) where
  pub passes_or : (h : Here) (c : CallTree) (target : Target) (place : Place) (rest : Tasks) (choices : List Choice) → IsCalled h.tables c
      → ((left : List Choice) → ArgumentsAsk h c.arguments choices left → Asks an_input left) → (StepsOr (Passes h c target place rest choices) Asks → ⊥) → ⊥
  passes_or h c target place rest choices called asks k =
      arguments_or h c.arguments choices (λ o. elim o [
        | inl all ↦ (let r = begins all.0 in k (inl (r.0, (all.0, all.1, r.1))))
        | inr w ↦ k (inr (record { request = an_input; left = w.0; asks = asks w.0 w.1; unanswered = w.2 }))
      ])
    where
      begins : (all : Arguments) → (r : Result) × AfterArguments h (called_function h.tables c.function.text) target place rest all r
      begins (no_arguments kind) = (_, refl)
      begins (arguments vs left) = (let P : Option FunctionTree → Type 0 = λ o. (r : Result) × AfterArguments h o target place rest (arguments vs left) r in subst P (sym called.1) (_, refl))

  pub allocates_or : (h : Here) (m : Malloc) (choices : List Choice) (go : ℤ → Heap → List Choice → Result → Type 0) → Asks (an_address h.heap) choices
      → ((v : ℤ) (heap : Heap) (left : List Choice) → (r : Result) × go v heap left r) → (StepsOr (λ r. Allocates h m choices go r) Asks → ⊥) → ⊥
  allocates_or h m [] go asks each k = k (inr (record { request = an_address h.heap; left = []; asks = asks; unanswered = tt }))
  allocates_or h m (choose_input v ∷ choices) go asks each k = k (inr (record { request = an_address h.heap; left = choose_input v ∷ choices; asks = asks; unanswered = λ x. x }))
  allocates_or h m (choose_shape v blocks ∷ choices) go asks each k = k (inr (record { request = an_address h.heap; left = choose_shape v blocks ∷ choices; asks = asks; unanswered = λ x. x }))
  allocates_or h m (choose_malloc zero ∷ choices) go asks each k = k (inl (each (pos 0) h.heap choices))
  allocates_or h m (choose_malloc (suc n) ∷ choices) go asks each k =
      either_way (IsAddress (suc n) × (region_of h.heap (suc n) ≡ None)) (λ d. elim d [
        | inl ok ↦ (let r = each (pos (suc n)) _ choices in k (inl (r.0, (ok.0, ok.1, r.1))))
        | inr isnt ↦ k (inr (record { request = an_address h.heap; left = choose_malloc (suc n) ∷ choices; asks = asks; unanswered = isnt }))
      ])

-- a value, and then a step that is computed of it
value_then : (h : Here) (e : Expr) (place : Place) (choices : List Choice) (go : Option ℤ → List Choice → Result) (Asks : Request → List Choice → Type 0) → ((left : List Choice) → ValueAsks h e choices left → Asks an_input left)
    → (StepsOr (WithValue h e place choices (λ v left r. r ≡ go v left)) Asks → ⊥) → ⊥
value_then h e place choices go Asks asks k = with_value_or h e place choices (λ v left r. r ≡ go v left) Asks asks (λ v rest is stepped. stepped (inl (go v rest, refl))) k

assigns_or : (h : Here) (vs : List Variable) (l : Left) (right : Right) (place : Place) (rest : Tasks) (choices : List Choice) → RightIsCalled h.tables right → (StepsOr (Assigns h vs l right place rest choices) (RightAsks h right choices) → ⊥) → ⊥
assigns_or h vs l (expression e) place rest choices called k = value_then h e place choices _ (RightAsks h (expression e) choices) (λ left asks. (refl, asks)) k
assigns_or h vs l (result_of c) place rest choices called k = passes_or (RightAsks h (result_of c) choices) h c _ place rest choices called (λ left asks. (refl, asks)) k
assigns_or h vs l (allocation m) place rest choices called k = allocates_or (RightAsks h (allocation m) choices) h m choices _ (refl, refl) (λ v heap left. (_, refl)) k

performs_or : (h : Here) (x : SimpleTree) (place : Place) (rest : Tasks) (choices : List Choice) → SimpleIsCalled h.tables x → (StepsOr (Performs h x place rest choices) (SimpleAsks h x choices) → ⊥) → ⊥
performs_or h (assign l right) place rest choices called k = assigns_or h h.variables l right place rest choices called k
performs_or h (add l e) place rest choices called k = value_then h e place choices _ (SimpleAsks h (add l e) choices) (λ left asks. (refl, asks)) k
performs_or h (subtract l e) place rest choices called k = value_then h e place choices _ (SimpleAsks h (subtract l e) choices) (λ left asks. (refl, asks)) k
performs_or h (increment l) place rest choices called k = k (inl (_, refl))
performs_or h (decrement l) place rest choices called k = k (inl (_, refl))
performs_or h (increment_first p l) place rest choices called k = k (inl (_, refl))
performs_or h (decrement_first p l) place rest choices called k = k (inl (_, refl))
performs_or h (call c) place rest choices called k = passes_or (SimpleAsks h (call c) choices) h c _ place rest choices called (λ left asks. (refl, asks)) k

declares_or : (h : Here) (x : Variable) (right : Option Right) (place : Place) (rest : Tasks) (choices : List Choice) → MaybeIsCalled h.tables right → (StepsOr (Declares h x right place rest choices) (MaybeRightAsks h right choices) → ⊥) → ⊥
declares_or h x None place rest choices called k = k (inl (_, refl))
declares_or h x (Some right) place rest choices called k = assigns_or h (x ∷ []) (record { name = record { text = x.name; place = x.place }; fields = [] }) right place rest choices called k

returns_or : (h : Here) (right : Option Right) (rest : Tasks) (place : Place) (choices : List Choice) → MaybeIsCalled h.tables right → (StepsOr (Returns h right rest place choices) (MaybeRightAsks h right choices) → ⊥) → ⊥
returns_or h None rest place choices called k = k (inl (_, refl))
returns_or h (Some (expression e)) rest place choices called k = value_then h e place choices _ (MaybeRightAsks h (Some (expression e)) choices) (λ left asks. (refl, asks)) k
returns_or h (Some (result_of c)) rest place choices called k = passes_or (MaybeRightAsks h (Some (result_of c)) choices) h c _ place rest choices called (λ left asks. (refl, asks)) k
returns_or h (Some (allocation m)) rest place choices called k = allocates_or (MaybeRightAsks h (Some (allocation m)) choices) h m choices _ (refl, refl) (λ v heap left. (_, refl)) k

-- ---- shapes
module _ (defs : List Def) (predicate : Name) (h : Here) (x : Name) (rest : Tasks) (place : Place) where
  adds_or : (args : List ℤ) (choices : List Choice) (Asks : Request → List Choice → Type 0) → Asks (a_shape defs (predicate_of defs predicate) args h.heap) choices
      → (StepsOr (AddsShape defs predicate args h x rest place choices) Asks → ⊥) → ⊥
  adds_or args [] Asks asks k = k (inr (record { request = a_shape defs (predicate_of defs predicate) args h.heap; left = []; asks = asks; unanswered = tt }))
  adds_or args (choose_input v ∷ choices) Asks asks k = k (inr (record { request = a_shape defs (predicate_of defs predicate) args h.heap; left = choose_input v ∷ choices; asks = asks; unanswered = λ y. y }))
  adds_or args (choose_malloc n ∷ choices) Asks asks k = k (inr (record { request = a_shape defs (predicate_of defs predicate) args h.heap; left = choose_malloc n ∷ choices; asks = asks; unanswered = λ y. y }))
  adds_or args (choose_shape v blocks ∷ choices) Asks asks k =
      either_way (AreFree h.heap blocks × Sat defs (predicate_of defs predicate) v args (part_of blocks)) (λ d. elim d [
        | inl ok ↦ k (inl (_, (ok.0, ok.1, refl)))
        | inr isnt ↦ k (inr (record { request = a_shape defs (predicate_of defs predicate) args h.heap; left = choose_shape v blocks ∷ choices; asks = asks; unanswered = isnt }))
      ])

  assumes_or : (choices : List Choice) (o : Option (List ℤ)) (Asks : Request → List Choice → Type 0) → ((args : List ℤ) → o ≡ Some args → Asks (a_shape defs (predicate_of defs predicate) args h.heap) choices)
      → (StepsOr (Assumes defs predicate h x rest place choices o) Asks → ⊥) → ⊥
  assumes_or choices None Asks asks k = k (inl (_, refl))
  assumes_or choices (Some args) Asks asks k = adds_or args choices Asks (asks args refl) k

demands_or : (P : Type 0) (kind : FaultKind) (h : Here) (rest : Tasks) (place : Place) (choices : List Choice) (Asks : Request → List Choice → Type 0) → (StepsOr (Demands P kind h rest place choices) Asks → ⊥) → ⊥
demands_or P kind h rest place choices Asks k = either_way P (λ d. elim d [ inl is ↦ k (inl (_, inl (is, refl))) | inr isnt ↦ k (inl (_, inr (isnt, refl))) ])

asserts_or : (defs : List Def) (predicate : Name) (h : Here) (rest : Tasks) (place : Place) (choices : List Choice) (v : Option ℤ) (args : Option (List ℤ)) (Asks : Request → List Choice → Type 0)
    → (StepsOr (Asserts defs predicate h rest place choices v args) Asks → ⊥) → ⊥
asserts_or defs predicate h rest place choices None args Asks k = k (inl (_, refl))
asserts_or defs predicate h rest place choices (Some v) None Asks k = k (inl (_, refl))
asserts_or defs predicate h rest place choices (Some v) (Some args) Asks k = demands_or _ _ h rest place choices Asks k

-- ---- statements, conditions, tasks
never : {X : Type 0} (x : X) (o : Option X) → o ≡ Some x → o ≡ None → ⊥
never x o some none = (let e : Some x ≡ None = sym some ∙ none in cc)

executes_or : (p : Program) (v : Values) (heap : Heap) (s : Scope) (a : Stmt) (rest : Tasks) (choices : List Choice) → Fine p.tables (task (perform s a) rest) → moved p.tables v (task (perform s a) rest) ≡ None
    → (StepsOr (Executes p.defs (where_is p.tables (visible s) v heap) a rest choices) (StatementAsks p.defs (where_is p.tables (visible s) v heap) a choices) → ⊥) → ⊥
executes_or p v heap s (simple x) rest choices fine stays k = performs_or (where_is p.tables (visible s) v heap) x (simple_place x) rest choices (simple_is p.tables (visible s) x fine.0.2) k
executes_or p v heap s (free at e) rest choices fine stays k = value_then (where_is p.tables (visible s) v heap) e at choices _ (StatementAsks p.defs (where_is p.tables (visible s) v heap) (free at e) choices) (λ left asks. (refl, asks)) k
executes_or p v heap s (assume_shape at predicate x args) rest choices fine stays k =
    assumes_or p.defs predicate (where_is p.tables (visible s) v heap) x rest at choices (all_there (map (argument_value (where_is p.tables (visible s) v heap)) args))
    (StatementAsks p.defs (where_is p.tables (visible s) v heap) (assume_shape at predicate x args) choices) (λ vs e. (vs, e, refl, refl)) k
executes_or p v heap s (assert_shape at predicate a args) rest choices fine stays k = asserts_or p.defs predicate (where_is p.tables (visible s) v heap) rest at choices _ _ _ k
executes_or p v heap s (assert_empty at) rest choices fine stays k = demands_or _ _ (where_is p.tables (visible s) v heap) rest at choices _ k
executes_or p v heap s (returns at right) rest choices fine stays k = returns_or (where_is p.tables (visible s) v heap) right rest at choices (return_is p.tables (visible s) fine.0.0 at right fine.0.2) k
executes_or p v heap s (declaration d) rest choices fine stays k = cc
executes_or p v heap s (block at ss) rest choices fine stays k = cc
executes_or p v heap s (empty at) rest choices fine stays k = cc
executes_or p v heap s (assert at c) rest choices fine stays k = cc
executes_or p v heap s (assume at c) rest choices fine stays k = cc
executes_or p v heap s (if_only at c a) rest choices fine stays k = cc
executes_or p v heap s (if_else at c a b) rest choices fine stays k = cc
executes_or p v heap s (while_loop at c a) rest choices fine stays k = cc
executes_or p v heap s (do_loop at a c) rest choices fine stays k = cc
executes_or p v heap s (for_loop head a) rest choices fine stays k = cc
executes_or p v heap s (break_loop at) rest choices fine stays k = (let around = around_it fine.0.1 fine.0.2 fine.0.3 in let there = leaves_loop v rest around in never there.0 _ there.1 stays)
  where
    around_it : (b : Bool) → unless b Mismatch at ≡ [] → AreAround b rest → HasLoop rest
    around_it true e h = h.0
    around_it false e h = cc
executes_or p v heap s (continue_loop at) rest choices fine stays k = (let around = around_it fine.0.1 fine.0.2 fine.0.3 in let there = leaves_turn v rest around in never there.0 _ there.1 stays)
  where
    around_it : (b : Bool) → unless b Mismatch at ≡ [] → AreAround b rest → HasTurn rest
    around_it true e h = h.1
    around_it false e h = cc

tests_or : (t : Tables) (vs : List Variable) (v : Values) (heap : Heap) (c : Cond) (a b : Branch) (rest : Tasks) (choices : List Choice) → moved t v (task (test vs c a b) rest) ≡ None
    → (StepsOr (Tests (where_is t vs v heap) c a b choices) (ConditionAsks (where_is t vs v heap) c choices) → ⊥) → ⊥
tests_or t vs v heap (plain e) a b rest choices stays k = value_then (where_is t vs v heap) e _ choices _ (ConditionAsks (where_is t vs v heap) (plain e) choices) (λ left asks. (refl, asks)) k
tests_or t vs v heap (compare c x y) a b rest choices stays k =
    with_value_or (where_is t vs v heap) x _ choices _ (ConditionAsks (where_is t vs v heap) (compare c x y) choices) (λ left asks. (refl, inl asks))
    (λ w more is stepped. value_then (where_is t vs v heap) y _ more _ (ConditionAsks (where_is t vs v heap) (compare c x y) choices) (λ left asks. (refl, inr (w, more, is, asks))) stepped) k
tests_or t vs v heap (negation p c) a b rest choices stays k = cc
tests_or t vs v heap (enclosed p c) a b rest choices stays k = cc
tests_or t vs v heap (both c d) a b rest choices stays k = cc
tests_or t vs v heap (either c d) a b rest choices stays k = cc

again_never : (t : Tables) (s : Scope) (v : Values) (a : Stmt) (rest : Tasks) → Fine t (task (again s a) rest) → moved t v (task (again s a) rest) ≡ None → ⊥
again_never t s v (while_loop p c a) rest fine stays = cc
again_never t s v (do_loop p a c) rest fine stays = cc
again_never t s v (for_loop h a) rest fine stays = cc
again_never t s v (declaration d) rest fine stays = absurd fine.0.0
again_never t s v (block p ss) rest fine stays = absurd fine.0.0
again_never t s v (empty p) rest fine stays = absurd fine.0.0
again_never t s v (simple x) rest fine stays = absurd fine.0.0
again_never t s v (free p e) rest fine stays = absurd fine.0.0
again_never t s v (assert p c) rest fine stays = absurd fine.0.0
again_never t s v (assume p c) rest fine stays = absurd fine.0.0
again_never t s v (assume_shape p predicate x args) rest fine stays = absurd fine.0.0
again_never t s v (assert_shape p predicate a args) rest fine stays = absurd fine.0.0
again_never t s v (assert_empty p) rest fine stays = absurd fine.0.0
again_never t s v (if_only p c a) rest fine stays = absurd fine.0.0
again_never t s v (if_else p c a b) rest fine stays = absurd fine.0.0
again_never t s v (break_loop p) rest fine stays = absurd fine.0.0
again_never t s v (continue_loop p) rest fine stays = absurd fine.0.0
again_never t s v (returns p r) rest fine stays = absurd fine.0.0

pub does_or : (p : Program) (v : Values) (heap : Heap) (ts : Tasks) (choices : List Choice) → Fine p.tables ts → moved p.tables v ts ≡ None
    → (StepsOr (Does p v heap ts choices) (TaskAsks p v heap ts choices) → ⊥) → ⊥
does_or p v heap done choices fine stays k = k (inl (_, refl))
does_or p v heap (task (perform s a) rest) choices fine stays k = executes_or p v heap s a rest choices fine stays k
does_or p v heap (task (declare_all s place base []) rest) choices fine stays k = cc
does_or p v heap (task (declare_all s place base (item ∷ items)) rest) choices fine stays k =
    (let x = variable_of p.tables base item.declarator in
    declares_or (where_is p.tables (visible (declare s x)) v heap) x item.value place (task (declare_all (declare s x) place base items) rest) choices (item_is p.tables base s item items fine.0) k)
does_or p v heap (task (finish_turn vs x) rest) choices fine stays k = performs_or (where_is p.tables vs v heap) x (simple_place x) rest choices (simple_is p.tables vs x fine.0) k
does_or p v heap (task (again s a) rest) choices fine stays k = again_never p.tables s v a rest fine stays
does_or p v heap (task (test vs c a b) rest) choices fine stays k = tests_or p.tables vs v heap c a b rest choices stays k
does_or p v heap (task (always go) rest) choices fine stays k = k (inl (_, refl))
does_or p v heap (task (end_block vs) rest) choices fine stays k = cc
does_or p v heap (task (end_loop vs) rest) choices fine stays k = cc
does_or p v heap (task end_turn rest) choices fine stays k = cc
does_or p v heap (task (end_call saved target) rest) choices fine stays k = cc
does_or p v heap (task (take_result target w) rest) choices fine stays k = k (inl (_, refl))

-- ---- never both
-- what is asked for is unanswered, where it is this
unanswered_by : (request wanted : Request) (left choices : List Choice) → request ≡ wanted → IsUnanswered request left → IsUnanswered wanted left
unanswered_by request wanted left choices e w = (let P : Request → Type 0 = λ q. IsUnanswered q left in subst P e w)

allocates_alone : (h : Here) (m : Malloc) (choices left : List Choice) (go : ℤ → Heap → List Choice → Result → Type 0) (r : Result) → IsUnanswered (an_address h.heap) left → left ≡ choices → Allocates h m choices go r → ⊥
allocates_alone h m choices left go r w e is = (let P : List Choice → Type 0 = λ l. IsUnanswered (an_address h.heap) l in answered choices is (subst P e w))
  where
    answered : (all : List Choice) → Allocates h m all go r → IsUnanswered (an_address h.heap) all → ⊥
    answered [] i u = i
    answered (choose_input v ∷ rest) i u = i
    answered (choose_shape v blocks ∷ rest) i u = i
    answered (choose_malloc zero ∷ rest) i u = u tt
    answered (choose_malloc (suc n) ∷ rest) i u = u (i.0, i.1)

module _ (same : ValuesAreDetermined) (request : Request) (left : List Choice) (w : IsUnanswered request left) where
  input_left : request ≡ an_input → IsUnanswered an_input left
  input_left e = unanswered_by request an_input left left e w

  assigns_alone : (h : Here) (vs : List Variable) (l : Left) (right : Right) (place : Place) (rest : Tasks) (choices : List Choice) (r : Result) → Assigns h vs l right place rest choices r → RightAsks h right choices request left → ⊥
  assigns_alone h vs l (expression e) place rest choices r is asks = with_value_alone same h e place choices left _ r (input_left asks.0) is asks.1
  assigns_alone h vs l (result_of c) place rest choices r is asks = arguments_alone same h c.arguments choices left is.0 (input_left asks.0) is.1 asks.1
  assigns_alone h vs l (allocation m) place rest choices r is asks = allocates_alone h m choices left _ r (unanswered_by request (an_address h.heap) left left asks.0 w) asks.1 is

  performs_alone : (h : Here) (x : SimpleTree) (place : Place) (rest : Tasks) (choices : List Choice) (r : Result) → Performs h x place rest choices r → SimpleAsks h x choices request left → ⊥
  performs_alone h (assign l right) place rest choices r is asks = assigns_alone h h.variables l right place rest choices r is asks
  performs_alone h (add l e) place rest choices r is asks = with_value_alone same h e place choices left _ r (input_left asks.0) is asks.1
  performs_alone h (subtract l e) place rest choices r is asks = with_value_alone same h e place choices left _ r (input_left asks.0) is asks.1
  performs_alone h (increment l) place rest choices r is asks = asks
  performs_alone h (decrement l) place rest choices r is asks = asks
  performs_alone h (increment_first p l) place rest choices r is asks = asks
  performs_alone h (decrement_first p l) place rest choices r is asks = asks
  performs_alone h (call c) place rest choices r is asks = arguments_alone same h c.arguments choices left is.0 (input_left asks.0) is.1 asks.1

  declares_alone : (h : Here) (x : Variable) (right : Option Right) (place : Place) (rest : Tasks) (choices : List Choice) (r : Result) → Declares h x right place rest choices r → MaybeRightAsks h right choices request left → ⊥
  declares_alone h x None place rest choices r is asks = asks
  declares_alone h x (Some right) place rest choices r is asks = assigns_alone h (x ∷ []) (record { name = record { text = x.name; place = x.place }; fields = [] }) right place rest choices r is asks

  returns_alone : (h : Here) (right : Option Right) (rest : Tasks) (place : Place) (choices : List Choice) (r : Result) → Returns h right rest place choices r → MaybeRightAsks h right choices request left → ⊥
  returns_alone h None rest place choices r is asks = asks
  returns_alone h (Some (expression e)) rest place choices r is asks = with_value_alone same h e place choices left _ r (input_left asks.0) is asks.1
  returns_alone h (Some (result_of c)) rest place choices r is asks = arguments_alone same h c.arguments choices left is.0 (input_left asks.0) is.1 asks.1
  returns_alone h (Some (allocation m)) rest place choices r is asks = allocates_alone h m choices left _ r (unanswered_by request (an_address h.heap) left left asks.0 w) asks.1 is

  adds_alone : (defs : List Def) (predicate : Name) (args : List ℤ) (h : Here) (x : Name) (rest : Tasks) (place : Place) (choices : List Choice) (r : Result) → request ≡ a_shape defs (predicate_of defs predicate) args h.heap → left ≡ choices
      → AddsShape defs predicate args h x rest place choices r → ⊥
  adds_alone defs predicate args h x rest place choices r e same_left is =
      (let P : List Choice → Type 0 = λ l. IsUnanswered (a_shape defs (predicate_of defs predicate) args h.heap) l in answered choices is (subst P same_left (unanswered_by request _ left left e w)))
    where
      answered : (all : List Choice) → AddsShape defs predicate args h x rest place all r → IsUnanswered (a_shape defs (predicate_of defs predicate) args h.heap) all → ⊥
      answered [] i u = i
      answered (choose_input v ∷ others) i u = i
      answered (choose_malloc n ∷ others) i u = i
      answered (choose_shape v blocks ∷ others) i u = u (i.0, i.1)

  executes_alone : (defs : List Def) (h : Here) (a : Stmt) (rest : Tasks) (choices : List Choice) (r : Result) → Executes defs h a rest choices r → StatementAsks defs h a choices request left → ⊥
  executes_alone defs h (simple x) rest choices r is asks = performs_alone h x (simple_place x) rest choices r is asks
  executes_alone defs h (free p e) rest choices r is asks = with_value_alone same h e p choices left _ r (input_left asks.0) is asks.1
  executes_alone defs h (assume_shape p predicate x args) rest choices r is asks =
      (let P : Option (List ℤ) → Type 0 = λ o. Assumes defs predicate h x rest p choices o r in adds_alone defs predicate asks.0 h x rest p choices r asks.2 asks.3 (subst P asks.1 is))
  executes_alone defs h (assert_shape p predicate a args) rest choices r is asks = asks
  executes_alone defs h (assert_empty p) rest choices r is asks = asks
  executes_alone defs h (returns p right) rest choices r is asks = returns_alone h right rest p choices r is asks
  executes_alone defs h (declaration d) rest choices r is asks = asks
  executes_alone defs h (block p ss) rest choices r is asks = asks
  executes_alone defs h (empty p) rest choices r is asks = asks
  executes_alone defs h (assert p c) rest choices r is asks = asks
  executes_alone defs h (assume p c) rest choices r is asks = asks
  executes_alone defs h (if_only p c a) rest choices r is asks = asks
  executes_alone defs h (if_else p c a b) rest choices r is asks = asks
  executes_alone defs h (while_loop p c a) rest choices r is asks = asks
  executes_alone defs h (do_loop p a c) rest choices r is asks = asks
  executes_alone defs h (for_loop head a) rest choices r is asks = asks
  executes_alone defs h (break_loop p) rest choices r is asks = asks
  executes_alone defs h (continue_loop p) rest choices r is asks = asks

  tests_alone : (h : Here) (c : Cond) (a b : Branch) (choices : List Choice) (r : Result) → Tests h c a b choices r → ConditionAsks h c choices request left → ⊥
  tests_alone h (plain e) a b choices r is asks = with_value_alone same h e _ choices left _ r (input_left asks.0) is asks.1
  tests_alone h (compare c x y) a b choices r is asks = elim asks.1 [
    | inl one ↦ with_value_alone same h x _ choices left _ r (input_left asks.0) is one
    | inr other ↦ with_value_alone same h y _ other.1 left _ r (input_left asks.0) (with_value_behind same h x _ choices _ r other.0 other.1 is other.2) other.3
  ]
  tests_alone h (negation p c) a b choices r is asks = asks
  tests_alone h (enclosed p c) a b choices r is asks = asks
  tests_alone h (both c d) a b choices r is asks = asks
  tests_alone h (either c d) a b choices r is asks = asks

  pub does_alone : (p : Program) (v : Values) (heap : Heap) (ts : Tasks) (choices : List Choice) (r : Result) → Does p v heap ts choices r → TaskAsks p v heap ts choices request left → ⊥
  does_alone p v heap done choices r is asks = asks
  does_alone p v heap (task (perform s a) rest) choices r is asks = executes_alone p.defs (where_is p.tables (visible s) v heap) a rest choices r is asks
  does_alone p v heap (task (declare_all s place base []) rest) choices r is asks = asks
  does_alone p v heap (task (declare_all s place base (item ∷ items)) rest) choices r is asks =
      (let x = variable_of p.tables base item.declarator in
      declares_alone (where_is p.tables (visible (declare s x)) v heap) x item.value place (task (declare_all (declare s x) place base items) rest) choices r is asks)
  does_alone p v heap (task (finish_turn vs x) rest) choices r is asks = performs_alone (where_is p.tables vs v heap) x (simple_place x) rest choices r is asks
  does_alone p v heap (task (again s a) rest) choices r is asks = asks
  does_alone p v heap (task (test vs c a b) rest) choices r is asks = tests_alone (where_is p.tables vs v heap) c a b choices r is asks
  does_alone p v heap (task (always go) rest) choices r is asks = asks
  does_alone p v heap (task (end_block vs) rest) choices r is asks = asks
  does_alone p v heap (task (end_loop vs) rest) choices r is asks = asks
  does_alone p v heap (task end_turn rest) choices r is asks = asks
  does_alone p v heap (task (end_call saved target) rest) choices r is asks = asks
  does_alone p v heap (task (take_result target v2) rest) choices r is asks = asks
