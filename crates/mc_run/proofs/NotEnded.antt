-- A step ends the run with no stop and no fault only where nothing is left to do.
use Rattle.std.proofs.Common.{◌≡◌, inl, inr, zero, suc, ℕ, ℤ, pos, List, [], ◌∷◌, Bool, true, false, Option, Some, None, refl, map}
use Rattle.std.specs.Prelude.{slice_get}
use Rattle.mc_base.specs.declared.plain.FaultKind.{FaultKind}
use Rattle.mc_flow.specs.Runs.{last, ended}
use Rattle.mc_base.specs.declared.text.place.Place.{Place}
use Rattle.mc_flow.specs.Heap.Heap.{Heap}
use Rattle.mc_flow.specs.Heap.Adding.{with_blocks}
use Rattle.mc_c_syntax.specs.declared.ast.trees.Comparison.TheVariants.{Unequal}
use Rattle.mc_flow.specs.Heap.Choices.{Choice, input as choose_input, malloc as choose_malloc, shape as choose_shape}
use Rattle.mc_flow.specs.declared.defs.rules.Def.{Def}
use Rattle.mc_base.specs.declared.ids.PredId.{PredId}
use Rattle.mc_c_syntax.specs.declared.ast.trees.Comparison.{Comparison}
use Rattle.mc_flow.specs.Values.{all_there}
use Rattle.mc_semantics.specs.Values.{Evaluated, fault_of, value_of}
use Rattle.mc_semantics.specs.Steps.{Arguments, no_arguments, arguments, compares}
use Rattle.mc_semantics.specs.Resolved.Programs.{Left, Cond, plain, compare, negation, both, either, Call, Right, expression, result_of, allocation, Action, assign, add, subtract, call}
use Rattle.mc_semantics.specs.Resolved.Programs.{Initial, Stmt, declaration, block, empty, simple, free, assert, assume, assume_shape, assert_shape, assert_empty}
use Rattle.mc_semantics.specs.Resolved.Programs.{if_only, if_else, while_loop, do_loop, for_loop, break_loop, continue_loop, returns, Function, Program}
use Rattle.mc_semantics.specs.Resolved.Configs.{Target, nowhere, stored, returned, perform, again, test, always, end_block, end_loop, end_turn, end_call, take_result, Tasks, done, task, Branch, go_on, fails, stops, Result}
use Rattle.mc_semantics.specs.Resolved.Values.{Changed, fault_in, changed, set_variable}
use Rattle.mc_semantics.specs.Resolved.Steps.{Here, after, AfterValue, Allocates, AfterArguments, Passes, begun, Assigns, Performs, Declares, AddsShape, Assumes, Demands, Asserts, returned_value, Returns, led, decided, compared, Tests, Executes, Does, argument_value, taken}

after_on : (tasks : Tasks) (place : Place) (choices : List Choice) (made : Changed) → last ended ≡ after tasks place choices made → ⊥
after_on tasks place choices (fault_in kind) e = cc
after_on tasks place choices (changed values heap) e = cc

value_on : (place : Place) (go : Option ℤ → List Choice → Result → Type 0) (one : Evaluated) → ((v : Option ℤ) (left : List Choice) → go v left (last ended) → ⊥) → AfterValue place go one (last ended) → ⊥
value_on place go (fault_of kind) each e = cc
value_on place go (value_of v left) each e = each v left e

begun_on : (h : Here) (f : Function) (target : Target) (place : Place) (rest : Tasks) (choices : List Choice) (vs : Option (List ℤ)) → last ended ≡ begun h f target place rest choices vs → ⊥
begun_on h f target place rest choices None e = cc
begun_on h f target place rest choices (Some vs) e = cc

arguments_on : (h : Here) (f : Option Function) (target : Target) (place : Place) (rest : Tasks) (all : Arguments) → AfterArguments h f target place rest all (last ended) → ⊥
arguments_on h f target place rest (no_arguments kind) e = cc
arguments_on h None target place rest (arguments vs choices) e = e
arguments_on h (Some f) target place rest (arguments vs choices) e = begun_on h f target place rest choices (all_there vs) e

passes_on : (p : Program) (h : Here) (c : Call) (target : Target) (place : Place) (rest : Tasks) (choices : List Choice) → Passes p h c target place rest choices (last ended) → ⊥
passes_on p h c target place rest choices is = arguments_on h (slice_get p.functions c.function) target place rest is.0 is.2

allocates_on : (heap : Heap) (shape fields : ℕ) (choices : List Choice) (go : ℤ → Heap → List Choice → Result → Type 0) → ((v : ℤ) (made : Heap) (left : List Choice) → go v made left (last ended) → ⊥)
    → Allocates heap shape fields choices go (last ended) → ⊥
allocates_on heap shape fields [] go each is = is
allocates_on heap shape fields (choose_input v ∷ choices) go each is = is
allocates_on heap shape fields (choose_shape v blocks ∷ choices) go each is = is
allocates_on heap shape fields (choose_malloc zero ∷ choices) go each is = each _ _ _ is
allocates_on heap shape fields (choose_malloc (suc n) ∷ choices) go each is = each _ _ _ is.2

assigns_on : (p : Program) (h : Here) (l : Left) (right : Right) (place : Place) (rest : Tasks) (choices : List Choice) → Assigns p h l right place rest choices (last ended) → ⊥
assigns_on p h l (expression e) place rest choices is = value_on place _ is.0 (λ v left same. after_on rest place left _ same) is.2
assigns_on p h l (result_of c) place rest choices is = passes_on p h c (stored l place) place rest choices is
assigns_on p h l (allocation shape fields) place rest choices is = allocates_on h.heap shape fields choices _ (λ v made left same. after_on rest place left _ same) is

performs_on : (p : Program) (h : Here) (a : Action) (place : Place) (rest : Tasks) (choices : List Choice) → Performs p h a place rest choices (last ended) → ⊥
performs_on p h (assign l right) place rest choices is = assigns_on p h l right place rest choices is
performs_on p h (add l e) place rest choices is = value_on place _ is.0 (λ v left same. after_on rest place left _ same) is.2
performs_on p h (subtract l e) place rest choices is = value_on place _ is.0 (λ v left same. after_on rest place left _ same) is.2
performs_on p h (call c) place rest choices is = passes_on p h c nowhere place rest choices is

declares_on : (p : Program) (h : Here) (x : Initial) (place : Place) (rest : Tasks) (choices : List Choice) (right : Option Right) → Declares p h x place rest choices right (last ended) → ⊥
declares_on p h x place rest choices None is = cc
declares_on p h x place rest choices (Some right) is = assigns_on p h (record { variable = x.variable; fields = [] }) right place rest choices is

adds_on : (defs : List Def) (predicate : PredId) (args : List ℤ) (h : Here) (x : ℕ) (rest : Tasks) (place : Place) (choices : List Choice) → AddsShape defs predicate args h x rest place choices (last ended) → ⊥
adds_on defs predicate args h x rest place [] is = is
adds_on defs predicate args h x rest place (choose_input v ∷ choices) is = is
adds_on defs predicate args h x rest place (choose_malloc n ∷ choices) is = is
adds_on defs predicate args h x rest place (choose_shape v blocks ∷ choices) is = after_on rest place choices (set_variable h.values (with_blocks h.heap blocks) x (Some v)) is.2

assumes_on : (defs : List Def) (predicate : PredId) (h : Here) (x : ℕ) (rest : Tasks) (place : Place) (choices : List Choice) (args : Option (List ℤ)) → Assumes defs predicate h x rest place choices args (last ended) → ⊥
assumes_on defs predicate h x rest place choices None is = cc
assumes_on defs predicate h x rest place choices (Some args) is = adds_on defs predicate args h x rest place choices is

demands_on : (P : Type 0) (kind : FaultKind) (h : Here) (rest : Tasks) (place : Place) (choices : List Choice) → Demands P kind h rest place choices (last ended) → ⊥
demands_on P kind h rest place choices (inl is) = after_on rest place choices (changed h.values h.heap) is.1
demands_on P kind h rest place choices (inr is) = (let e = is.1 in cc)

asserts_on : (defs : List Def) (predicate : PredId) (h : Here) (rest : Tasks) (place : Place) (choices : List Choice) (v : Option ℤ) (args : Option (List ℤ)) → Asserts defs predicate h rest place choices v args (last ended) → ⊥
asserts_on defs predicate h rest place choices None args is = cc
asserts_on defs predicate h rest place choices (Some v) None is = cc
asserts_on defs predicate h rest place choices (Some v) (Some args) is = demands_on _ _ h rest place choices is

returned_on : (heap : Heap) (rest : Tasks) (place : Place) (choices : List Choice) (v : Option ℤ) → last ended ≡ returned_value heap rest place choices v → ⊥
returned_on heap rest place choices None e = cc
returned_on heap rest place choices (Some v) e = cc

returns_on : (p : Program) (h : Here) (right : Option Right) (rest : Tasks) (place : Place) (choices : List Choice) → Returns p h right rest place choices (last ended) → ⊥
returns_on p h None rest place choices is = cc
returns_on p h (Some (expression e)) rest place choices is = value_on place _ is.0 (λ v left same. returned_on h.heap rest place left v same) is.2
returns_on p h (Some (result_of c)) rest place choices is = passes_on p h c (returned place) place rest choices is
returns_on p h (Some (allocation shape fields)) rest place choices is = allocates_on h.heap shape fields choices _ (λ v made left same. cc) is

executes_on : (p : Program) (h : Here) (a : Stmt) (rest : Tasks) (choices : List Choice) → Executes p h a rest choices (last ended) → ⊥
executes_on p h (declaration place []) rest choices is = is
executes_on p h (declaration place (x ∷ xs)) rest choices is = declares_on p h x place _ choices x.value is
executes_on p h (simple x) rest choices is = performs_on p h x.action x.place rest choices is
executes_on p h (free place e) rest choices is = value_on place _ is.0 (λ v left same. after_on rest place left _ same) is.2
executes_on p h (assume_shape place predicate x args) rest choices is = assumes_on p.defs predicate h x rest place choices (all_there (map (argument_value h.values) args)) is
executes_on p h (assert_shape place predicate a args) rest choices is = asserts_on p.defs predicate h rest place choices (argument_value h.values a) (all_there (map (argument_value h.values) args)) is
executes_on p h (assert_empty place) rest choices is = demands_on _ _ h rest place choices is
executes_on p h (returns place right) rest choices is = returns_on p h right rest place choices is
executes_on p h (block xs ss) rest choices is = is
executes_on p h empty rest choices is = is
executes_on p h (assert place c) rest choices is = is
executes_on p h (assume place c) rest choices is = is
executes_on p h (if_only place c a) rest choices is = is
executes_on p h (if_else place c a b) rest choices is = is
executes_on p h (while_loop place c a) rest choices is = is
executes_on p h (do_loop place a c) rest choices is = is
executes_on p h (for_loop head a) rest choices is = is
executes_on p h (break_loop place) rest choices is = is
executes_on p h (continue_loop place) rest choices is = is

led_on : (h : Here) (b : Branch) (choices : List Choice) → last ended ≡ led h b choices → ⊥
led_on h (go_on tasks) choices e = cc
led_on h (fails place) choices e = cc
led_on h stops choices e = cc

decided_on : (h : Here) (a b : Branch) (choices : List Choice) (holds : Bool) → last ended ≡ decided h a b choices holds → ⊥
decided_on h a b choices true e = led_on h a choices e
decided_on h a b choices false e = led_on h b choices e

compared_on : (h : Here) (c : Comparison) (a b : Branch) (place : Place) (x y : Option ℤ) (choices : List Choice) → last ended ≡ compared h c a b place x y choices → ⊥
compared_on h c a b place None y choices e = cc
compared_on h c a b place (Some x) None choices e = cc
compared_on h c a b place (Some x) (Some y) choices e = decided_on h a b choices (compares c x y) e

tests_on : (h : Here) (c : Cond) (a b : Branch) (choices : List Choice) → Tests h c a b choices (last ended) → ⊥
tests_on h (plain p e) a b choices is = value_on p _ is.0 (λ v left same. compared_on h Unequal a b p v (Some (pos 0)) left same) is.2
tests_on h (compare p c x y) a b choices is = value_on p _ is.0 (λ v left more. value_on p _ more.0 (λ w last_left same. compared_on h c a b p v w last_left same) more.2) is.2
tests_on h (negation c) a b choices is = is
tests_on h (both c d) a b choices is = is
tests_on h (either c d) a b choices is = is

taken_on : (h : Here) (target : Target) (v : Option ℤ) (rest : Tasks) (choices : List Choice) → last ended ≡ taken h target v rest choices → ⊥
taken_on h nowhere v rest choices e = cc
taken_on h (stored l place) v rest choices e = after_on rest place choices _ e
taken_on h (returned place) v rest choices e = returned_on h.heap rest place choices v e

pub only_done : (p : Program) (h : Here) (tasks : Tasks) (choices : List Choice) → Does p h tasks choices (last ended) → tasks ≡ done
only_done p h done choices is = refl
only_done p h (task (perform a) rest) choices is = absurd (executes_on p h a rest choices is)
only_done p h (task (again c a ends) rest) choices is = absurd is
only_done p h (task (test c a b) rest) choices is = absurd (tests_on h c a b choices is)
only_done p h (task (always go) rest) choices is = cc
only_done p h (task (end_block xs) rest) choices is = absurd is
only_done p h (task (end_loop xs) rest) choices is = absurd is
only_done p h (task end_turn rest) choices is = absurd is
only_done p h (task (end_call saved target) rest) choices is = absurd is
only_done p h (task (take_result target v) rest) choices is = absurd (taken_on h target v rest choices is)
