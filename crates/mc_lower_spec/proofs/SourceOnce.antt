-- Steps of resolved programs are determined by their choices.
use Rattle.std.proofs.Common.{◌≡◌, ℕ, zero, suc, ℤ, List, [], ◌∷◌, Option, Some, None, refl, ap, sym, ◌∙◌, subst, inl, inr}
use Rattle.std.specs.Prelude.{slice_get}
use Rattle.mc_base.specs.declared.ids.PredId.{PredId}
use Rattle.mc_base.specs.declared.plain.FaultKind.{FaultKind}
use Rattle.mc_base.specs.declared.text.place.Place.{Place}
use Rattle.mc_flow.specs.Heap.Heap.{Heap}
use Rattle.mc_flow.specs.Heap.Choices.{Choice, input as choose_input, malloc as choose_malloc, shape as choose_shape}
use Rattle.mc_flow.specs.declared.defs.rules.Def.{Def}
use Rattle.mc_semantics.specs.Values.{Evaluated, fault_of, value_of}
use Rattle.mc_semantics.specs.Steps.{Arguments, no_arguments, arguments}
use Rattle.mc_semantics.specs.Resolved.Programs.{Left, Expr, value, Cond, plain, compare, negation, both, either, Call, Right, expression, result_of, allocation, Action, assign, add, subtract, call, Initial}
use Rattle.mc_semantics.specs.Resolved.Programs.{Stmt, declaration, block, empty, simple, free, assert, assume, assume_shape, assert_shape, assert_empty, if_only, if_else, while_loop, do_loop, for_loop, break_loop, continue_loop, returns, Function, Program}
use Rattle.mc_semantics.specs.Resolved.Configs.{Values, Target, perform, again, test, always, end_block, end_loop, end_turn, end_call, take_result, Tasks, done, task, Branch, Config, Result}
use Rattle.mc_semantics.specs.Resolved.Moves.{Arrives, here, there}
use Rattle.mc_semantics.specs.Resolved.Steps.{Here, AfterValue, WithValue, Allocates, AfterArguments, Passes, Assigns, Performs, Declares, DeclaresFirst, AddsShape, Assumes, Demands, Asserts, Returns, Tests, Executes, Does, Step}
use Rattle.mc_semantics.proofs.Determined.{IsDetermined, joined, first_of, second_of, never_both}
use Rattle.mc_semantics.proofs.ResolvedLemmas.Values.{one_value, all_values}
use Rattle.mc_lower_spec.proofs.Simulating.{IsOnce}

after_value : (place : Place) (go : Option ℤ → List Choice → Result → Type 0) (one : Evaluated) → ((v : Option ℤ) (left : List Choice) → IsDetermined (go v left)) → IsDetermined (AfterValue place go one)
after_value place go (fault_of kind) same r s i j = joined i j
after_value place go (value_of v choices) same r s i j = same v choices r s i j

pub with_value : (h : Here) (e : Expr) (place : Place) (choices : List Choice) (go : Option ℤ → List Choice → Result → Type 0) → ((v : Option ℤ) (left : List Choice) → IsDetermined (go v left)) → IsDetermined (WithValue h e place choices go)
with_value h e place choices go same r s (x, is, rest) (y, is', rest') =
    after_value place go x same r s rest (subst (λ z. AfterValue place go z s) (sym (one_value h.values h.heap e choices x y is is')) rest')

allocates : (h : Heap) (shape fields : ℕ) (choices : List Choice) (go : ℤ → Heap → List Choice → Result → Type 0) → ((v : ℤ) (heap : Heap) (left : List Choice) → IsDetermined (go v heap left)) → IsDetermined (Allocates h shape fields choices go)
allocates h shape fields [] go same r s i j = elim i [ ]
allocates h shape fields (choose_input v ∷ choices) go same r s i j = elim i [ ]
allocates h shape fields (choose_shape v blocks ∷ choices) go same r s i j = elim i [ ]
allocates h shape fields (choose_malloc zero ∷ choices) go same r s i j = same _ _ _ r s i j
allocates h shape fields (choose_malloc (suc n) ∷ choices) go same r s (a, b, i) (c, d, j) = same _ _ _ r s i j

after_arguments : (h : Here) (f : Option Function) (target : Target) (place : Place) (rest : Tasks) (all : Arguments) → IsDetermined (AfterArguments h f target place rest all)
after_arguments h f target place rest (no_arguments kind) r s i j = joined i j
after_arguments h None target place rest (arguments vs choices) r s i j = elim i [ ]
after_arguments h (Some f) target place rest (arguments vs choices) r s i j = joined i j

passes : (p : Program) (h : Here) (c : Call) (target : Target) (place : Place) (rest : Tasks) (choices : List Choice) → IsDetermined (Passes p h c target place rest choices)
passes p h c target place rest choices r s (x, is, i) (y, is', j) =
    after_arguments h (slice_get p.functions c.function) target place rest x r s i
    (subst (λ z. AfterArguments h (slice_get p.functions c.function) target place rest z s) (sym (all_values h c.arguments choices x y is is')) j)

assigns : (p : Program) (h : Here) (l : Left) (right : Right) (place : Place) (rest : Tasks) (choices : List Choice) → IsDetermined (Assigns p h l right place rest choices)
assigns p h l (expression e) place rest choices = with_value h e place choices _ (λ v left r s i j. joined i j)
assigns p h l (result_of c) place rest choices = passes p h c _ place rest choices
assigns p h l (allocation shape fields) place rest choices = allocates h.heap shape fields choices _ (λ v heap left r s i j. joined i j)

performs : (p : Program) (h : Here) (x : Action) (place : Place) (rest : Tasks) (choices : List Choice) → IsDetermined (Performs p h x place rest choices)
performs p h (assign l right) place rest choices = assigns p h l right place rest choices
performs p h (add l e) place rest choices = with_value h e place choices _ (λ v left r s i j. joined i j)
performs p h (subtract l e) place rest choices = with_value h e place choices _ (λ v left r s i j. joined i j)
performs p h (call c) place rest choices = passes p h c _ place rest choices

declares : (p : Program) (h : Here) (x : Initial) (place : Place) (rest : Tasks) (choices : List Choice) (right : Option Right) → IsDetermined (Declares p h x place rest choices right)
declares p h x place rest choices None = λ r s i j. joined i j
declares p h x place rest choices (Some right) = assigns p h (record { variable = x.variable; fields = [] }) right place rest choices

declares_first : (p : Program) (h : Here) (xs : List Initial) (place : Place) (rest : Tasks) (choices : List Choice) → IsDetermined (DeclaresFirst p h xs place rest choices)
declares_first p h [] place rest choices = λ r s i j. elim i [ ]
declares_first p h (x ∷ xs) place rest choices = declares p h x place (task (perform (declaration place xs)) rest) choices x.value

adds_shape : (defs : List Def) (predicate : PredId) (args : List ℤ) (h : Here) (x : ℕ) (rest : Tasks) (place : Place) (choices : List Choice) → IsDetermined (AddsShape defs predicate args h x rest place choices)
adds_shape defs predicate args h x rest place [] r s i j = elim i [ ]
adds_shape defs predicate args h x rest place (choose_input v ∷ choices) r s i j = elim i [ ]
adds_shape defs predicate args h x rest place (choose_malloc n ∷ choices) r s i j = elim i [ ]
adds_shape defs predicate args h x rest place (choose_shape v blocks ∷ choices) r s (a, b, i) (c, d, j) = joined i j

assumes : (defs : List Def) (predicate : PredId) (h : Here) (x : ℕ) (rest : Tasks) (place : Place) (choices : List Choice) (args : Option (List ℤ)) → IsDetermined (Assumes defs predicate h x rest place choices args)
assumes defs predicate h x rest place choices None = λ r s i j. joined i j
assumes defs predicate h x rest place choices (Some args) = adds_shape defs predicate args h x rest place choices

demands : (P : Type 0) (kind : FaultKind) (h : Here) (rest : Tasks) (place : Place) (choices : List Choice) → IsDetermined (Demands P kind h rest place choices)
demands P kind h rest place choices r s (inl i) (inl j) = joined i.1 j.1
demands P kind h rest place choices r s (inl i) (inr j) = absurd (j.0 i.0)
demands P kind h rest place choices r s (inr i) (inl j) = absurd (i.0 j.0)
demands P kind h rest place choices r s (inr i) (inr j) = joined i.1 j.1

asserts : (defs : List Def) (predicate : PredId) (h : Here) (rest : Tasks) (place : Place) (choices : List Choice) (v : Option ℤ) (args : Option (List ℤ)) → IsDetermined (Asserts defs predicate h rest place choices v args)
asserts defs predicate h rest place choices None args = λ r s i j. joined i j
asserts defs predicate h rest place choices (Some v) None = λ r s i j. joined i j
asserts defs predicate h rest place choices (Some v) (Some args) = demands _ _ h rest place choices

returns_one : (p : Program) (h : Here) (right : Option Right) (rest : Tasks) (place : Place) (choices : List Choice) → IsDetermined (Returns p h right rest place choices)
returns_one p h None rest place choices = λ r s i j. joined i j
returns_one p h (Some (expression e)) rest place choices = with_value h e place choices _ (λ v left r s i j. joined i j)
returns_one p h (Some (result_of c)) rest place choices = passes p h c _ place rest choices
returns_one p h (Some (allocation shape fields)) rest place choices = allocates h.heap shape fields choices _ (λ v heap left r s i j. joined i j)

tests : (h : Here) (c : Cond) (a b : Branch) (choices : List Choice) → IsDetermined (Tests h c a b choices)
tests h (plain at e) a b choices = with_value h e _ choices _ (λ v left r s i j. joined i j)
tests h (compare at c x y) a b choices = with_value h x _ choices _ (λ v left. with_value h y _ left _ (λ w more r s i j. joined i j))
tests h (negation c) a b choices = λ r s i j. elim i [ ]
tests h (both c d) a b choices = λ r s i j. elim i [ ]
tests h (either c d) a b choices = λ r s i j. elim i [ ]

executes : (p : Program) (h : Here) (a : Stmt) (rest : Tasks) (choices : List Choice) → IsDetermined (Executes p h a rest choices)
executes p h (declaration place items) rest choices = declares_first p h items place rest choices
executes p h (simple x) rest choices = performs p h x.action x.place rest choices
executes p h (free place e) rest choices = with_value h e place choices _ (λ v left r s i j. joined i j)
executes p h (assume_shape place predicate x args) rest choices = assumes p.defs predicate h x rest place choices _
executes p h (assert_shape place predicate a args) rest choices = asserts p.defs predicate h rest place choices _ _
executes p h (assert_empty place) rest choices = demands _ _ h rest place choices
executes p h (returns place right) rest choices = returns_one p h right rest place choices
executes p h (block xs ss) rest choices = λ r s i j. elim i [ ]
executes p h empty rest choices = λ r s i j. elim i [ ]
executes p h (assert place c) rest choices = λ r s i j. elim i [ ]
executes p h (assume place c) rest choices = λ r s i j. elim i [ ]
executes p h (if_only place c a) rest choices = λ r s i j. elim i [ ]
executes p h (if_else place c a b) rest choices = λ r s i j. elim i [ ]
executes p h (while_loop place c a) rest choices = λ r s i j. elim i [ ]
executes p h (do_loop place a c) rest choices = λ r s i j. elim i [ ]
executes p h (for_loop head a) rest choices = λ r s i j. elim i [ ]
executes p h (break_loop place) rest choices = λ r s i j. elim i [ ]
executes p h (continue_loop place) rest choices = λ r s i j. elim i [ ]

does : (p : Program) (h : Here) (tasks : Tasks) (choices : List Choice) → IsDetermined (Does p h tasks choices)
does p h done choices = λ r s i j. joined i j
does p h (task (perform a) rest) choices = executes p h a rest choices
does p h (task (again c a last) rest) choices = λ r t i j. elim i [ ]
does p h (task (test c a b) rest) choices = tests h c a b choices
does p h (task (always go) rest) choices = λ r s i j. joined i j
does p h (task (end_block xs) rest) choices = λ r t i j. elim i [ ]
does p h (task (end_loop xs) rest) choices = λ r t i j. elim i [ ]
does p h (task end_turn rest) choices = λ r t i j. elim i [ ]
does p h (task (end_call saved target) rest) choices = λ r t i j. elim i [ ]
does p h (task (take_result target v) rest) choices = λ r s i j. joined i j

-- there is one place at which the next step is
pub one_arrival : {v w v' : Values} {ts us us' : Tasks} → Arrives v ts w us → Arrives v ts v' us' → (w ≡ v') × (us ≡ us')
one_arrival (here none) (here none') = (refl, refl)
one_arrival (here none) (there some path) = absurd (never_both none some)
one_arrival (there some path) (here none) = absurd (never_both none some)
one_arrival {v' = v'} {us' = us'} (there {later = later} {next = next} some path) (there {later = later'} {next = next'} some' path') =
    let e : Some (later', next') ≡ Some (later, next) = sym some' ∙ some in
    let first : later' ≡ later = ap (first_of later) e in
    let second : next' ≡ next = ap (second_of next) e in
    one_arrival path (subst (λ z. Arrives z next v' us') first (subst (λ z. Arrives later' z v' us') second path'))

one_step : (p : Program) (c : Config) (choices : List Choice) → IsDetermined (Step p c choices)
one_step p c choices r s (v, ts, is, i) (w, us, is', j) =
    let same = one_arrival is is' in
    does p (record { values = v; heap = c.heap }) ts choices r s i
    (subst (λ z. Does p (record { values = z; heap = c.heap }) ts choices s) (sym same.0) (subst (λ z. Does p (record { values = w; heap = c.heap }) z choices s) (sym same.1) j))

pub source_once : (p : Program) → IsOnce (Step p)
source_once p c choices r s i j = one_step p c choices r s i j
