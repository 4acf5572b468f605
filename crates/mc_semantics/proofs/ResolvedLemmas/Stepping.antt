-- Each step of a program is one of its resolved program, and the other way round.
use Rattle.std.proofs.Common.{◌≡◌, ℕ, zero, suc, ℤ, pos, ◌+ℤ◌, ◌-ℤ◌, List, [], ◌∷◌, Option, Some, None, map, refl, sym, subst, arith}
use Rattle.std.specs.Prelude.{◌==◌, option_map}
use Rattle.std.specs.FinMap as map
use Rattle.mc_base.specs.declared.text.place.Place.{Place}
use Rattle.mc_flow.specs.Runs.{next}
use Rattle.mc_flow.specs.Heap.Heap.{Block, Heap, region_of}
use Rattle.mc_flow.specs.Heap.Access.{fresh_block}
use Rattle.mc_flow.specs.Heap.Choices.{Choice, input as choose_input, malloc as choose_malloc, shape as choose_shape}
use Rattle.mc_flow.specs.declared.defs.rules.Def.{Def}
use Rattle.mc_flow.specs.Values.{address, all_there}
use Rattle.mc_c_syntax.specs.declared.ast.trees.Malloc.{Malloc}
use Rattle.mc_c_syntax.specs.Ast.Trees as tree
use Rattle.mc_c_types.specs.Tables.{Tables, Variable, parameters_of, called_function}
use Rattle.mc_semantics.specs.Configs as named
use Rattle.mc_semantics.specs.Values as named_values
use Rattle.mc_semantics.specs.Values.{Evaluated, fault_of, value_of}
use Rattle.mc_semantics.specs.Steps as named_steps
use Rattle.mc_semantics.specs.Steps.{where_is, Arguments, no_arguments, arguments, AfterFirst, put_before, simple_place, predicate_of, field_count, compares}
use Rattle.mc_semantics.specs.Resolved.Programs.{number}
use Rattle.mc_semantics.specs.Resolved.Configs.{Values, Target, Tasks, Result}
use Rattle.mc_semantics.specs.Resolved.Values as numbered_values
use Rattle.mc_semantics.specs.Resolved.Values.{Evaluates, Changed}
use Rattle.mc_semantics.specs.Resolved.Steps as steps
use Rattle.mc_semantics.specs.Resolved.Steps.{Here}
use Rattle.mc_semantics.specs.Resolved.Resolving.{Naming, statements_variables, body_statements, function_variables, resolved_left, resolved_expression, resolved_call, allocated_struct, resolved_right, resolved_action, resolved_function, resolved_program}
use Rattle.mc_semantics.specs.Resolved.Running.{AreKnown, Agree, naming, SameTarget, same_nowhere, same_stored, SameTasks, same_done, same_task, ends_call, performs, declares, finishes, again_while, again_do, again_for, tests, goes, ends_block, ends_loop, ends_turn, takes, SameResult, both_go, both_end}
use Rattle.mc_semantics.proofs.ResolvedLemmas.Computing.{value_forth, value_back, SameChange, same_fault, same_change, chosen, assigned_alike, combined_alike}
use Rattle.mc_semantics.proofs.ResolvedLemmas.Moving.{given_same}
use Rattle.mc_semantics.proofs.ResolvedLemmas.Passing.{passed_agree, function_same, called_same}

-- each outcome of the one has one of the other that is the same
abbrev pub BothWays : Tables → List Def → (named.Result → Type 0) → (Result → Type 0) → Type 0
BothWays t defs P Q =
    ((r : named.Result) → P r → (s : Result) × Q s × SameResult t defs r s)
    × ((s : Result) → Q s → (r : named.Result) × P r × SameResult t defs r s)

pub equal_both : (t : Tables) (defs : List Def) {x : named.Result} {y : Result} → SameResult t defs x y → BothWays t defs (λ r. r ≡ x) (λ s. s ≡ y)
equal_both t defs {x} {y} same = (
  λ r e. (y, refl, subst (λ z. SameResult t defs z y) (sym e) same),
  λ s e. (x, refl, subst (λ z. SameResult t defs x z) (sym e) same),
)

pub never_both : (t : Tables) (defs : List Def) → BothWays t defs (λ r. ⊥) (λ s. ⊥)
never_both t defs = (λ r bad. absurd bad, λ s bad. absurd bad)

-- what is around a step: the function's variables, which are visible, and what they hold
pub record Around : Type 0 where
  pub t : Tables
  pub defs : List Def
  pub locals : List Variable
  pub vs : List Variable
  pub values : named.Values
  pub numbered : Values
  pub heap : Heap
  pub agree : Agree locals values numbered
  pub known : AreKnown locals vs

abbrev pub naming_in : Around → Naming
naming_in a = naming a.t a.defs a.locals

abbrev pub there : Around → named_values.Here
there a = where_is a.t a.vs a.values a.heap

abbrev pub here : Around → Here
here a = record { values = a.numbered; heap = a.heap }

abbrev pub Both : Around → (named.Result → Type 0) → (Result → Type 0) → Type 0
Both a P Q = BothWays a.t a.defs P Q

abbrev pub Same : Around → named.Tasks → Tasks → Type 0
Same a rest more = SameTasks a.t a.defs a.locals rest more

-- ---- what a step leads to
pub going : (t : Tables) (defs : List Def) (locals : List Variable) {values : named.Values} {numbered : Values} {rest : named.Tasks} {more : Tasks} (heap : Heap) (choices : List Choice) → Agree locals values numbered → SameTasks t defs locals rest more
    → SameResult t defs (next (record { tasks = rest; values = values; heap = heap }) choices) (next (record { tasks = more; values = numbered; heap = heap }) choices)
going t defs locals heap choices agree same = both_go (record { locals = locals; tasks = same; values = agree; heap = refl })

pub after_same : (t : Tables) (defs : List Def) (locals : List Variable) {rest : named.Tasks} {more : Tasks} {x : named_values.Changed} {y : Changed} (place : Place) (choices : List Choice) → SameTasks t defs locals rest more → SameChange locals x y
    → SameResult t defs (named_steps.after rest place choices x) (steps.after more place choices y)
after_same t defs locals place choices same same_fault = both_end
after_same t defs locals place choices same (same_change {heap = heap} agree) = going t defs locals heap choices agree same

pub with_value : (a : Around) (e : tree.Expr) (place : Place) (choices : List Choice) (go : Option ℤ → List Choice → named.Result → Type 0) (on : Option ℤ → List Choice → Result → Type 0)
    → ((v : Option ℤ) (left : List Choice) → Both a (go v left) (on v left))
    → Both a (named_steps.WithValue (there a) e place choices go) (steps.WithValue (here a) (resolved_expression (naming_in a) a.vs e) place choices on)
with_value a e place choices go on same = (forth, back)
  where
    after_forth : (one : Evaluated) (r : named.Result) → named_steps.AfterValue place go one r → (s : Result) × steps.AfterValue place on one s × SameResult a.t a.defs r s
    after_forth (fault_of kind) r is = (equal_both a.t a.defs both_end).0 r is
    after_forth (value_of v left) r is = (same v left).0 r is

    after_back : (one : Evaluated) (s : Result) → steps.AfterValue place on one s → (r : named.Result) × named_steps.AfterValue place go one r × SameResult a.t a.defs r s
    after_back (fault_of kind) s is = (equal_both a.t a.defs both_end).1 s is
    after_back (value_of v left) s is = (same v left).1 s is

    forth : (r : named.Result) → named_steps.WithValue (there a) e place choices go r → (s : Result) × steps.WithValue (here a) (resolved_expression (naming_in a) a.vs e) place choices on s × SameResult a.t a.defs r s
    forth r (one, is, rest) =
        let k = after_forth one r rest in
        (k.0, (one, value_forth a.t a.defs a.locals a.vs a.values a.numbered a.heap a.agree a.known e choices one is, k.1), k.2)

    back : (s : Result) → steps.WithValue (here a) (resolved_expression (naming_in a) a.vs e) place choices on s → (r : named.Result) × named_steps.WithValue (there a) e place choices go r × SameResult a.t a.defs r s
    back s (one, is, rest) =
        let k = after_back one s rest in
        (k.0, (one, value_back a.t a.defs a.locals a.vs a.values a.numbered a.heap a.agree a.known e choices one is, k.1), k.2)

-- the function goes back
record Back (t : Tables) (defs : List Def) (saved : named.Values × named.Tasks) (kept : Values × Tasks) : Type 0 where
  locals : List Variable
  agree : Agree locals saved.0 kept.0
  same : SameTasks t defs locals saved.1 kept.1

returning_same : (t : Tables) (defs : List Def) {locals : List Variable} {ts : named.Tasks} {us : Tasks} → SameTasks t defs locals ts us → (v : Option ℤ) → Back t defs (named_steps.returning ts v) (steps.returning us v)
returning_same t defs same_done v = record { locals = []; agree = record { same_length = refl; same = λ p known. absurd (omega (arith, known)) }; same = same_done }
returning_same t defs (ends_call {caller = caller} before target rest) v = record { locals = caller; agree = before; same = given_same t defs caller v target rest }
returning_same t defs (tests known a b) v = record { locals = []; agree = record { same_length = refl; same = λ p known. absurd (omega (arith, known)) }; same = same_done }
returning_same t defs (same_task (performs known new) rest) v = returning_same t defs rest v
returning_same t defs (same_task (declares known new) rest) v = returning_same t defs rest v
returning_same t defs (same_task (finishes known) rest) v = returning_same t defs rest v
returning_same t defs (same_task (again_while known new) rest) v = returning_same t defs rest v
returning_same t defs (same_task (again_do known new) rest) v = returning_same t defs rest v
returning_same t defs (same_task (again_for known new) rest) v = returning_same t defs rest v
returning_same t defs (same_task (goes go) rest) v = returning_same t defs rest v
returning_same t defs (same_task (ends_block known) rest) v = returning_same t defs rest v
returning_same t defs (same_task (ends_loop known) rest) v = returning_same t defs rest v
returning_same t defs (same_task ends_turn rest) v = returning_same t defs rest v
returning_same t defs (same_task (takes target) rest) v = returning_same t defs rest v

pub gone_back_same : (t : Tables) (defs : List Def) {locals : List Variable} {ts : named.Tasks} {us : Tasks} (heap : Heap) (choices : List Choice) (v : Option ℤ) → SameTasks t defs locals ts us
    → SameResult t defs (named_steps.gone_back heap ts v choices) (steps.gone_back heap us v choices)
gone_back_same t defs heap choices v same =
    let back = returning_same t defs same v in going t defs back.locals heap choices back.agree back.same

pub returned_same : (t : Tables) (defs : List Def) {locals : List Variable} {ts : named.Tasks} {us : Tasks} (heap : Heap) (place : Place) (choices : List Choice) (v : Option ℤ) → SameTasks t defs locals ts us
    → SameResult t defs (named_steps.returned_value heap ts place choices v) (steps.returned_value heap us place choices v)
returned_same t defs heap place choices None same = both_end
returned_same t defs heap place choices (Some v) same = gone_back_same t defs heap choices (Some v) same

-- ---- memory
pub allocates_both : (a : Around) (m : Malloc) (choices : List Choice) (go : ℤ → Heap → List Choice → named.Result → Type 0) (on : ℤ → Heap → List Choice → Result → Type 0)
    → ((v : ℤ) (heap : Heap) (left : List Choice) → Both a (go v heap left) (on v heap left))
    → Both a (named_steps.Allocates (there a) m choices go) (steps.Allocates a.heap (allocated_struct a.t a.vs m) (field_count a.t (allocated_struct a.t a.vs m)) choices on)
allocates_both a m [] go on same = never_both a.t a.defs
allocates_both a m (choose_input v ∷ choices) go on same = never_both a.t a.defs
allocates_both a m (choose_shape v blocks ∷ choices) go on same = never_both a.t a.defs
allocates_both a m (choose_malloc zero ∷ choices) go on same = same (pos 0) a.heap choices
allocates_both a m (choose_malloc (suc n) ∷ choices) go on same =
    let both = same (pos (suc n)) (map.insert a.heap (suc n) (fresh_block (allocated_struct a.t a.vs m) (field_count a.t (allocated_struct a.t a.vs m)))) choices in
    (λ r is. (let k = both.0 r is.2 in (k.0, (is.0, is.1, k.1), k.2)), λ s is. (let k = both.1 s is.2 in (k.0, (is.0, is.1, k.1), k.2)))

freed_at_same : (a : Around) (at : ℕ) (b : Option Block) → SameChange a.locals (named_steps.freed_at (there a) at b) (steps.freed_at (here a) at b)
freed_at_same a at None = same_fault
freed_at_same a at (Some b) = same_change a.agree

pub freed_same : (a : Around) (v : Option ℤ) → SameChange a.locals (named_steps.freed (there a) v) (steps.freed (here a) v)
freed_same a None = same_fault
freed_same a (Some p) = chosen a.locals (address p == 0) (same_change a.agree) (freed_at_same a (address p) (region_of a.heap (address p)))

-- ---- calls
first_forth : (P Q : List Choice → Arguments → Type 0) (one : Evaluated) (all : Arguments) → ((left : List Choice) (r : Arguments) → P left r → Q left r) → AfterFirst P one all → AfterFirst Q one all
first_forth P Q (fault_of kind) all within is = is
first_forth P Q (value_of v left) all within (others, p, e) = (others, within left others p, e)

all_forth : (a : Around) (es : List tree.Expr) (choices : List Choice) (all : Arguments) → named_steps.EvaluateAll (there a) es choices all → steps.EvaluateAll (here a) (map (resolved_expression (naming_in a) a.vs) es) choices all
all_forth a [] choices all is = is
all_forth a (e ∷ es) choices all (one, is, rest) =
    (one, value_forth a.t a.defs a.locals a.vs a.values a.numbered a.heap a.agree a.known e choices one is, first_forth _ _ one all (λ left r p. all_forth a es left r p) rest)

all_back : (a : Around) (es : List tree.Expr) (choices : List Choice) (all : Arguments) → steps.EvaluateAll (here a) (map (resolved_expression (naming_in a) a.vs) es) choices all → named_steps.EvaluateAll (there a) es choices all
all_back a [] choices all is = is
all_back a (e ∷ es) choices all (one, is, rest) =
    (one, value_back a.t a.defs a.locals a.vs a.values a.numbered a.heap a.agree a.known e choices one is, first_forth _ _ one all (λ left r p. all_back a es left r p) rest)

begun_same : (a : Around) (f : tree.FunctionTree) (place : Place) (choices : List Choice) (vs : Option (List ℤ)) {target : named.Target} {goal : Target} {rest : named.Tasks} {more : Tasks} → SameTarget a.t a.defs a.locals target goal → Same a rest more
    → SameResult a.t a.defs (named_steps.begun (there a) f target place rest choices vs) (steps.begun (here a) (resolved_function a.t a.defs f) goal place more choices vs)
begun_same a f place choices None target rest = both_end
begun_same a f place choices (Some vs) target rest =
    going a.t a.defs (function_variables a.t f) a.heap choices (passed_agree (parameters_of a.t f) (statements_variables a.t (body_statements f)) vs)
    (function_same a.t a.defs f (ends_call a.agree target rest))

after_arguments : (a : Around) (f : Option tree.FunctionTree) (place : Place) (all : Arguments) {target : named.Target} {goal : Target} {rest : named.Tasks} {more : Tasks} → SameTarget a.t a.defs a.locals target goal → Same a rest more
    → Both a (named_steps.AfterArguments (there a) f target place rest all) (steps.AfterArguments (here a) (option_map (resolved_function a.t a.defs) f) goal place more all)
after_arguments a None place (no_arguments kind) target rest = equal_both a.t a.defs both_end
after_arguments a (Some f) place (no_arguments kind) target rest = equal_both a.t a.defs both_end
after_arguments a None place (arguments vs choices) target rest = never_both a.t a.defs
after_arguments a (Some f) place (arguments vs choices) target rest = equal_both a.t a.defs (begun_same a f place choices (all_there vs) target rest)

pub passes_both : (a : Around) (entry : List ℕ) (c : tree.CallTree) (place : Place) (choices : List Choice) {target : named.Target} {goal : Target} {rest : named.Tasks} {more : Tasks} → SameTarget a.t a.defs a.locals target goal → Same a rest more
    → Both a (named_steps.Passes (there a) c target place rest choices) (steps.Passes (resolved_program a.t a.defs entry) (here a) (resolved_call (naming_in a) a.vs c) goal place more choices)
passes_both a entry c place choices {target} {goal} {rest} {more} same_target same = (
  λ r is.
      let k = (after_arguments a (called_function a.t c.function.text) place is.0 same_target same).0 r is.2 in (
        k.0,
        (
          is.0,
          all_forth a c.arguments choices is.0 is.1,
          subst (λ f. steps.AfterArguments (here a) f goal place more is.0 k.0) (sym (called_same a.t a.defs entry c.function.text)) k.1,
        ),
        k.2,
      ),
  λ s is.
      let k = (after_arguments a (called_function a.t c.function.text) place is.0 same_target same).1 s
      (subst (λ f. steps.AfterArguments (here a) f goal place more is.0 s) (called_same a.t a.defs entry c.function.text) is.2) in
      (k.0, (is.0, all_back a c.arguments choices is.0 is.1, k.1), k.2),
)

-- ---- simple statements
-- the left side is sought among these variables, the right one among those that are visible
pub assigns_both : (a : Around) (entry : List ℕ) (own : List Variable) (l : tree.Left) (right : tree.Right) (place : Place) (choices : List Choice) {rest : named.Tasks} {more : Tasks} → AreKnown a.locals own → Same a rest more
    → Both a (named_steps.Assigns (there a) own l right place rest choices)
    (steps.Assigns (resolved_program a.t a.defs entry) (here a) (resolved_left (naming_in a) own l) (resolved_right (naming_in a) a.vs right) place more choices)
assigns_both a entry own l (tree.expression e) place choices own_known same =
    with_value a e place choices _ _ (λ v left. equal_both a.t a.defs (after_same a.t a.defs a.locals place left same (assigned_alike a.t a.defs a.locals own a.values a.numbered a.heap l v a.agree own_known)))
assigns_both a entry own l (tree.result_of c) place choices own_known same = passes_both a entry c place choices (same_stored own_known) same
assigns_both a entry own l (tree.allocation m) place choices own_known same =
    allocates_both a m choices _ _ (λ v heap left. equal_both a.t a.defs (after_same a.t a.defs a.locals place left same (assigned_alike a.t a.defs a.locals own a.values a.numbered heap l (Some v) a.agree own_known)))

combines_both : (operation : ℤ → ℤ → ℤ) (a : Around) (l : tree.Left) (e : tree.Expr) (place : Place) (choices : List Choice) {rest : named.Tasks} {more : Tasks} → Same a rest more
    → Both a (named_steps.Combines operation (there a) l e place rest choices) (steps.Combines operation (here a) (resolved_left (naming_in a) a.vs l) (resolved_expression (naming_in a) a.vs e) place more choices)
combines_both operation a l e place choices same =
    with_value a e place choices _ _ (λ v left. equal_both a.t a.defs (after_same a.t a.defs a.locals place left same (combined_alike operation a.t a.defs a.locals a.vs a.values a.numbered a.heap l v a.agree a.known)))

-- by one
counts_both : (operation : ℤ → ℤ → ℤ) (a : Around) (l : tree.Left) (place : Place) (choices : List Choice) {rest : named.Tasks} {more : Tasks} → Same a rest more
    → Both a (λ r. r ≡ named_steps.after rest place choices (named_values.combined operation (there a) l (Some (pos 1)))) (steps.Combines operation (here a) (resolved_left (naming_in a) a.vs l) (number 1) place more choices)
counts_both operation a l place choices {rest} {more} same = (
  λ r is. (steps.after more place choices y, (value_of (Some (pos 1)) choices, refl, refl), subst (λ z. SameResult a.t a.defs z (steps.after more place choices y)) (sym is) alike),
  λ s is. (x, refl, subst (λ z. SameResult a.t a.defs x z) (sym (back s is.0 is.1 is.2)) alike),
)
  where
    x : named.Result
    x = named_steps.after rest place choices (named_values.combined operation (there a) l (Some (pos 1)))

    y : Changed
    y = numbered_values.combined operation a.numbered a.heap (resolved_left (naming_in a) a.vs l) (Some (pos 1))

    alike : SameResult a.t a.defs x (steps.after more place choices y)
    alike = after_same a.t a.defs a.locals place choices same (combined_alike operation a.t a.defs a.locals a.vs a.values a.numbered a.heap l (Some (pos 1)) a.agree a.known)

    back : (s : Result) (one : Evaluated) → one ≡ value_of (Some (pos 1)) choices
        → steps.AfterValue place (λ v left other. other ≡ steps.after more place left (numbered_values.combined operation a.numbered a.heap (resolved_left (naming_in a) a.vs l) v)) one s
        → s ≡ steps.after more place choices y
    back s one e is = subst (λ z. steps.AfterValue place (λ v left other. other ≡ steps.after more place left (numbered_values.combined operation a.numbered a.heap (resolved_left (naming_in a) a.vs l) v)) z s) e is

pub performs_both : (a : Around) (entry : List ℕ) (x : tree.SimpleTree) (place : Place) (choices : List Choice) {rest : named.Tasks} {more : Tasks} → Same a rest more
    → Both a (named_steps.Performs (there a) x place rest choices) (steps.Performs (resolved_program a.t a.defs entry) (here a) (resolved_action (naming_in a) a.vs x) place more choices)
performs_both a entry (tree.assign l right) place choices same = assigns_both a entry a.vs l right place choices a.known same
performs_both a entry (tree.add l e) place choices same = combines_both (λ x y. x +ℤ y) a l e place choices same
performs_both a entry (tree.subtract l e) place choices same = combines_both (λ x y. x -ℤ y) a l e place choices same
performs_both a entry (tree.increment l) place choices same = counts_both (λ x y. x +ℤ y) a l place choices same
performs_both a entry (tree.decrement l) place choices same = counts_both (λ x y. x -ℤ y) a l place choices same
performs_both a entry (tree.increment_first p l) place choices same = counts_both (λ x y. x +ℤ y) a l place choices same
performs_both a entry (tree.decrement_first p l) place choices same = counts_both (λ x y. x -ℤ y) a l place choices same
performs_both a entry (tree.call c) place choices same = passes_both a entry c place choices same_nowhere same
